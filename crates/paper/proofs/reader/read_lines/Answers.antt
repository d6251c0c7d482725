use Rattle.std.proofs.Common.{inl, arith}
use Rattle.paper.proofs.LineCounts.{lines_le}
use Rattle.paper.proofs.reader.read_lines.Goals as goal

pub loop-i-init-derived : goal.loop-i-init-derived
loop-i-init-derived c =
    let n = lines_le c.args.bytes.now in
    ((tt, tt, inl (rw (c.into_iter-i-iterator.ensures.into_iter_gives, c.enumerate-i-items.ensures.count, c.enumerate-i-items.ensures.source, c.of.ensures) (omega arith))), tt)

pub loop-i-init : goal.loop-i-init
loop-i-init c = (
  loop-i-init-derived c,
  rw (c.into_iter-i-iterator.ensures.into_iter_gives, c.enumerate-i-items.ensures.count, c.enumerate-i-items.ensures.source, c.of.ensures),
  rw (c.into_iter-i-iterator.ensures.into_iter_gives, c.enumerate-i-items.ensures.count, c.enumerate-i-items.ensures.source, c.of.ensures) (omega arith),
)
