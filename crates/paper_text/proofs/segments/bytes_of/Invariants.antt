use Rattle.std.proofs.Common.{◌≡◌, ◌++◌, map, drop}
use Rattle.table.specs.Counted.{items_of}
use Rattle.paper_text.specs.Numbers.{pairs}
use Rattle.paper_text.proofs.HexBytes.{byte_of}
use Rattle.paper_text.proofs.segments.bytes_of.Given as goal

-- the bytes so far, and those of the digits that are left
abbrev pub invariant-loop-high : goal.invariant-loop-high
invariant-loop-high g l = items_of l.bytes ++ map byte_of (drop l.high-index l.pairs) ≡ pairs l.digits
