use Rattle.std.proofs.Common.{◌/◌, length, ◌∙◌, Err, ap, arith}
use Rattle.std.proofs.lemmas.Result.{err_from_is_err_and}
use Rattle.std.proofs.lemmas.Bool.{ltb-false}
use Rattle.paper_text.specs.Numbers.{held_bytes}
use Rattle.paper_text.proofs.HexBytes.{push_refused, pairs_are, bytes_over}
use Rattle.paper_text.proofs.segments.bytes_of.Goals as goal

pub loop-high-init : goal.loop-high-init
loop-high-init g c =
    let ds = c.args.digits.now in
    rw (c.new-bytes.ensures, c.as_chunks.ensures.front) (pairs_are (length ds / 2) ds (omega arith) (omega arith))

pub returns-in_err-push : goal.returns-in_err-push
returns-in_err-push g c =
    let p = err_from_is_err_and c.from_residual.result c.from_residual.ensures.1 in
    let q = push_refused c.push.result _ c.args.over _ c.in_err-push.was c.push.ensures.value in
    ap held_bytes p.1 ∙ ap Err (p.2 ∙ q.0)
    ∙ bytes_over c.args.over _ _ _ _ c.loop-high.invariant c.loop-high-test.true (ltb-false _ _ q.1)
