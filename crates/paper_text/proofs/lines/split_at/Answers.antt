use Rattle.std.proofs.Common.{◌≡◌, arith, rules, tests}
use Rattle.std.proofs.lemmas.Iterator.{IsFirst-from_position, YieldsList-from_slice}
use Rattle.paper_text.proofs.Scans.{parts_cut, parts_none}
use Rattle.paper_text.proofs.lines.split_at.Goals as goal

pub returns-in_err-at : goal.returns-in_err-at
returns-in_err-at c =
    let found = IsFirst-from_position _ _ c.position.result (λ x. x ≡ c.args.mark) (λ x. x ≡ c.args.mark → ⊥) c.position.ensures.ran (YieldsList-from_slice c.args.bytes.now cc) (λ x q k. search (rules, tests)) (λ x q k. search (rules, tests)) in
    let none = rw c.in_err-at.was at found in
    rw c.from_residual.ensures (parts_none _ _ (λ k h. none k 0 (omega arith) h))

pub returns : goal.returns
returns c =
    let found = IsFirst-from_position _ _ c.position.result (λ x. x ≡ c.args.mark) (λ x. x ≡ c.args.mark → ⊥) c.position.ensures.ran (YieldsList-from_slice c.args.bytes.now cc) (λ x q k. search (rules, tests)) (λ x q k. search (rules, tests)) in
    let some = rw c.in_ok-at.was at found in
    parts_cut _ _ _ (λ k h. some.2 k 0 (omega arith) h) some.0 (some.1 0)
