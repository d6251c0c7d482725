use Rattle.std.proofs.Common.{◌≡◌, false, eqb, leb, length, ◌∙◌, arith, rules}
use Rattle.std.proofs.lemmas.Bool.Decides.{nat_tests}
use Rattle.std.proofs.lemmas.Iterator.{YieldsList-from_slice, YieldsList-from_zip}
use Rattle.std.proofs.lemmas.Iterator.Search.{all_from_yields_List}
use Rattle.compactions.specs.Meanings.{sst_of}
use Rattle.worker_steps.proofs.Extending.{outputs_short, outputs_paired}
use Rattle.worker_steps.proofs.context.outputs_extend.Goals as goal

pub returns-then-old-new : goal.returns-then-old-new
returns-then-old-new c =
    all_from_yields_List (λ p. eqb (sst_of p.0) (sst_of p.1)) c.all.new.self _ c.all.result c.all.ensures.ran (YieldsList-from_zip (YieldsList-from_slice c.args.old.now cc) (YieldsList-from_slice c.args.new.now cc)) (λ x b q k. search rules)
    ∙ outputs_paired sst_of _ _ c.if-old-new.true

pub returns-else-old-new : goal.returns-else-old-new
returns-else-old-new c =
    let e : leb (length c.args.old.now) (length c.args.new.now) ≡ false = let n = c.if-old-new.false in grind (arith, nat_tests) in
    e ∙ outputs_short sst_of _ _ c.if-old-new.false
