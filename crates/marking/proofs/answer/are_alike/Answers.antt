use Rattle.std.proofs.Common.{◌∙◌, arith, rules}
use borrow.Author.Tests.{tests}
use Rattle.std.proofs.lemmas.Iterator.{YieldsList-from_slice, YieldsList-from_zip}
use Rattle.std.proofs.lemmas.Iterator.Search.{all_from_yields_List}
use Rattle.marking.proofs.Alike.{pairs_alike}
use Rattle.marking.proofs.answer.are_alike.Goals as goal

pub returns : goal.returns
returns g c = λ e says.
    all_from_yields_List (λ p. e p.0 p.1) c.all.new.self _ c.all.result c.all.ensures.ran (YieldsList-from_zip (YieldsList-from_slice c.args.xs.now (cc)) (YieldsList-from_slice c.args.ys.now (cc))) (λ x b q h. search (rules, tests, says))
    ∙ pairs_alike e c.args.xs.now c.args.ys.now (omega (arith, c.if-xs-ys.false))
