use Rattle.std.proofs.Common.{eqb, ◌∙◌, rules}
use borrow.Author.Tests.{tests}
use Rattle.std.proofs.lemmas.Iterator.Adapters.{YieldsList-from_rev_slice}
use Rattle.std.proofs.lemmas.Iterator.Search.{find_from_yields_List}
use Rattle.argument_check.proofs.Lookups.{last_found}
use Rattle.argument_check.proofs.sourced.last_with.Goals as goal

pub returns : goal.returns
returns g c =
    let key = g.R.Sourced.named in
    let k = c.args.key in
    c.copied.ensures
    ∙ find_from_yields_List (λ x. eqb k (key x)) _ _ c.find.result c.find.ensures.ran (YieldsList-from_rev_slice c.args.rows.now (cc)) (λ x b q h. search (rules, tests))
    ∙ last_found key k c.args.rows.now
