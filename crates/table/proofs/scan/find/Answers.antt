use Rattle.std.proofs.Common.{sym, ◌∙◌, rules}
use borrow.Author.Tests.{tests}
use Rattle.std.proofs.lemmas.Iterator.{YieldsList-from_slice}
use Rattle.std.proofs.lemmas.Iterator.Search.{find_from_yields_List}
use Rattle.table.specs.Ids.{by, number}
use Rattle.table.specs.Tables.{named_so}
use Rattle.table.proofs.Walks.{lookup_from_find}
use Rattle.table.proofs.scan.find.Goals as goal

pub returns : goal.returns
returns g c =
    let key = by g.R.Row.named in
    let k = number c.args.id in
    c.copied.ensures
    ∙ find_from_yields_List (named_so key k) _ _ c.find.result c.find.ensures.ran (YieldsList-from_slice _ c.iter.ensures.rest) (λ x b q h. search (rules, tests))
    ∙ sym (lookup_from_find key k c.args.rows.now)
