use Rattle.std.proofs.Common.{eqb, ◌∙◌, rules, tests}
use Rattle.std.proofs.lemmas.Iterator.{YieldsList-from_slice}
use Rattle.std.proofs.lemmas.Iterator.Search.{any_from_yields_List}
use Rattle.table.specs.Ids.{number}
use Rattle.paper.specs.Readings.{asked_of}
use Rattle.paper.proofs.KeyScans.{has_key_is}
use Rattle.paper.proofs.entries.has_id.Goals as goal

pub returns : goal.returns
returns c =
    any_from_yields_List (λ q. eqb (number q.entry.id) (number c.args.id)) _ _ c.any.result c.any.ensures.ran (YieldsList-from_slice c.args.questions.now cc) (λ x b q k. search (rules, tests))
    ∙ has_key_is asked_of (λ q. q.entry.id) (number c.args.id) c.args.questions.now
