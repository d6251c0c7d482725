use Rattle.std.proofs.Common.{eqb, ◌∙◌, rules, tests}
use Rattle.std.proofs.lemmas.Iterator.{YieldsList-from_slice}
use Rattle.std.proofs.lemmas.Iterator.Search.{any_from_yields_List}
use Rattle.paper.specs.Answers.{said_of, kind, place}
use Rattle.paper.proofs.KeyScans.{has_key_is}
use Rattle.paper.proofs.answer_lines.has_part.Goals as goal

pub returns : goal.returns
returns c =
    any_from_yields_List (λ s. eqb (kind (said_of s)) (place c.args.part)) _ _ c.any.result c.any.ensures.ran (YieldsList-from_slice c.args.claims.now cc) (λ x b q k. search (rules, tests))
    ∙ has_key_is said_of kind (place c.args.part) c.args.claims.now
