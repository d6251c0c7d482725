use Rattle.std.proofs.Common.{not, ap, ◌∙◌, rules}
use borrow.Author.Tests.{tests}
use Rattle.std.specs.Option.{option_map}
use Rattle.std.proofs.lemmas.Iterator.{YieldsList-from_slice}
use Rattle.std.proofs.lemmas.Iterator.Search.{find_from_yields_List}
use Rattle.compactions.specs.Jobs.{args_of}
use Rattle.compactions.proofs.Segments.{seen_through}
use Rattle.marking.specs.Marking.{claim_holds, part_of}
use Rattle.marking.proofs.Claims.{wrong_from_find, same_option}
use Rattle.marking.proofs.answer.first_wrong.Goals as goal

pub returns : goal.returns
returns c =
    let a = args_of c.args.args.now in
    let found = find_from_yields_List (λ x. not (claim_holds x a)) _ _ c.find-wrong.result c.find-wrong.ensures.ran (YieldsList-from_slice _ c.iter.ensures.rest) (λ x b q h. search (rules, tests)) in
    same_option c.map.result
    ∙ seen_through part_of (λ p. p) _ c.find-wrong.result c.map.result c.map.ensures.cases (λ x y h. search rules)
    ∙ ap (option_map part_of) found
    ∙ wrong_from_find a c.args.claims.now
