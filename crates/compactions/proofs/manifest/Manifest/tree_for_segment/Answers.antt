use Rattle.std.proofs.Common.{map, sym, ap, ◌∙◌, rules}
use borrow.Author.Tests.{tests}
use Rattle.std.specs.Option.{option_map}
use Rattle.std.specs.Str.{bytes_eq}
use Rattle.std.proofs.lemmas.Iterator.{YieldsList-from_slice}
use Rattle.std.proofs.lemmas.Iterator.Search.{find_from_yields_List}
use Rattle.compactions.specs.Trees.{named}
use Rattle.compactions.specs.Meanings.{segment_of, tree_of, manifest_of}
use Rattle.compactions.proofs.Segments.{tree_for_named, named_from_find, seen_through}
use Rattle.compactions.proofs.manifest.Manifest.tree_for_segment.Goals as goal

pub returns : goal.returns
returns c =
    let p = c.args.prefix.now in
    let found = find_from_yields_List (λ s. bytes_eq p (segment_of s).prefix) _ _ c.find-found.result c.find-found.ensures.ran (YieldsList-from_slice _ c.iter.ensures.rest) (λ x b q h. search (rules, tests)) in
    seen_through (λ s. (segment_of s).tree) (λ t. tree_of t.now) _ c.find-found.result c.map.result c.map.ensures.cases (λ x y h. search rules)
    ∙ ap (option_map (λ s. (segment_of s).tree)) found
    ∙ named_from_find segment_of p c.as_slice-segments.result.now
    ∙ ap (λ ss. named p (map segment_of ss)) c.as_slice-segments.ensures
    ∙ tree_for_named _ (manifest_of c.args.self.now) (sym c.if-is_empty.ensures)
