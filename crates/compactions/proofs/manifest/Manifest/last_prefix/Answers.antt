use Rattle.std.proofs.Common.{[], map, refl, sym, ap, ◌∙◌, rules}
use mathlib.Core.List.{map-map}
use Rattle.table.specs.Counted.{items_of}
use Rattle.compactions.specs.Prefixes.{latest}
use Rattle.compactions.specs.Meanings.{segment_of}
use Rattle.compactions.proofs.Segments.{latest_from_last}
use Rattle.compactions.proofs.manifest.Manifest.last_prefix.Goals as goal

pub returns : goal.returns
returns c =
    latest_from_last (λ s. (segment_of s).prefix) c.as_slice.result.now c.last.result c.map_or.result _ _ c.last.ensures.value c.map_or.ensures refl (λ x h. search rules)
    ∙ ap (λ xs. latest [] (map (λ s. (segment_of s).prefix) xs)) c.as_slice.ensures
    ∙ ap (latest []) (sym (map-map _ segment_of (items_of c.args.self.now.segments)))
