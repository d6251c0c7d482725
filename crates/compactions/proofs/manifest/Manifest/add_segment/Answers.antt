use Rattle.std.proofs.Common.{[], sym, ap, ◌∙◌}
use mathlib.Core.List.{map-map}
use Rattle.table.specs.Counted.{items_of}
use Rattle.compactions.specs.Meanings.{segment_of}
use Rattle.compactions.specs.Prefixes.{before, latest}
use Rattle.compactions.proofs.Segments.{rises_more}
use Rattle.compactions.proofs.manifest.Manifest.add_segment.Goals as goal

pub invariant_of-self : goal.invariant_of-self
invariant_of-self c =
    let above = ap (λ p. before p c.args.prefix.now) (sym c.last_prefix.ensures) ∙ sym c.if-not-is_below.ensures in
    let xs = items_of c.args.self.now.segments in
    let above' = ap (λ ps. before (latest [] ps) c.args.prefix.now) (sym (map-map (λ s. s.prefix) segment_of xs)) ∙ above in
    record { ascending = rises_more (λ s. items_of s.prefix) xs _ _ _ c.args.self.now.ascending c.in_ok-push.ensures.after c.in_ok-name.ensures.made above' }
