-- The refusal of what passes a limit.
use Rattle.compactions.specs.declared.refusal.Refusal.{Refusal}
use Rattle.compactions.specs.declared.refusal.Refusal.TheVariants as refusals
use Rattle.problems.specs.declared.error.Limit.{Limit}
use Rattle.problems.specs.declared.error.Limit.TheVariants.{EntrySegment, Sources, Outputs, Subcompactions, SubcompactionOutputs, RunViews, TreeViews, TreeRuns, PrefixLength, Segments, PrefixOrder}

-- an entry, a context or a run is refused with Count, a manifest with ManifestCount, and a prefix
-- that is out of order with Prefix
abbrev pub refusal_of : Limit → Refusal
refusal_of EntrySegment = refusals.Count
refusal_of Sources = refusals.Count
refusal_of Outputs = refusals.Count
refusal_of Subcompactions = refusals.Count
refusal_of SubcompactionOutputs = refusals.Count
refusal_of RunViews = refusals.Count
refusal_of TreeViews = refusals.ManifestCount
refusal_of TreeRuns = refusals.ManifestCount
refusal_of PrefixLength = refusals.ManifestCount
refusal_of Segments = refusals.ManifestCount
refusal_of PrefixOrder = refusals.Prefix
