use Rattle.std.proofs.Common.{◌≡◌}
use Rattle.compactions.specs.Meanings.{run_of}
use Rattle.manifest_section.specs.ManifestLines.{with_views}
use Rattle.manifest_section.proofs.parts.with_views.Given as goal

-- the run so far, with the views of the words that are left
abbrev pub invariant-loop-word : goal.invariant-loop-word
invariant-loop-word l =
    ((goal.iterator-loop-word).can_next l.word-iterator × (goal.iterator-loop-word).is_finite l.word-iterator)
    × (with_views l.word-iterator (run_of l.run) ≡ with_views l.fn.words (run_of l.fn.run))
