use Rattle.std.proofs.Common.{◌≡◌}
use Rattle.compactions.specs.Meanings.{sub_of}
use Rattle.entry_section.specs.EntryParts.{with_outputs}
use Rattle.entry_section.proofs.parts.with_outputs.Given as goal

-- the subcompaction so far, with the outputs of the words that are left
abbrev pub invariant-loop-word : goal.invariant-loop-word
invariant-loop-word l =
    ((goal.iterator-loop-word).can_next l.word-iterator × (goal.iterator-loop-word).is_finite l.word-iterator)
    × (with_outputs l.word-iterator (sub_of l.sub) ≡ with_outputs l.fn.words (sub_of l.fn.sub))
