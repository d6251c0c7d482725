use Rattle.std.proofs.Common.{◌≡◌, [], map, vec_items}
use Rattle.compactions.specs.Meanings.{view_of}
use Rattle.paper.specs.AnswerLines.{views_in}
use Rattle.paper.proofs.answer_lines.views_in.Given as goal

-- what was read, with the words that are left
abbrev pub invariant-loop-word : goal.invariant-loop-word
invariant-loop-word l =
    ((goal.iterator-loop-word).can_next l.word-iterator × (goal.iterator-loop-word).is_finite l.word-iterator)
    × (views_in l.word-iterator (map view_of (vec_items l.views)) ≡ views_in l.fn.words [])
