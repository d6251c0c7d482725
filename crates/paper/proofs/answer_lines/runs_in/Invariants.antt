use Rattle.std.proofs.Common.{◌≡◌, [], vec_items}
use Rattle.paper.specs.AnswerLines.{runs_in}
use Rattle.paper.proofs.answer_lines.runs_in.Given as goal

-- what was read, with the words that are left
abbrev pub invariant-loop-word : goal.invariant-loop-word
invariant-loop-word l =
    ((goal.iterator-loop-word).can_next l.word-iterator × (goal.iterator-loop-word).is_finite l.word-iterator)
    × (runs_in l.word-iterator (vec_items l.ids) ≡ runs_in l.fn.words [])
