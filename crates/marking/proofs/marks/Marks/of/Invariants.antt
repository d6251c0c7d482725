use Rattle.std.proofs.Common.{◌≡◌, ◌+◌, ◌≤◌, drop}
use Rattle.compactions.specs.Meanings.{manifest_of}
use Rattle.marking.specs.Counting.{right_answers, answered}
use Rattle.marking.proofs.marks.Marks.of.Given as goal

-- no count passes the number of questions so far, and with what is left it comes to the whole
abbrev pub invariant-loop-question : goal.invariant-loop-question
invariant-loop-question l = (l.of ≤ l.question-index) × (l.right ≤ l.question-index)
    × (l.of + answered (drop l.question-index l.questions) ≡ answered l.questions)
    × (l.right + right_answers (drop l.question-index l.questions) (manifest_of l.manifest) ≡ right_answers l.questions (manifest_of l.manifest))
