-- The marks of a paper's questions.
use Rattle.std.specs.Prelude.{ℕ, ◌+◌, Bool, cond, List, [], ◌∷◌, is_some, Some, None, Option}
use Rattle.std.specs.Option.{option_map}
use Rattle.argument_check.specs.Check.{job_args}
use Rattle.compactions.specs.Meanings.{entry_of}
use Rattle.compactions.specs.Trees.{Manifest}
use Rattle.marking.specs.Marking.{agrees}
use Rattle.marking.specs.declared.marks.Question.{Question}

-- whether an answer agrees with the argument check, if there is one
abbrev pub is_right_by : Question → Manifest → Option Bool
is_right_by q m = option_map (λ a. agrees a (job_args (entry_of q.entry) m)) q.answer

-- 1 for a right answer
abbrev pub point : Option Bool → ℕ
point None = 0
point (Some b) = cond b 1 0

-- how many answers agree
abbrev pub right_answers : List Question → Manifest → ℕ
right_answers [] m = 0
right_answers (q ∷ qs) m = point (is_right_by q m) + right_answers qs m

-- how many questions have an answer
abbrev pub answered : List Question → ℕ
answered [] = 0
answered (q ∷ qs) = cond (is_some q.answer) 1 0 + answered qs
