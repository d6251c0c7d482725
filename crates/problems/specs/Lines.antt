-- A problem with its line.
use Rattle.std.specs.Prelude.{ℕ, Bool, true, false, Ok, Err, Result}
use Rattle.problems.specs.declared.error.PaperError.{PaperError}
use Rattle.problems.specs.declared.error.Problem.{Problem}
use Rattle.problems.specs.declared.error.Problem.TheVariants.{Paper, Manifest, Entry, Answer, Refused, Memory}

-- what was read, or its problem at a line
abbrev pub at : {X : Type 0} → ℕ → Result X Problem → Result X PaperError
at n (Ok x) = Ok x
at n (Err p) = Err (record { line = n; problem = p })

-- whether a problem is another one than want of memory
abbrev pub of_text : Problem → Bool
of_text (Paper x) = true
of_text (Manifest x) = true
of_text (Entry x) = true
of_text (Answer x) = true
of_text (Refused r l) = true
of_text Memory = false

-- whether the memory sufficed
abbrev pub sufficed : {X : Type 0} → Result X Problem → Bool
sufficed (Ok x) = true
sufficed (Err p) = of_text p

-- the same of a result with a line
abbrev pub sufficed_at : {X : Type 0} → Result X PaperError → Bool
sufficed_at (Ok x) = true
sufficed_at (Err e) = of_text e.problem
