-- What the argument check answers, by its meaning: a job's arguments, or the number of the refusal.
use Rattle.std.specs.Prelude.{ℕ, Some, None, Ok, Err, Option, Result}
use Rattle.compactions.specs.declared.refusal.Refusal.{Refusal}
use Rattle.compactions.specs.declared.refusal.Refusal.TheVariants.{InvalidCompaction}
use Rattle.compactions.specs.declared.job_args.StartCompactionJobArgs.{StartCompactionJobArgs}
use Rattle.compactions.specs.Jobs.{Args, args_of}
use Rattle.compactions.specs.Refusals.{number_of}

-- the arguments, or the refusal by its number
pub data Answer : Type 0 where
  passes : Args → Answer
  refused : ℕ → Answer

-- an answer by its meaning
abbrev pub answer_of : Result StartCompactionJobArgs Refusal → Answer
answer_of (Ok a) = passes (args_of a)
answer_of (Err e) = refused (number_of e)

-- a check that gives no arguments is refused with the number of an invalid compaction
abbrev pub checked : Option Args → Answer
checked (Some a) = passes a
checked None = refused (number_of InvalidCompaction)
