-- What notices mean.
use Rattle.std.specs.Prelude.{ℕ, Ok, Err, Result}
use Rattle.table.specs.Ids.{number}
use Rattle.compactions.specs.declared.db_state.SortedRun.{SortedRun}
use Rattle.compactions.specs.Meanings.{run_of, context_of}
use Rattle.executors.specs.declared.compactor_executor.WorkerMessage.{WorkerMessage}
use Rattle.executors.specs.declared.compactor_executor.WorkerMessage.TheVariants.{CompactionJobProgress, CompactionJobFinished}
use Rattle.executors.specs.Executors.{Outcome, done, failed, Notice, progress, finished}

-- a sorted run, or a cause
abbrev pub outcome_of : Result SortedRun ℕ → Outcome
outcome_of (Ok r) = done (run_of r)
outcome_of (Err c) = failed c

-- a notice by its meaning
abbrev pub notice_of : WorkerMessage → Notice
notice_of (CompactionJobProgress u c) = progress (number u) (context_of c)
notice_of (CompactionJobFinished u r) = finished (number u) (outcome_of r)
