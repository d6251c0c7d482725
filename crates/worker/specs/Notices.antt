-- What the answers to notices mean.
use Rattle.std.specs.Prelude.{◌≡◌, ℕ, true, List, Ok, Err, Option, Result}
use Rattle.compactions.specs.Trees.{Manifest}
use Rattle.executors.specs.Executors.{Notice, names_running}
use Rattle.worker_steps.specs.Faults.{fault_of}
use Rattle.worker_steps.specs.States.{Settings, State}
use Rattle.worker_steps.specs.Notices as steps
use Rattle.worker.specs.declared.notices.NoticeAnswer.{NoticeAnswer}
use Rattle.worker.specs.declared.notices.NoticeAnswer.TheVariants.{NothingYet, NoNotice, Progress, Written, Dropped}
use Rattle.worker.specs.declared.settling.Settled.{Settled}
use Rattle.worker.specs.declared.settling.Settled.TheVariants as settled
use Rattle.worker_steps.specs.declared.fault.WorkerFault.{WorkerFault}

-- the answer where an entry was written or dropped
abbrev pub answer_to : Settled → NoticeAnswer
answer_to settled.Written = Written
answer_to settled.Dropped = Dropped

abbrev pub noticed_of : Result NoticeAnswer WorkerFault → steps.Noticed
noticed_of (Ok NothingYet) = steps.not_yet
noticed_of (Ok NoNotice) = steps.no_notice
noticed_of (Ok Progress) = steps.progressed
noticed_of (Ok Written) = steps.entry_written
noticed_of (Ok Dropped) = steps.entry_dropped
noticed_of (Err f) = steps.faulted (fault_of f)

-- for some notice of a running job, or none, the call answers and leaves what its steps do
pub record Noticing (s : Settings) (before : List (Result Manifest ℕ) → State) (answer : steps.Noticed) (after : List (Result Manifest ℕ) → State) : Type 0 where
  pub notice : Option Notice
  pub running : (ms : List (Result Manifest ℕ)) → names_running (before ms).held.jobs notice ≡ true
  pub answers : (ms : List (Result Manifest ℕ)) → answer ≡ (steps.notice s notice (before ms)).result
  pub leaves : (ms : List (Result Manifest ℕ)) → after ms ≡ (steps.notice s notice (before ms)).state
