-- An executor by its meaning: the arguments of its running jobs, ascending by id, and what a take may do.
use Rattle.std.specs.Prelude.{◌≡◌, ℕ, ◌≤◌, Bool, true, false, cond, List, length, Some, None, Option, nat_lt}
use Rattle.table.specs.Tables.{ascends, holds, strike}
use Rattle.compactions.specs.Entries.{Context}
use Rattle.compactions.specs.Trees.{Run}
use Rattle.compactions.specs.Jobs.{Args}

-- how many jobs can run at once: eight or more
pub record Capacity : Type 0 where
  pub count : ℕ
  pub enough : 8 ≤ count

-- the id of a job
abbrev pub job_id : Args → ℕ
job_id a = a.id

-- the arguments of running jobs: ascending by id, and at most so many
pub record Running (most : ℕ) : Type 0 where
  pub list : List Args
  pub ascending : ascends job_id list ≡ true
  pub within : length list ≤ most

-- how a job ended: with a sorted run, or with a cause
pub data Outcome : Type 0 where
  done : Run → Outcome
  failed : ℕ → Outcome

-- what an executor tells of a job, by the job's id: how far it is, or how it ended
pub data Notice : Type 0 where
  progress : ℕ → Context → Notice
  finished : ℕ → Outcome → Notice

-- the id that a notice names
abbrev pub notice_id : Notice → ℕ
notice_id (progress i c) = i
notice_id (finished i o) = i

-- whether a job may start: its id does not run, and a place is free
abbrev pub may_start : ℕ → ℕ → List Args → Bool
may_start places i jobs = cond (holds job_id i jobs) false (nat_lt (length jobs) places)

-- whether the job runs that a notice names
abbrev pub runs : List Args → Notice → Bool
runs jobs n = holds job_id (notice_id n) jobs

-- the same of a notice if there is one
abbrev pub names_running : List Args → Option Notice → Bool
names_running jobs None = true
names_running jobs (Some n) = runs jobs n

-- the jobs after a notice: a finish ends its job
abbrev pub left_by : Option Notice → List Args → List Args
left_by None jobs = jobs
left_by (Some (progress i c)) jobs = jobs
left_by (Some (finished i o)) jobs = strike job_id i jobs

-- what a take may answer and leave: no notice, or any of a running job
pub record Takes (before : List Args) (n : Option Notice) (after : List Args) : Type 0 where
  pub running : names_running before n ≡ true
  pub left : after ≡ left_by n before
