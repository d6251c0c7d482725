-- The running jobs with the numbers of their starts, and what each call does with them.
use Rattle.std.specs.Prelude.{ℕ, ◌+◌, ◌-◌, ◌^◌, min, cond, List, [], ◌∷◌, map, Some, None, Option, nat_lt}
use Rattle.std.specs.Option.{option_map}
use Rattle.table.specs.Tables.{put, strike}
use Rattle.compactions.specs.Trees.{Run}
use Rattle.compactions.specs.Jobs.{Args}
use Rattle.executors.specs.Executors.{Notice, progress, finished, done, job_id}

-- a running job, and the number of its start
pub record Job : Type 0 where
  pub args : Args
  pub started : ℕ

-- the running jobs, ascending by id, and the number of the next start
pub record Jobs : Type 0 where
  pub running : List Job
  pub next : ℕ

-- the id of a running job
abbrev pub id_of : Job → ℕ
id_of j = job_id j.args

-- the arguments alone
abbrev pub args_in : Jobs → List Args
args_in t = map (λ j. j.args) t.running

-- the number after a start's; the last one of 64 bits stays
abbrev pub following : ℕ → ℕ
following n = min (n + 1) (2 ^ 64 - 1)

-- with one job more, of the next start
abbrev pub begun : Args → Jobs → Jobs
begun a t = record { running = put id_of (record { args = a; started = t.next }) t.running; next = following t.next }

-- without the job of an id
abbrev pub ended : ℕ → Jobs → Jobs
ended i t = record { running = strike id_of i t.running; next = t.next }

-- without any job
abbrev pub emptied : Jobs → Jobs
emptied t = record { running = []; next = t.next }

-- after a notice: a finish ends its job
abbrev pub settled : Option Notice → Jobs → Jobs
settled None t = t
settled (Some (progress i c)) t = t
settled (Some (finished i o)) t = ended i t

-- the older of two jobs; of equal starts the first
abbrev pub older : Option Job → Job → Option Job
older None j = Some j
older (Some k) j = cond (nat_lt j.started k.started) (Some j) (Some k)

-- the oldest of a job seen before and those that follow
abbrev pub oldest_from : Option Job → List Job → Option Job
oldest_from seen [] = seen
oldest_from seen (j ∷ js) = oldest_from (older seen j) js

-- the oldest job: the one of the least start
abbrev pub oldest : List Job → Option Job
oldest js = oldest_from None js

-- the sorted run that a job is finished with: the destination's id and the views of the arguments
abbrev pub run_from : Args → Run
run_from a = record { id = a.destination; views = a.views }

-- the notice that a job ended with that run
abbrev pub finish_of : Args → Notice
finish_of a = finished (job_id a) (done (run_from a))

-- the notice of the oldest job, if any job runs
abbrev pub oldest_notice : Jobs → Option Notice
oldest_notice t = option_map (λ j. finish_of j.args) (oldest t.running)
