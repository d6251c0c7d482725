-- What the worker does with a notice of its executor.
use Rattle.std.specs.Prelude.{ℕ, true, false, Some, None, Option}
use Rattle.table.specs.Tables.{holds, put, strike}
use Rattle.compactions.specs.Entries.{Context}
use Rattle.executors.specs.Executors.{Notice, progress, finished, Outcome, done, failed, left_by}
use Rattle.worker_steps.specs.Faults.{Fault}
use Rattle.worker_steps.specs.States.{Settings, row_id, self_id, Held, with_left, with_jobs, State, holding}
use Rattle.worker_steps.specs.Effects.{Effect, effect_free}
use Rattle.worker_steps.specs.Looks.{Opened, opened, nothing_yet, not_read, first_look}
use Rattle.worker_steps.specs.Releases.{Settled, written, dropped, stuck, releasing}
use Rattle.worker_steps.specs.Completions.{ssts, completing}

-- what a notice comes to: there is no record yet, none was there, progress, an entry written or dropped, or a fault
pub data Noticed : Type 0 where
  not_yet : Noticed
  no_notice : Noticed
  progressed : Noticed
  entry_written : Noticed
  entry_dropped : Noticed
  faulted : Fault → Noticed

-- by what became of the job's entry
abbrev pub noticed_by : Settled → Noticed
noticed_by written = entry_written
noticed_by dropped = entry_dropped
noticed_by (stuck f) = faulted f

-- an id on the left-behind list
abbrev pub with_listed : ℕ → Held → Held
with_listed i h = with_left h (put self_id i h.left)

-- a fault lists the id
abbrev pub list_if_stuck : Settled → ℕ → Held → Held
list_if_stuck written i h = h
list_if_stuck dropped i h = h
list_if_stuck (stuck f) i h = with_listed i h

-- after the work on the job's entry
abbrev pub notice_settled : ℕ → Effect Settled → Effect Noticed
notice_settled i x = record { result = noticed_by x.result; state = holding (list_if_stuck x.result i x.state.held) x.state; writes = x.writes; stopped = x.stopped }

-- a job that ended: its entry is completed with a run, or released after a failure
abbrev pub settling : Settings → ℕ → Outcome → State → Effect Settled
settling s i (done r) w = completing s i (ssts r) w
settling s i (failed c) w = releasing s i w

-- the row's context, replaced
abbrev pub with_progress : ℕ → Context → Held → Held
with_progress i c h = with_jobs h (put row_id (record { id = i; context = Some c }) h.table) h.jobs

-- the row of an id, struck
abbrev pub without_row : ℕ → Held → Held
without_row i h = with_jobs h (strike row_id i h.table) h.jobs

-- a notice of a job that has a row; one of any other is dropped
abbrev pub handled : Settings → Notice → State → Effect Noticed
handled s (progress i c) w = elim (holds row_id i w.held.table) [
  | true ↦ effect_free progressed (holding (with_progress i c w.held) w)
  | false ↦ effect_free entry_dropped w
]
handled s (finished i o) w = elim (holds row_id i w.held.table) [
  | true ↦ notice_settled i (settling s i o (holding (without_row i w.held) w))
  | false ↦ effect_free entry_dropped w
]

-- the notice that the executor gave, if any; a finish has ended its job there
abbrev pub noticing : Settings → Option Notice → State → Effect Noticed
noticing s None w = effect_free no_notice w
noticing s (Some n) w = handled s n (holding (with_jobs w.held w.held.table (left_by (Some n) w.held.jobs)) w)

-- after the first look; without a record no notice is taken
abbrev pub notice_opened : Settings → Opened → Option Notice → State → Effect Noticed
notice_opened s opened n w = noticing s n w
notice_opened s nothing_yet n w = effect_free not_yet w
notice_opened s (not_read f) n w = effect_free (faulted f) w

-- the call, for the notice that the executor gives if it is asked
abbrev pub notice : Settings → Option Notice → State → Effect Noticed
notice s n w = notice_opened s (first_look s.number w).found n (first_look s.number w).state
