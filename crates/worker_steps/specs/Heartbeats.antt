-- A heartbeat: a fresh stamp, and the progress of each job, in the entries of the job table.
use Rattle.std.specs.Prelude.{ℕ, ◌+◌, true, false, List, [], ◌∷◌, length, Some, None, Option, ◌==◌, nat_lt}
use Rattle.table.specs.Tables.{lookup, put, strike}
use Rattle.compactions.specs.Entries.{Context, Entry}
use Rattle.compactions.specs.Jobs.{Args}
use Rattle.stores.specs.Records.{Record, entry_id, with_entries}
use Rattle.stores.specs.Stores.{read, update}
use Rattle.executors.specs.Clocks.{reading, passed, stamped}
use Rattle.executors.specs.Executors.{job_id}
use Rattle.worker_steps.specs.Faults.{heartbeat, Fault, fault, store_failed, not_landed, not_extending}
use Rattle.worker_steps.specs.States.{Settings, JobRow, row_id, with_jobs, State, storing, timing, holding}
use Rattle.worker_steps.specs.Owning.{under}
use Rattle.worker_steps.specs.Effects.{keeps, noted, Effect, effect_free, Turn, ends, on_update, retry}
use Rattle.worker_steps.specs.Looks.{looked, on_read, Opened, opened, nothing_yet, not_read, first_look}
use Rattle.worker_steps.specs.Extending.{extends}

-- the row's context if it has one, else the entry's
abbrev pub or_kept : Option Context → Option Context → Option Context
or_kept None old = old
or_kept (Some new) old = Some new

-- the entry with the number and a stamp, and the row's context if it has one
abbrev pub stamped_as : ℕ → ℕ → Option Context → Entry → Entry
stamped_as n stamp ctx e = record {
  id = e.id;
  spec = e.spec;
  status = e.status;
  outputs = e.outputs;
  worker = Some (record { number = n; stamp = stamp });
  context = or_kept ctx e.context;
}

-- what a row's entry asks for: the job is stopped, the entry is stamped, or the context does not extend
pub data Visit : Type 0 where
  stop_it : Visit
  stamp_it : Entry → Visit
  not_extended : Visit

-- an entry that is missing or not under the number stops its job
abbrev pub visit : ℕ → ℕ → Option Context → Option Entry → Visit
visit n stamp ctx None = stop_it
visit n stamp ctx (Some e) = elim (under n e) [
  | true ↦ elim (extends e.context ctx) [ true ↦ stamp_it (stamped_as n stamp ctx e) | false ↦ not_extended ]
  | false ↦ stop_it
]

-- what the visits leave: table and jobs, the entries, how many were stamped, and the id that ended them early
pub record Visited : Type 0 where
  pub table : List JobRow
  pub jobs : List Args
  pub entries : List Entry
  pub stamps : ℕ
  pub broke : Option ℕ

-- one more stamped
abbrev pub and_stamped : Visited → Visited
and_stamped v = record { table = v.table; jobs = v.jobs; entries = v.entries; stamps = v.stamps + 1; broke = v.broke }

-- the rows in ascending order, up to the first context that does not extend
abbrev pub visited : List JobRow → ℕ → ℕ → List JobRow → List Args → List Entry → Visited
visited [] n stamp t j es = record { table = t; jobs = j; entries = es; stamps = 0; broke = None }
visited (r ∷ rs) n stamp t j es = elim (visit n stamp r.context (lookup entry_id r.id es)) [
  | stop_it ↦ visited rs n stamp (strike row_id r.id t) (strike job_id r.id j) es
  | stamp_it e ↦ and_stamped (visited rs n stamp t j (put entry_id e es))
  | not_extended ↦ record { table = t; jobs = j; entries = es; stamps = 0; broke = Some r.id }
]

-- what a heartbeat comes to: so many stamps landed, or a fault
pub data Beaten : Type 0 where
  stamps_landed : ℕ → Beaten
  beat_faulted : Fault → Beaten

-- the update of a heartbeat
abbrev pub beat_write : ℕ → Record → Visited → State → Effect (Turn Beaten)
beat_write a r v w =
    let x = update (with_entries r v.entries) w.store in
    record {
      result = on_update x.answer (stamps_landed v.stamps) (λ f. beat_faulted (fault (store_failed f) heartbeat None a));
      state = storing x.after w;
      writes = noted keeps x.wrote;
      stopped = 0;
    }

-- a context that does not extend ends it; nothing stamped means no write
abbrev pub beat_visited : ℕ → Record → Option ℕ → Visited → State → Effect (Turn Beaten)
beat_visited a r (Some i) v w = effect_free (ends (beat_faulted (fault not_extending heartbeat (Some i) a))) w
beat_visited a r None v w = elim (nat_lt 0 v.stamps) [ true ↦ beat_write a r v w | false ↦ effect_free (ends (stamps_landed 0)) w ]

-- a reading of the clock, the visits, then the update
abbrev pub beat_read : ℕ → ℕ → Record → State → Effect (Turn Beaten)
beat_read n a r w =
    let v = visited w.held.table n (stamped (reading w.clock)) w.held.table w.held.jobs r.entries in
    beat_visited a r v.broke v (holding (with_jobs w.held v.table v.jobs) (timing (passed w.clock) w))

-- one attempt; without rows it ends without a read
abbrev pub beat_attempt : Settings → ℕ → State → Effect (Turn Beaten)
beat_attempt s a w = elim (length w.held.table == 0) [
  | true ↦ effect_free (ends (stamps_landed 0)) w
  | false ↦ on_read beat_faulted heartbeat None a (read w.store).answer (looked s.number w) (beat_read s.number a)
]

-- a heartbeat of a loaded worker
abbrev pub beating : Settings → State → Effect Beaten
beating s w = retry s.limit 1 (beat_attempt s) (beat_faulted (fault not_landed heartbeat None s.limit)) w

-- the answer of a heartbeat: there is no record yet, so many stamps landed, or a fault
pub data HeartbeatAnswer : Type 0 where
  not_yet : HeartbeatAnswer
  stamps : ℕ → HeartbeatAnswer
  faulted : Fault → HeartbeatAnswer

abbrev pub answer_by : Beaten → HeartbeatAnswer
answer_by (stamps_landed k) = stamps k
answer_by (beat_faulted f) = faulted f

-- after the first look
abbrev pub beat_opened : Settings → Opened → State → Effect HeartbeatAnswer
beat_opened s opened w = let x = beating s w in record { result = answer_by x.result; state = x.state; writes = x.writes; stopped = x.stopped }
beat_opened s nothing_yet w = effect_free not_yet w
beat_opened s (not_read f) w = effect_free (faulted f) w

-- a heartbeat
abbrev pub beat : Settings → State → Effect HeartbeatAnswer
beat s w = beat_opened s (first_look s.number w).found (first_look s.number w).state
