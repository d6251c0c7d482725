-- A poll: the first look, the claim, one manifest, and then each chosen entry started or released.
use Rattle.std.specs.Prelude.{ℕ, ◌+◌, ◌-◌, Bool, true, false, List, [], ◌∷◌, ◌++◌, length, Some, None, Ok, Err, Option, Result}
use Rattle.table.specs.Tables.{put}
use Rattle.compactions.specs.Entries.{Entry}
use Rattle.compactions.specs.Jobs.{Args}
use Rattle.compactions.specs.Trees.{Manifest}
use Rattle.argument_check.specs.Check.{job_args}
use Rattle.executors.specs.Executors.{job_id, may_start}
use Rattle.executors.specs.Manifests.{given, behind}
use Rattle.worker_steps.specs.Faults.{Fault, fault, claim, manifest_failed}
use Rattle.worker_steps.specs.States.{Settings, row_id, Held, with_left, with_jobs, State, holding, reading_on}
use Rattle.worker_steps.specs.Effects.{Written, Effect, effect_free}
use Rattle.worker_steps.specs.Looks.{Opened, opened, nothing_yet, not_read, first_look}
use Rattle.worker_steps.specs.Claims.{Claimed, none_chosen, landed_at, broken, claiming, joined}
use Rattle.worker_steps.specs.Releases.{Settled, written, dropped, stuck, releasing}

-- what became of the chosen entries
pub record Dispatch : Type 0 where
  pub fault : Option Fault
  pub started : ℕ
  pub let_go : ℕ
  pub left : ℕ

-- none is left to start
abbrev pub all_dispatched : Dispatch
all_dispatched = record { fault = None; started = 0; let_go = 0; left = 0 }

-- one more started
abbrev pub and_started : Dispatch → Dispatch
and_started d = record { fault = d.fault; started = d.started + 1; let_go = d.let_go; left = d.left }

-- one more let go
abbrev pub and_let_go : Dispatch → Dispatch
and_let_go d = record { fault = d.fault; started = d.started; let_go = d.let_go + 1; left = d.left }

-- the rest, after one of them
abbrev pub then_dispatch : (Dispatch → Dispatch) → List Written → Effect Dispatch → Effect Dispatch
then_dispatch f ws x = record { result = f x.result; state = x.state; writes = ws ++ x.writes; stopped = x.stopped }

-- a release that ends with a fault lists its id and all later ones
abbrev pub after_release : Settled → List Entry → Effect Settled → (State → Effect Dispatch) → Effect Dispatch
after_release written es x next = then_dispatch and_let_go x.writes (next x.state)
after_release dropped es x next = then_dispatch and_let_go x.writes (next x.state)
after_release (stuck f) es x next = record {
  result = record { fault = Some f; started = 0; let_go = 0; left = length es };
  state = holding (with_left x.state.held (joined es x.state.held.left)) x.state;
  writes = x.writes;
  stopped = 0;
}

-- whether the check passes and the executor says yes
abbrev pub may_run : ℕ → Option Args → List Args → Bool
may_run places None j = false
may_run places (Some a) j = may_start places a.id j

-- with a row and a job more
abbrev pub with_started : Entry → Option Args → Held → Held
with_started e None h = h
with_started e (Some a) h = with_jobs h (put row_id (record { id = e.id; context = e.context }) h.table) (put job_id a h.jobs)

-- each chosen entry, ascending: started, or released
abbrev pub dispatching : Settings → Manifest → List Entry → State → Effect Dispatch
dispatching s m [] w = effect_free all_dispatched w
dispatching s m (e ∷ es) w = elim (may_run s.places (job_args e m) w.held.jobs) [
  | true ↦ then_dispatch and_started [] (dispatching s m es (holding (with_started e (job_args e m) w.held) w))
  | false ↦ after_release (releasing s e.id w).result (e ∷ es) (releasing s e.id w) (dispatching s m es)
]

-- how a poll ends: there is no record yet, it is done, or it met a fault
pub data Ended : Type 0 where
  not_yet : Ended
  done : Ended
  faulted : Fault → Ended

-- the answer of a poll: how it ended, and what became of the entries that it claimed and of the jobs that it found
pub record PollAnswer : Type 0 where
  pub ended : Ended
  pub claimed : ℕ
  pub started : ℕ
  pub let_go : ℕ
  pub left : ℕ
  pub stopped : ℕ

-- an answer of these parts
abbrev pub poll_answer : Ended → ℕ → ℕ → ℕ → ℕ → ℕ → PollAnswer
poll_answer e c s g l p = record { ended = e; claimed = c; started = s; let_go = g; left = l; stopped = p }

-- with a fault or without
abbrev pub ended_by : Option Fault → Ended
ended_by None = done
ended_by (Some f) = faulted f

-- the claims that landed at an attempt, by what the manifest source gave: its fault lists them all
abbrev pub dispatch_given : Settings → ℕ → Result Manifest ℕ → List Entry → State → Effect Dispatch
dispatch_given s a (Err c) cs w = effect_free (record { fault = Some (fault (manifest_failed c) claim None a); started = 0; let_go = 0; left = length cs }) (holding (with_left w.held (joined cs w.held.left)) w)
dispatch_given s a (Ok m) cs w = dispatching s m cs w

-- after the claim: where it landed, one manifest is read
abbrev pub poll_claimed : Settings → Claimed → Effect Claimed → Effect PollAnswer
poll_claimed s none_chosen x = record { result = poll_answer done 0 0 0 0 x.stopped; state = x.state; writes = x.writes; stopped = x.stopped }
poll_claimed s (broken f cs) x = record { result = poll_answer (faulted f) (length cs) 0 0 (length cs) x.stopped; state = x.state; writes = x.writes; stopped = x.stopped }
poll_claimed s (landed_at a cs) x =
    let d = dispatch_given s a (given x.state.manifests) cs (reading_on (behind x.state.manifests) x.state) in
    record {
      result = poll_answer (ended_by d.result.fault) (length cs) d.result.started d.result.let_go d.result.left x.stopped;
      state = d.state;
      writes = x.writes ++ d.writes;
      stopped = x.stopped;
    }

-- a poll of a loaded worker; its capacity is taken once
abbrev pub polling : Settings → State → Effect PollAnswer
polling s w =
    let x = claiming s (s.maximum - length w.held.table) w in
    poll_claimed s x.result x

-- after the first look
abbrev pub poll_opened : Settings → Opened → State → Effect PollAnswer
poll_opened s opened w = polling s w
poll_opened s nothing_yet w = effect_free (poll_answer not_yet 0 0 0 0 0) w
poll_opened s (not_read f) w = effect_free (poll_answer (faulted f) 0 0 0 0 0) w

-- a poll
abbrev pub poll : Settings → State → Effect PollAnswer
poll s w = poll_opened s (first_look s.number w).found (first_look s.number w).state
