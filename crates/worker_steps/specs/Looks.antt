-- A worker's reads: what each strikes from the left-behind list, and the first look.
use Rattle.std.specs.Prelude.{ℕ, Bool, true, false, List, None, Option}
use Rattle.stores.specs.Records.{Record}
use Rattle.stores.specs.Stores.{ReadAnswer, got, absent, unread, read}
use Rattle.worker_steps.specs.Faults.{Work, look, Fault, fault, store_failed, record_gone}
use Rattle.worker_steps.specs.States.{Held, with_loaded, with_left, State, state, holding}
use Rattle.worker_steps.specs.Owning.{still_left}
use Rattle.worker_steps.specs.Effects.{Effect, effect_free, Turn, ends}

-- the list after a read: a record strikes the ids that have no entry Running there under the number
abbrev pub relisted : ℕ → ReadAnswer → List ℕ → List ℕ
relisted n (got r) l = still_left n r.entries l
relisted n absent l = l
relisted n (unread f) l = l

-- what the worker holds after a read
abbrev pub held_after : ℕ → ReadAnswer → Held → Held
held_after n a h = with_left h (relisted n a h.left)

-- the state after a read
abbrev pub looked : ℕ → State → State
looked n w = state (held_after n (read w.store).answer w.held) (read w.store).after w.clock w.manifests

-- every attempt begins with a read: what follows a record; without one it ends with a fault
abbrev pub on_read : {X : Type 0} → (Fault → X) → Work → Option ℕ → ℕ → ReadAnswer → State → (Record → State → Effect (Turn X)) → Effect (Turn X)
on_read bad k i a (got r) w next = next r w
on_read bad k i a absent w next = effect_free (ends (bad (fault (store_failed record_gone) k i a))) w
on_read bad k i a (unread f) w next = effect_free (ends (bad (fault (store_failed f) k i a))) w

-- what a first look finds
pub data Opened : Type 0 where
  opened : Opened
  nothing_yet : Opened
  not_read : Fault → Opened

-- by the answer to its read
abbrev pub open_by : ReadAnswer → Opened
open_by (got r) = opened
open_by absent = nothing_yet
open_by (unread f) = not_read (fault (store_failed f) look None 0)

-- whether the answer is a record
abbrev pub is_record : ReadAnswer → Bool
is_record (got r) = true
is_record absent = false
is_record (unread f) = false

-- a first look, and the state after it
pub record Opening : Type 0 where
  pub found : Opened
  pub state : State

-- one read, unless the worker is loaded
abbrev pub first_look : ℕ → State → Opening
first_look n w = elim w.held.loaded [
  | true ↦ record { found = opened; state = w }
  | false ↦ record {
    found = open_by (read w.store).answer;
    state = holding (with_loaded (looked n w).held (is_record (read w.store).answer)) (looked n w);
  }
]
