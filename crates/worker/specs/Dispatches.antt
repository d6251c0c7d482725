-- What becomes of claimed entries, one by one.
use Rattle.std.specs.Prelude.{◌≡◌, ℕ, suc, ◌+◌, List, ◌∷◌, length, Some, None, Ok, Err, Option, Result}
use Rattle.compactions.specs.Entries.{Entry}
use Rattle.compactions.specs.Meanings.{entry_of}
use Rattle.compactions.specs.Trees.{Manifest}
use Rattle.stores.specs.Stores.{Store}
use Rattle.executors.specs.Clocks.{Readings}
use Rattle.worker_steps.specs.Faults.{fault_of}
use Rattle.worker_steps.specs.States.{Settings, Held, with_left, state}
use Rattle.worker_steps.specs.Tracking.{Tracked}
use Rattle.worker_steps.specs.Claims.{joined}
use Rattle.worker_steps.specs.Polls.{Dispatch, dispatching}
use Rattle.worker_steps.specs.declared.fault.WorkerFault.{WorkerFault}
use Rattle.worker.specs.Polls.{Counts}
use Rattle.worker.specs.declared.claims.Claim.{Claim}
use Rattle.worker.specs.declared.dispatch.Unreleased.{Unreleased}

-- the entry of a claim that comes back
abbrev pub given_back : Result (Unit {0}) Claim → Option Entry
given_back (Ok u) = None
given_back (Err c) = Some (entry_of c.entry)

-- the counts of a dispatch that goes on from those before
abbrev pub so_far : Counts → Dispatch → Dispatch
so_far c d = record { fault = d.fault; started = c.started + d.started; let_go = c.let_go + d.let_go; left = d.left }

-- a dispatch as far as it has come, over what it does not touch
abbrev pub dispatched : Settings → Manifest → Held → Store → Readings → Counts → List Entry → List (Result Manifest ℕ) → Dispatch
dispatched s m h st k c es ms = so_far c (dispatching s m es (state h st k ms)).result

-- one entry was started or released: the dispatch of the others is what is left of the whole
pub record SettledOne (s : Settings) (m : Manifest) (e : Entry) (h : Held) (st : Store) (k : Readings) (c : Counts) (h' : Held) (st' : Store) (k' : Readings) (c' : Counts) : Type 0 where
  pub result : (es : List Entry) (ms : List (Result Manifest ℕ)) → dispatched s m h' st' k' c' es ms ≡ dispatched s m h st k c (e ∷ es) ms
  pub after : (es : List Entry) (ms : List (Result Manifest ℕ)) → (dispatching s m es (state h' st' k' ms)).state ≡ (dispatching s m (e ∷ es) (state h st k ms)).state
  pub tracked : (max : ℕ) (P : List ℕ) → Tracked max (e.id ∷ P) h.table h.left → Tracked max P h'.table h'.left
  pub frame : c' ≡ record { claimed = c.claimed; started = c'.started; let_go = c'.let_go; left = c.left; stopped = c.stopped }
  pub few : c'.started + c'.let_go ≡ suc (c.started + c.let_go)

-- its release met a fault: it comes back, and it and the others are left
pub record StuckOne (s : Settings) (m : Manifest) (e : Entry) (u : Unreleased) (h : Held) (st : Store) (k : Readings) (c : Counts) (h' : Held) (st' : Store) (k' : Readings) (c' : Counts) : Type 0 where
  pub back : entry_of u.claim.entry ≡ e
  pub counts : c' ≡ c
  pub result : (es : List Entry) (ms : List (Result Manifest ℕ)) → record { fault = Some (fault_of u.fault); started = 0; let_go = 0; left = length (e ∷ es) } ≡ (dispatching s m (e ∷ es) (state h st k ms)).result
  pub after : (es : List Entry) (ms : List (Result Manifest ℕ)) → state (with_left h' (joined (e ∷ es) h'.left)) st' k' ms ≡ (dispatching s m (e ∷ es) (state h st k ms)).state
  pub tracked : (max : ℕ) (P : List ℕ) → Tracked max P h.table h.left → Tracked max P h'.table h'.left

-- either
abbrev pub SettleStep : Settings → Manifest → Entry → Result (Unit {0}) Unreleased → Held → Store → Readings → Counts → Held → Store → Readings → Counts → Type 0
SettleStep s m e (Ok u) h st k c h' st' k' c' = SettledOne s m e h st k c h' st' k' c'
SettleStep s m e (Err u) h st k c h' st' k' c' = StuckOne s m e u h st k c h' st' k' c'

-- a whole dispatch, by its answer and the counts after it
abbrev pub dispatch_of : Result (Unit {0}) WorkerFault → Counts → Dispatch
dispatch_of (Ok u) c = record { fault = None; started = c.started; let_go = c.let_go; left = c.left }
dispatch_of (Err f) c = record { fault = Some (fault_of f); started = c.started; let_go = c.let_go; left = c.left }
