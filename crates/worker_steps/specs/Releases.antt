-- A release: the entry of an id goes back to Scheduled, if it is under the worker's number.
use Rattle.std.specs.Prelude.{ℕ, true, false, Some, None, Option}
use Rattle.table.specs.Tables.{lookup, put}
use Rattle.compactions.specs.Entries.{scheduled, Entry}
use Rattle.stores.specs.Records.{Record, entry_id, with_entries}
use Rattle.stores.specs.Stores.{read, update}
use Rattle.worker_steps.specs.Faults.{Work, release, Fault, fault, store_failed, not_landed}
use Rattle.worker_steps.specs.States.{Settings, State, storing}
use Rattle.worker_steps.specs.Owning.{under}
use Rattle.worker_steps.specs.Effects.{keeps, noted, Effect, effect_free, Turn, ends, on_update, retry}
use Rattle.worker_steps.specs.Looks.{looked, on_read}

-- what a work on one entry comes to: written, dropped unwritten, or a fault
pub data Settled : Type 0 where
  written : Settled
  dropped : Settled
  stuck : Fault → Settled

-- the entry Scheduled, without worker
abbrev pub released_as : Entry → Entry
released_as e = record { id = e.id; spec = e.spec; status = scheduled; outputs = e.outputs; worker = None; context = e.context }

-- the update of one entry
abbrev pub entry_write : Work → ℕ → ℕ → Record → Entry → State → Effect (Turn Settled)
entry_write k i a r e w =
    let x = update (with_entries r (put entry_id e r.entries)) w.store in
    record {
      result = on_update x.answer written (λ f. stuck (fault (store_failed f) k (Some i) a));
      state = storing x.after w;
      writes = noted keeps x.wrote;
      stopped = 0;
    }

-- an entry that is missing or not under the number is dropped
abbrev pub if_under : ℕ → Option Entry → State → (Entry → State → Effect (Turn Settled)) → Effect (Turn Settled)
if_under n None w next = effect_free (ends dropped) w
if_under n (Some e) w next = elim (under n e) [ true ↦ next e w | false ↦ effect_free (ends dropped) w ]

-- after its read
abbrev pub release_read : ℕ → ℕ → ℕ → Record → State → Effect (Turn Settled)
release_read n i a r w = if_under n (lookup entry_id i r.entries) w (λ e v. entry_write release i a r (released_as e) v)

-- one attempt to release
abbrev pub release_attempt : Settings → ℕ → ℕ → State → Effect (Turn Settled)
release_attempt s i a w = on_read stuck release (Some i) a (read w.store).answer (looked s.number w) (release_read s.number i a)

-- the release of an id
abbrev pub releasing : Settings → ℕ → State → Effect Settled
releasing s i w = retry s.limit 1 (release_attempt s i) (stuck (fault not_landed release (Some i) s.limit)) w
