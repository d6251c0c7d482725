-- Works on one entry: attempts to write something else over the entry of an id, if it is under the worker's number.
use Rattle.std.specs.Prelude.{◌≡◌, ℕ, List, Some, refl}
use Rattle.table.specs.Tables.{lookup}
use Rattle.compactions.specs.Entries.{Entry}
use Rattle.stores.specs.Records.{Record, entry_id}
use Rattle.stores.specs.Stores.{read}
use Rattle.executors.specs.Clocks.{Readings, reading, passed, stamped}
use Rattle.worker_steps.specs.Faults.{Work, release, completion, fault, not_landed}
use Rattle.worker_steps.specs.States.{Settings, State, timing}
use Rattle.worker_steps.specs.Effects.{Effect, Turn, retry}
use Rattle.worker_steps.specs.Looks.{looked, on_read}
use Rattle.worker_steps.specs.Releases.{Settled, stuck, entry_write, if_under, released_as}
use Rattle.worker_steps.specs.Completions.{completed_as}

-- such a work: its name, what it writes over an entry at a clock, and the clock after that; the id stays
pub record EntryWork : Type 0 where
  pub work : Work
  pub changed : ℕ → Readings → Entry → Entry
  pub clock : Readings → Readings
  pub same_id : (n : ℕ) (k : Readings) (e : Entry) → (changed n k e).id ≡ e.id

-- the release; it reads no clock
abbrev pub the_release : EntryWork
the_release = record { work = release; changed = λ n k e. released_as e; clock = λ k. k; same_id = λ n k e. refl }

-- the completion with these outputs
abbrev pub the_completion : List ℕ → EntryWork
the_completion outs = record { work = completion; changed = λ n k e. completed_as n (stamped (reading k)) outs e; clock = passed; same_id = λ n k e. refl }

-- after its read
abbrev pub entry_read : EntryWork → ℕ → ℕ → ℕ → Record → State → Effect (Turn Settled)
entry_read x n i a r w = if_under n (lookup entry_id i r.entries) w (λ e v. entry_write x.work i a r (x.changed n v.clock e) (timing (x.clock v.clock) v))

-- one attempt
abbrev pub entry_attempt : EntryWork → Settings → ℕ → ℕ → State → Effect (Turn Settled)
entry_attempt x s i a w = on_read stuck x.work (Some i) a (read w.store).answer (looked s.number w) (entry_read x s.number i a)

-- the work on an id
abbrev pub entry_work : EntryWork → Settings → ℕ → State → Effect Settled
entry_work x s i w = retry s.limit 1 (entry_attempt x s i) (stuck (fault not_landed x.work (Some i) s.limit)) w
