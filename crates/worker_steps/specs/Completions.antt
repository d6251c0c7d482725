-- A completion: the entry of a finished job becomes Compacted with the run's outputs, if it is under the worker's number.
use Rattle.std.specs.Prelude.{ℕ, List, map, Some, None}
use Rattle.table.specs.Tables.{lookup}
use Rattle.compactions.specs.Entries.{compacted, Entry}
use Rattle.compactions.specs.Trees.{Run}
use Rattle.stores.specs.Records.{Record, entry_id}
use Rattle.stores.specs.Stores.{read}
use Rattle.executors.specs.Clocks.{reading, passed, stamped}
use Rattle.worker_steps.specs.Faults.{completion, fault, not_landed}
use Rattle.worker_steps.specs.States.{Settings, State, timing}
use Rattle.worker_steps.specs.Effects.{Effect, Turn, retry}
use Rattle.worker_steps.specs.Looks.{looked, on_read}
use Rattle.worker_steps.specs.Releases.{Settled, stuck, entry_write, if_under}

-- the SSTs of a sorted run
abbrev pub ssts : Run → List ℕ
ssts r = map (λ v. v.sst) r.views

-- the entry Compacted, with these outputs, the number and a stamp, and without context
abbrev pub completed_as : ℕ → ℕ → List ℕ → Entry → Entry
completed_as n stamp outs e = record {
  id = e.id;
  spec = e.spec;
  status = compacted;
  outputs = outs;
  worker = Some (record { number = n; stamp = stamp });
  context = None;
}

-- after its read; the clock is read only for an entry under the number
abbrev pub completion_read : ℕ → ℕ → List ℕ → ℕ → Record → State → Effect (Turn Settled)
completion_read n i outs a r w = if_under n (lookup entry_id i r.entries) w (λ e v. entry_write completion i a r (completed_as n (stamped (reading v.clock)) outs e) (timing (passed v.clock) v))

-- one attempt to complete
abbrev pub completion_attempt : Settings → ℕ → List ℕ → ℕ → State → Effect (Turn Settled)
completion_attempt s i outs a w = on_read stuck completion (Some i) a (read w.store).answer (looked s.number w) (completion_read s.number i outs a)

-- the completion of an id
abbrev pub completing : Settings → ℕ → List ℕ → State → Effect Settled
completing s i outs w = retry s.limit 1 (completion_attempt s i outs) (stuck (fault not_landed completion (Some i) s.limit)) w
