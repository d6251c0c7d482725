-- What the works on one entry answer.
use Rattle.std.specs.Prelude.{ℕ, true, false, Some, None, Ok, Err, Option, Result}
use Rattle.compactions.specs.Entries.{Entry}
use Rattle.worker_steps.specs.Faults.{fault_of}
use Rattle.worker_steps.specs.Owning.{under}
use Rattle.worker_steps.specs.Effects.{Turn, ends, again}
use Rattle.worker_steps.specs.Releases as steps
use Rattle.worker_steps.specs.declared.fault.WorkerFault.{WorkerFault}
use Rattle.worker.specs.declared.settling.Settled.{Settled}
use Rattle.worker.specs.declared.settling.Settled.TheVariants.{Written, Dropped}

-- the entry, if there is one and it is under the number
abbrev pub if_own : ℕ → Option Entry → Option Entry
if_own n None = None
if_own n (Some e) = elim (under n e) [ true ↦ Some e | false ↦ None ]

-- the whole work
abbrev pub settled_of : Result Settled WorkerFault → steps.Settled
settled_of (Ok Written) = steps.written
settled_of (Ok Dropped) = steps.dropped
settled_of (Err f) = steps.stuck (fault_of f)

-- one attempt, by its answer; none is a conflict
abbrev pub settle_turn_of : Result (Option Settled) WorkerFault → Turn steps.Settled
settle_turn_of (Ok None) = again
settle_turn_of (Ok (Some s)) = ends (settled_of (Ok s))
settle_turn_of (Err f) = ends (settled_of (Err f))
