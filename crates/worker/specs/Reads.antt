-- What the reads of a worker answer.
use Rattle.std.specs.Prelude.{Bool, true, false, Ok, Err, Result}
use Rattle.stores.specs.Records.{Record}
use Rattle.stores.specs.Stores.{ReadAnswer, got, absent, unread}
use Rattle.stores.specs.Meanings.{draft_of}
use Rattle.stores.specs.declared.draft.Draft.{Draft}
use Rattle.worker_steps.specs.Faults.{Fault, fault_of, fault_during, store_failed, record_gone}
use Rattle.worker_steps.specs.Looks.{Opened, opened, nothing_yet, not_read}
use Rattle.worker_steps.specs.declared.fault.During.{During}
use Rattle.worker_steps.specs.declared.fault.WorkerFault.{WorkerFault}

-- what a first look found
abbrev pub opened_of : Result Bool WorkerFault → Opened
opened_of (Ok true) = opened
opened_of (Ok false) = nothing_yet
opened_of (Err f) = not_read (fault_of f)

-- a record that was read for a work, or the fault
abbrev pub read_of : Result Draft WorkerFault → Result Record Fault
read_of (Ok d) = Ok (draft_of d)
read_of (Err f) = Err (fault_of f)

-- what a work gets from a read: a record, or a fault of the work; no record is a fault of cause 0
abbrev pub record_for : During → ReadAnswer → Result Record Fault
record_for d (got r) = Ok r
record_for d absent = Err (fault_during (store_failed record_gone) d)
record_for d (unread f) = Err (fault_during (store_failed f) d)
