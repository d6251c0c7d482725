-- Why a work ends with a fault, and the numbers of the reasons.
use Rattle.std.specs.Prelude.{ℕ, Ok, Err, Option, Result}
use Rattle.std.specs.Option.{option_map}
use Rattle.table.specs.Ids.{number}
use Rattle.stores.specs.Stores as stores
use Rattle.stores.specs.Meanings as store-meanings
use Rattle.stores.specs.declared.compactions_store.StoreFault.{StoreFault}
use Rattle.worker_steps.specs.declared.fault.Work as work-type
use Rattle.worker_steps.specs.declared.fault.Work.TheVariants as works
use Rattle.worker_steps.specs.declared.fault.During.{During}
use Rattle.worker_steps.specs.declared.fault.Told.{Told}
use Rattle.worker_steps.specs.declared.fault.WorkerFault.{WorkerFault}
use Rattle.worker_steps.specs.declared.fault.WorkerFault.TheVariants.{Store, Manifest, NotLanded, NotExtending}

-- the works that may end with a fault
pub data Work : Type 0 where
  look : Work
  claim : Work
  heartbeat : Work
  completion : Work
  release : Work

-- why: the store failed, the manifest source failed, no update landed within the limit, or a context does not extend
pub data Reason : Type 0 where
  store_failed : stores.Fault → Reason
  manifest_failed : ℕ → Reason
  not_landed : Reason
  not_extending : Reason

-- the number by which a reason is known
abbrev pub number_of : Reason → ℕ
number_of (store_failed f) = 6
number_of (manifest_failed c) = 7
number_of not_landed = 8
number_of not_extending = 9

-- the reason, the work, the id that it is about, if any, and its attempt
pub record Fault : Type 0 where
  pub reason : Reason
  pub work : Work
  pub id : Option ℕ
  pub attempt : ℕ

-- a fault of these parts
abbrev pub fault : Reason → Work → Option ℕ → ℕ → Fault
fault r k i a = record { reason = r; work = k; id = i; attempt = a }

-- a read that finds no record, once there was one
abbrev pub record_gone : stores.Fault
record_gone = record { step = stores.reading; cause = 0 }

abbrev pub work_of : work-type.Work → Work
work_of works.Look = look
work_of works.Claim = claim
work_of works.Heartbeat = heartbeat
work_of works.Completion = completion
work_of works.Release = release

-- a fault of a work that is under way
abbrev pub fault_during : Reason → During → Fault
fault_during r d = fault r (work_of d.work) (option_map number d.id) d.attempt

-- a store's fault, with the work that met it
abbrev pub told_fault : Told → Fault
told_fault t = fault_during (store_failed (store-meanings.fault_of t.fault)) t.during

abbrev pub fault_of : WorkerFault → Fault
fault_of (Store t) = told_fault t
fault_of (Manifest c d) = fault_during (manifest_failed c) d
fault_of (NotLanded d) = fault_during not_landed d
fault_of (NotExtending d) = fault_during not_extending d

-- a store's answer, with the work beside its fault
abbrev pub told_as : {X : Type 0} → During → Result X StoreFault → Result X Told
told_as d (Ok x) = Ok x
told_as d (Err f) = Err (record { fault = f; during = d })
