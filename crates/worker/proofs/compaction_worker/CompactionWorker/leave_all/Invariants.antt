use Rattle.std.proofs.Common.{◌≡◌, map, length}
use Rattle.stores.specs.Records.{entry_id}
use Rattle.worker_steps.specs.States.{with_left}
use Rattle.worker_steps.specs.Tracking.{Tracked}
use Rattle.worker_steps.specs.Claims.{joined}
use Rattle.worker.specs.Claims.{waiting}
use Rattle.worker.specs.Worker.{held_of, settings_of}
use Rattle.worker.proofs.compaction_worker.CompactionWorker.leave_all.Given as goal

abbrev pub invariant-loop-claim : goal.invariant-loop-claim
invariant-loop-claim g l =
    let h = held_of (g.E.CompactionExecutor.jobs l.self.executor).list l.self in
    let h₀ = held_of (g.E.CompactionExecutor.jobs l.initial.self.executor).list l.initial.self in
    (with_left h (joined (waiting l.claims) h.left) ≡ with_left h₀ (joined (waiting l.initial.claims) h₀.left))
    × (settings_of g.E.CompactionExecutor.places.count l.self ≡ settings_of g.E.CompactionExecutor.places.count l.initial.self)
    × Tracked l.self.maximum (map entry_id (waiting l.claims)) h.table h.left

abbrev pub decreases-loop-claim : goal.decreases-loop-claim
decreases-loop-claim g l = length (waiting l.claims)
