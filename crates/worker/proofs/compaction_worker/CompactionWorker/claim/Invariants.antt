use Rattle.std.proofs.Common.{◌≡◌, ◌+◌, ◌-◌, ◌≤◌, [], length}
use Rattle.worker_steps.specs.States.{state}
use Rattle.worker_steps.specs.Tracking.{Tracked}
use Rattle.worker_steps.specs.Claims.{claiming}
use Rattle.worker.specs.Polls.{counts_of}
use Rattle.worker.specs.Worker.{held_of, settings_of}
use Rattle.worker.proofs.Claiming.{Claiming}
use Rattle.worker.proofs.compaction_worker.CompactionWorker.claim.Given as goal

abbrev pub invariant-attempts : goal.invariant-attempts
invariant-attempts g l =
    let m = g.S.CompactionsStore in
    let s = settings_of g.E.CompactionExecutor.places.count l.initial.self in
    let h₀ = held_of (g.E.CompactionExecutor.jobs l.initial.self.executor).list l.initial.self in
    let h = held_of (g.E.CompactionExecutor.jobs l.self.executor).list l.self in
    Claiming s l.capacity l.attempt (λ ms. claiming s l.capacity (state h₀ (m.meaning l.initial.store) l.initial.clock ms)) h (m.meaning l.store) l.clock (counts_of l.initial.counts) (counts_of l.counts)
    × (settings_of g.E.CompactionExecutor.places.count l.self ≡ s)
    × (l.capacity + length h.table ≤ l.self.maximum)
    × Tracked l.self.maximum [] h.table h.left

abbrev pub decreases-attempts : goal.decreases-attempts
decreases-attempts g l = l.self.limit - l.attempt
