use Rattle.std.proofs.Common.{◌≡◌, length}
use Rattle.compactions.specs.Meanings.{manifest_of}
use Rattle.worker_steps.specs.States.{state}
use Rattle.worker_steps.specs.Polls.{dispatching}
use Rattle.worker.specs.Claims.{waiting}
use Rattle.worker.specs.Polls.{counts_of}
use Rattle.worker.specs.Worker.{held_of, settings_of}
use Rattle.worker.proofs.Dispatching.{Dispatching}
use Rattle.worker.proofs.compaction_worker.CompactionWorker.dispatch.Given as goal

abbrev pub invariant-loop-claim : goal.invariant-loop-claim
invariant-loop-claim g l =
    let m = g.S.CompactionsStore in
    let s = settings_of g.E.CompactionExecutor.places.count l.initial.self in
    let h₀ = held_of (g.E.CompactionExecutor.jobs l.initial.self.executor).list l.initial.self in
    let h = held_of (g.E.CompactionExecutor.jobs l.self.executor).list l.self in
    Dispatching s (manifest_of l.manifest) (λ ms. dispatching s (manifest_of l.manifest) (waiting l.initial.claims) (state h₀ (m.meaning l.initial.store) l.initial.clock ms)) l.self.maximum (waiting l.claims) h (m.meaning l.store) l.clock (counts_of l.initial.counts) (counts_of l.counts)
    × (settings_of g.E.CompactionExecutor.places.count l.self ≡ s)

abbrev pub decreases-loop-claim : goal.decreases-loop-claim
decreases-loop-claim g l = length (waiting l.claims)
