use Rattle.std.proofs.Common.{◌≡◌, Some}
use Rattle.table.specs.Ids.{number}
use Rattle.worker_steps.specs.Faults.{fault, not_landed}
use Rattle.worker_steps.specs.States.{state}
use Rattle.worker_steps.specs.Releases.{stuck}
use Rattle.worker.specs.EntryWorks.{entry_attempt, entry_work}
use Rattle.worker.specs.Worker.{held_of, settings_of}
use Rattle.worker.proofs.Retrying.{Trying}
use Rattle.worker.proofs.compaction_worker.CompactionWorker.work_on_entry.Given as goal

abbrev pub invariant-loop-attempt : goal.invariant-loop-attempt
invariant-loop-attempt g l =
    let m = g.S.CompactionsStore in
    let x = g.W.EntryWork.steps l.work in
    let s = settings_of g.E.CompactionExecutor.places.count l.initial.self in
    let i = number l.id in
    Trying (entry_attempt x s i) (stuck (fault not_landed x.work (Some i) s.limit)) s.limit l.attempt (λ ms. entry_work x s i (state (held_of (g.E.CompactionExecutor.jobs l.initial.self.executor).list l.initial.self) (m.meaning l.initial.store) l.initial.clock ms)) (λ ms. state (held_of (g.E.CompactionExecutor.jobs l.self.executor).list l.self) (m.meaning l.store) l.clock ms)
    × (settings_of g.E.CompactionExecutor.places.count l.self ≡ s)
