use Rattle.std.proofs.Common.{◌≡◌, map, drop}
use Rattle.compactions.specs.Meanings.{entry_of}
use Rattle.worker.specs.Claims.{chosen_of}
use Rattle.worker.specs.Worker.{held_of, settings_of}
use Rattle.worker.proofs.Walks.{Walking}
use Rattle.worker.proofs.compaction_worker.CompactionWorker.choose.Given as goal

abbrev pub invariant-loop-entry : goal.invariant-loop-entry
invariant-loop-entry g l =
    Walking l.capacity (map entry_of l.entry-items) (held_of (g.E.CompactionExecutor.jobs l.initial.self.executor).list l.initial.self) (chosen_of l.chosen) l.chosen.stopped (map entry_of (drop l.entry-index l.entry-items)) (held_of (g.E.CompactionExecutor.jobs l.self.executor).list l.self)
    × (settings_of g.E.CompactionExecutor.places.count l.self ≡ settings_of g.E.CompactionExecutor.places.count l.initial.self)
