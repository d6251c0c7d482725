use Rattle.std.proofs.Common.{ap, ◌∙◌}
use Rattle.table.specs.Ids.{number}
use Rattle.worker_steps.specs.States.{state}
use Rattle.worker_steps.specs.Completions.{completing}
use Rattle.worker.specs.Worker.{held_of, settings_of}
use Rattle.worker.proofs.compaction_worker.CompactionWorker.write_compacted.Goals as goal

pub returns-clause-answer : goal.returns-clause-answer
returns-clause-answer g c =
    let w = c.args.self.now in
    λ ms. c.work_on_entry.ensures.answer ms ∙ ap (λ outs. (completing (settings_of g.E.CompactionExecutor.places.count w) (number c.args.id) outs (state (held_of (g.E.CompactionExecutor.jobs w.executor).list w) (g.S.CompactionsStore.meaning c.args.store.now) c.args.clock.now ms)).result) c.ssts_of.ensures

pub returns-clause-after : goal.returns-clause-after
returns-clause-after g c =
    let w = c.args.self.now in
    λ ms. c.work_on_entry.ensures.after ms ∙ ap (λ outs. (completing (settings_of g.E.CompactionExecutor.places.count w) (number c.args.id) outs (state (held_of (g.E.CompactionExecutor.jobs w.executor).list w) (g.S.CompactionsStore.meaning c.args.store.now) c.args.clock.now ms)).state) c.ssts_of.ensures
