use Rattle.std.proofs.Common.{map, sym, ap, ◌∙◌}
use Rattle.std.proofs.lemmas.List.{take_all}
use Rattle.std.proofs.lemmas.Simd.{map-map}
use Rattle.table.specs.Counted.{items_of}
use Rattle.compactions.specs.Meanings.{view_of}
use Rattle.worker.proofs.compaction_worker.completion.ssts_of.Goals as goal

pub returns : goal.returns
returns c =
    c.loop-view.invariant
    ∙ ap (map (λ v. (view_of v).sst)) (take_all c.loop-view.view-index c.as_slice-view-items.result.now c.loop-view-test.false ∙ c.as_slice-view-items.ensures)
    ∙ sym (map-map (λ v. v.sst) view_of (items_of c.args.run.now.sst_views))
