use Rattle.std.proofs.Common.{◌≡◌, map, take}
use Rattle.table.specs.Counted.{items_of}
use Rattle.compactions.specs.Meanings.{sst_of, view_of}
use Rattle.worker.proofs.compaction_worker.completion.ssts_of.Given as goal

abbrev pub invariant-loop-view : goal.invariant-loop-view
invariant-loop-view l = map sst_of (items_of l.ssts) ≡ map (λ v. (view_of v).sst) (take l.view-index l.view-items)
