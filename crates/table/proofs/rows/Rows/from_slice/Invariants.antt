use Rattle.std.proofs.Common.{◌≡◌, take}
use Rattle.table.specs.Counted.{items_of}
use Rattle.table.proofs.rows.Rows.from_slice.Given as goal

abbrev pub invariant-loop-item : goal.invariant-loop-item
invariant-loop-item g l = items_of l.rows ≡ take l.item-index l.items
