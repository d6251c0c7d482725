use Rattle.std.proofs.Common.{◌≡◌, ◌≤◌, true, ◌++◌, length, filter, take, drop}
use Rattle.table.specs.Counted.{items_of}
use Rattle.table.specs.Keeping.{Answers}
use Rattle.table.specs.Tables.{ascends}
use Rattle.table.proofs.rows.Rows.retain.Given as goal

abbrev pub invariant-loop-item : goal.invariant-loop-item
invariant-loop-item g l =
    (l.self.len ≤ l.item-index)
    × (length l.item-items ≤ g.row.N)
    × ((p : _) → Answers g.F.Fn l.keep p → items_of l.self ≡ filter p (take l.item-index l.item-items))
    × ((key : _) → ascends key l.item-items ≡ true → ascends key (items_of l.self ++ drop l.item-index l.item-items) ≡ true)
