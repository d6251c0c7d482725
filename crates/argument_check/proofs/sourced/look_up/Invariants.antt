use Rattle.std.proofs.Common.{◌≡◌, ◌≤◌, map, length, drop}
use Rattle.argument_check.specs.Check.{found}
use Rattle.argument_check.proofs.Lookups.{ahead}
use Rattle.table.specs.Counted.{items_of}
use Rattle.compactions.specs.Meanings.{source_of}
use Rattle.argument_check.proofs.sourced.look_up.Given as goal

abbrev pub invariant-loop-source : goal.invariant-loop-source
invariant-loop-source g l =
    let left = found g.R.Sourced.named g.R.Sourced.asked (map source_of (drop l.source-index l.sources)) l.rows in
    (length (items_of l.named) ≤ l.source-index)
    × (ahead (items_of l.named) left ≡ found g.R.Sourced.named g.R.Sourced.asked (map source_of l.sources) l.rows)
