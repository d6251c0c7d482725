-- What claimed entries mean.
use Rattle.std.specs.Prelude.{ℕ, ◌+◌, List, [], ◌∷◌, ◌++◌, map, drop, Some, None, Option}
use Rattle.table.specs.Counted.{items_of}
use Rattle.compactions.specs.Entries.{Entry}
use Rattle.compactions.specs.Meanings.{entry_of}
use Rattle.worker_steps.specs.Claims.{Walked}
use Rattle.worker.specs.declared.claims.Claim.{Claim}
use Rattle.worker.specs.declared.claims.Claims.{Claims}
use Rattle.worker.specs.declared.claims.Chosen.{Chosen}

-- the chosen entries
abbrev pub chosen_of : Chosen → List Entry
chosen_of c = map entry_of (items_of c.entries)

-- a walk goes on from what was chosen and stopped before
abbrev pub going_on : List Entry → ℕ → Walked → Walked
going_on cs n x = record { table = x.table; jobs = x.jobs; chosen = cs ++ x.chosen; stopped = n + x.stopped }

-- the claims that wait, in their order
abbrev pub waiting : Claims → List Entry
waiting c = map entry_of (drop c.at (items_of c.entries))

-- a claim that was taken, if any
abbrev pub claimed : Option Claim → Option Entry
claimed None = None
claimed (Some c) = Some (entry_of c.entry)

-- the first entry, if any
abbrev pub first_of : List Entry → Option Entry
first_of [] = None
first_of (e ∷ es) = Some e

-- those after it
abbrev pub rest_of : List Entry → List Entry
rest_of [] = []
rest_of (e ∷ es) = es
