-- A worker by its meaning.
use Rattle.std.specs.Prelude.{ℕ, Bool, List}
use Rattle.compactions.specs.Jobs.{Args}
use Rattle.worker_steps.specs.States.{JobRow, Settings, Held}

-- its number and limits, what it holds, and its executor; what the executor runs is said by the bound
-- of each function alone, so that a type may hold a worker without one
pub record Worker (E : Type 0) : Type 0 where
  pub number : ℕ
  pub maximum : ℕ
  pub limit : ℕ
  pub loaded : Bool
  pub table : List JobRow
  pub left : List ℕ
  pub executor : E

-- what it holds, over the jobs that its executor runs
abbrev pub held_of : {E : Type 0} → List Args → Worker E → Held
held_of j w = record { loaded = w.loaded; table = w.table; left = w.left; jobs = j }

-- its settings, over the places of its executor
abbrev pub settings_of : {E : Type 0} → ℕ → Worker E → Settings
settings_of places w = record { number = w.number; maximum = w.maximum; limit = w.limit; places = places }
