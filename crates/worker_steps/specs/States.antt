-- What a worker's calls work on.
use Rattle.std.specs.Prelude.{ℕ, Bool, List, Option, Result}
use Rattle.compactions.specs.Entries.{Context}
use Rattle.compactions.specs.Jobs.{Args}
use Rattle.compactions.specs.Trees.{Manifest}
use Rattle.stores.specs.Stores.{Store}
use Rattle.executors.specs.Clocks.{Readings}

-- the worker's number, maximum and attempt limit, and its executor's places
pub record Settings : Type 0 where
  pub number : ℕ
  pub maximum : ℕ
  pub limit : ℕ
  pub places : ℕ

-- a row of the job table: a job that runs, and how far it has come
pub record JobRow : Type 0 where
  pub id : ℕ
  pub context : Option Context

-- a row's key
abbrev pub row_id : JobRow → ℕ
row_id r = r.id

-- an id is its own key
abbrev pub self_id : ℕ → ℕ
self_id i = i

-- what the worker holds: its loaded mark, its job table, its left-behind list, and its executor's running jobs
pub record Held : Type 0 where
  pub loaded : Bool
  pub table : List JobRow
  pub left : List ℕ
  pub jobs : List Args

-- with another mark
abbrev pub with_loaded : Held → Bool → Held
with_loaded h b = record { loaded = b; table = h.table; left = h.left; jobs = h.jobs }

-- with another list
abbrev pub with_left : Held → List ℕ → Held
with_left h l = record { loaded = h.loaded; table = h.table; left = l; jobs = h.jobs }

-- with another table and other jobs
abbrev pub with_jobs : Held → List JobRow → List Args → Held
with_jobs h t j = record { loaded = h.loaded; table = t; left = h.left; jobs = j }

-- what the worker holds, the store, and what clock and manifest source will give
pub record State : Type 0 where
  pub held : Held
  pub store : Store
  pub clock : Readings
  pub manifests : List (Result Manifest ℕ)

-- a state of these parts
abbrev pub state : Held → Store → Readings → List (Result Manifest ℕ) → State
state h s c ms = record { held = h; store = s; clock = c; manifests = ms }

-- the worker holds something else
abbrev pub holding : Held → State → State
holding h w = state h w.store w.clock w.manifests

-- another store
abbrev pub storing : Store → State → State
storing s w = state w.held s w.clock w.manifests

-- another clock
abbrev pub timing : Readings → State → State
timing c w = state w.held w.store c w.manifests

-- other manifests
abbrev pub reading_on : List (Result Manifest ℕ) → State → State
reading_on ms w = state w.held w.store w.clock ms
