-- What the jobs that a worker owns mean.
use Rattle.std.specs.Prelude.{ℕ, List}
use Rattle.worker_steps.specs.States.{JobRow}

-- the maximum, the job table and the left-behind list
pub record Owned : Type 0 where
  pub maximum : ℕ
  pub table : List JobRow
  pub left : List ℕ

-- with another table
abbrev pub with_table : Owned → List JobRow → Owned
with_table o t = record { maximum = o.maximum; table = t; left = o.left }

-- with another list
abbrev pub with_list : Owned → List ℕ → Owned
with_list o l = record { maximum = o.maximum; table = o.table; left = l }
