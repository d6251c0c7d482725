-- What the rows of the worker's tables mean.
use Rattle.std.specs.Prelude.{ℕ, List, map}
use Rattle.std.specs.Option.{option_map}
use Rattle.table.specs.Fixed.{rows_in}
use Rattle.table.specs.Ids.{number}
use Rattle.table.specs.declared.fixed_table.FixedTable.{FixedTable}
use Rattle.table.specs.declared.ulid.Ulid.{Ulid}
use Rattle.compactions.specs.Meanings.{context_of}
use Rattle.worker_steps.specs.States.{JobRow}
use Rattle.worker.specs.declared.job_progress.Progress.{Progress}

abbrev pub row_of : Progress → JobRow
row_of p = record { id = number p.id; context = option_map context_of p.ctx }

-- the job table
abbrev pub table_of : {row : _} → FixedTable Progress 8 row → List JobRow
table_of t = map row_of (rows_in t)

-- the left-behind list
abbrev pub list_of : {row : _} → FixedTable Ulid 40 row → List ℕ
list_of l = map number (rows_in l)
