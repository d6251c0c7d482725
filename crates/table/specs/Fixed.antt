-- What a table with its own rows stands for.
use Rattle.std.specs.Prelude.{List}
use Rattle.table.specs.Counted.{items_of}
use Rattle.table.specs.declared.fixed_table.FixedTable.{FixedTable}

-- its rows
abbrev pub rows_in : {R N row : _} → FixedTable R N row → List R
rows_in t = items_of t.rows
