-- What counted rows stand for.
use Rattle.std.specs.Prelude.{ℕ, List, take}
use Rattle.table.specs.declared.rows.Rows.{Rows}

-- the items that count
abbrev pub items_of : {T : Type 0} {N : ℕ} → Rows T N → List T
items_of r = take r.len r.items
