use Rattle.std.proofs.Common.{is_some, sym, ap, ◌∙◌}
use Rattle.table.specs.Fixed.{rows_in}
use Rattle.table.specs.Ids.{by, number}
use Rattle.table.proofs.Proved.{lawful}
use Rattle.table.proofs.fixed_table.FixedTable.holds.Goals as goal

pub returns : goal.returns
returns g c =
    let key = by g.R.Row.named in
    c.is_some.ensures ∙ ap is_some c.get.ensures ∙ sym ((lawful key).holds_lookup (number c.args.id) (rows_in c.args.self.now))
