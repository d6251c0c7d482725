use Rattle.table.specs.Ids.{by}
use Rattle.table.proofs.Proved.{lawful}
use Rattle.table.proofs.table.Table.over.Goals as goal

pub returns-clause-laws : goal.returns-clause-laws
returns-clause-laws g c = lawful (by g.R.Row.named)
