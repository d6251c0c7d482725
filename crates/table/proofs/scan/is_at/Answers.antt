use Rattle.std.proofs.Common.{rules}
use Rattle.std.proofs.lemmas.Option.{slice_get_read, slice_get_past}
use Rattle.table.proofs.scan.is_at.Goals as goal

pub returns-in_default : goal.returns-in_default
returns-in_default g c = search (rules, slice_get_read) depth 9

pub returns-in_default-2 : goal.returns-in_default-2
returns-in_default-2 g c = search (rules, slice_get_past) depth 9
