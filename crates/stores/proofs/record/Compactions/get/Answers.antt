use Rattle.std.proofs.Common.{ap, ◌∙◌}
use Rattle.std.specs.Option.{option_map}
use Rattle.table.specs.Ids.{number}
use Rattle.table.proofs.Mapped.{lookup-map}
use Rattle.compactions.specs.Meanings.{entry_of}
use Rattle.stores.specs.Meanings.{entries_of}
use Rattle.stores.specs.Records.{entry_id}
use Rattle.stores.proofs.record.Compactions.get.Goals as goal

pub returns : goal.returns
returns c = ap (option_map entry_of) c.get.ensures ∙ lookup-map entry_of entry_id (number c.args.id) (entries_of c.args.self.now)
