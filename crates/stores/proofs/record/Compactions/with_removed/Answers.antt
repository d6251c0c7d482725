use Rattle.std.proofs.Common.{◌∙◌, rules}
use Rattle.table.specs.Ids.{number}
use Rattle.table.proofs.Mapped.{holds-map, strike-map}
use Rattle.compactions.specs.Meanings.{entry_of}
use Rattle.stores.specs.Meanings.{entries_of}
use Rattle.stores.specs.Records.{entry_id}
use Rattle.stores.proofs.record.Compactions.with_removed.Goals as goal

pub returns : goal.returns
returns c =
    let xs = entries_of c.args.self in
    let had = c.strike-had.ensures.value ∙ holds-map entry_of entry_id (number c.args.id) xs in
    let left = strike-map entry_of entry_id (number c.args.id) xs in
    search rules
