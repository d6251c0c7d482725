use Rattle.std.proofs.Common.{◌∙◌, rules}
use Rattle.table.proofs.Mapped.{admits-map, put_map}
use Rattle.compactions.specs.Meanings.{entry_of}
use Rattle.stores.specs.Meanings.{entries_of}
use Rattle.stores.specs.Records.{entry_id}
use Rattle.stores.proofs.record.Compactions.insert.Goals as goal

pub returns-clause-value : goal.returns-clause-value
returns-clause-value c =
    let a = c.put.ensures.value ∙ admits-map entry_of entry_id 32 c.args.entry (entries_of c.args.self.now) in
    search rules

pub returns-clause-after : goal.returns-clause-after
returns-clause-after c =
    let p = put_map entry_of entry_id c.args.entry (entries_of c.args.self.now) in
    search rules
