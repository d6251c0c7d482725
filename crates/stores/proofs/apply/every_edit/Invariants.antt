use Rattle.std.proofs.Common.{◌≡◌, map, drop}
use Rattle.std.specs.Option.{option_map}
use Rattle.stores.specs.Meanings.{record_of, edit_of}
use Rattle.stores.specs.Stores.{all_edited}
use Rattle.stores.proofs.apply.every_edit.Given as goal

abbrev pub invariant-loop-edit : goal.invariant-loop-edit
invariant-loop-edit l = all_edited (map edit_of (drop l.edit-index l.edits)) (option_map record_of l.current) ≡ all_edited (map edit_of l.edits) (option_map record_of l.initial.current)
