-- What the two kinds of store mean.
use Rattle.std.specs.Prelude.{[], map}
use Rattle.std.specs.Option.{option_map}
use Rattle.stores.specs.declared.interference.Interference as lent
use Rattle.stores.specs.declared.held_store.HeldStore.{HeldStore}
use Rattle.stores.specs.declared.list_store.ListStore.{ListStore}
use Rattle.stores.specs.Meanings.{record_of, edit_of, outcome_of}
use Rattle.stores.specs.Stores.{Interference, Store}

-- the record, and nothing ahead
abbrev pub held_store_of : HeldStore → Store
held_store_of s = record { current = option_map record_of s.current; ahead = [] }

-- what befalls one call, by its meaning
abbrev pub coming : lent.Interference → Interference
coming x = record { edits = map edit_of x.edits.now; outcome = outcome_of x.outcome }

-- the record, and what is left of the list
abbrev pub list_store_of : ListStore → Store
list_store_of s = record { current = option_map record_of s.current; ahead = map coming (s.ahead.now) }
