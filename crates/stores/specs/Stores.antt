-- What a store means, and what its calls do to it.
use Rattle.std.specs.Prelude.{ℕ, cond, List, [], ◌∷◌, Some, None, Option, ◌==◌, nat_lt}
use Rattle.compactions.specs.Entries.{Entry}
use Rattle.stores.specs.Records.{Record, last_version, raised, put_entry, remove_entry}

-- someone else's change to the record
pub data Edit : Type 0 where
  create : Edit
  puts : Entry → Edit
  removes : ℕ → Edit

-- how a store call goes; a fault has a cause
pub data Outcome : Type 0 where
  clear : Outcome
  down : ℕ → Outcome
  lost : ℕ → Outcome

-- what befalls one store call: others' edits before it, and how it goes
pub record Interference : Type 0 where
  pub edits : List Edit
  pub outcome : Outcome

-- the record, if any, and what is ahead of it
pub record Store : Type 0 where
  pub current : Option Record
  pub ahead : List Interference

-- the record after one edit: create makes an empty record of version 1 where there is none
abbrev pub edited : Edit → Option Record → Option Record
edited create None = Some (record { version = 1; entries = [] })
edited create (Some r) = Some r
edited (puts e) None = None
edited (puts e) (Some r) = Some (put_entry e r)
edited (removes i) None = None
edited (removes i) (Some r) = Some (remove_entry i r)

-- after edits in their order
abbrev pub all_edited : List Edit → Option Record → Option Record
all_edited [] c = c
all_edited (d ∷ ds) c = all_edited ds (edited d c)

-- the first one ahead; none means no edits, and clear
abbrev pub next_interference : List Interference → Interference
next_interference [] = record { edits = []; outcome = clear }
next_interference (x ∷ xs) = x

-- those after it
abbrev pub later : List Interference → List Interference
later [] = []
later (x ∷ xs) = xs

-- the record as the edits of the first one ahead leave it
abbrev pub settled : Store → Option Record
settled s = all_edited (next_interference s.ahead).edits s.current

-- the kinds of store call
pub data Step : Type 0 where
  reading : Step
  updating : Step

-- a call that failed: its kind and the cause
pub record Fault : Type 0 where
  pub step : Step
  pub cause : ℕ

-- what a read answers
pub data ReadAnswer : Type 0 where
  got : Record → ReadAnswer
  absent : ReadAnswer
  unread : Fault → ReadAnswer

-- the answer of a clear read
abbrev pub of_current : Option Record → ReadAnswer
of_current None = absent
of_current (Some r) = got r

-- a read's answer, by how the call goes
abbrev pub read_answer : Outcome → Option Record → ReadAnswer
read_answer clear c = of_current c
read_answer (down k) c = unread (record { step = reading; cause = k })
read_answer (lost k) c = unread (record { step = reading; cause = k })

-- a read: its answer, and the store after it
pub record Reading : Type 0 where
  pub answer : ReadAnswer
  pub after : Store

-- others' edits, then the answer
abbrev pub read : Store → Reading
read s = record {
  answer = read_answer (next_interference s.ahead).outcome (settled s);
  after = record { current = settled s; ahead = later s.ahead };
}

-- what an update answers
pub data UpdateAnswer : Type 0 where
  landed : UpdateAnswer
  conflict : UpdateAnswer
  unwritten : Fault → UpdateAnswer

-- an update that replaced the entries: the record just before, and the entries after
pub record Write : Type 0 where
  pub before : Record
  pub after : List Entry

-- what a clear update does to the record that it finds
pub record Replacing : Type 0 where
  pub answer : UpdateAnswer
  pub now : Option Record
  pub wrote : Option Write

-- the version read has to be that of the record, and below the highest
abbrev pub replacing : Record → Option Record → Replacing
replacing d None = record { answer = conflict; now = None; wrote = None }
replacing d (Some r) =
    cond (d.version == r.version)
    (cond (nat_lt d.version last_version)
    (record { answer = landed; now = Some (raised d d.entries); wrote = Some (record { before = r; after = d.entries }) })
    (record { answer = unwritten (record { step = updating; cause = 0 }); now = Some r; wrote = None }))
    (record { answer = conflict; now = Some r; wrote = None })

-- an update: its answer, the store after it, and what it wrote, if anything
pub record Updating : Type 0 where
  pub answer : UpdateAnswer
  pub after : Store
  pub wrote : Option Write

-- by how the call goes: one that is down does nothing, a lost one acts as if clear
abbrev pub update_going : Outcome → Replacing → Option Record → List Interference → Updating
update_going clear x c xs = record { answer = x.answer; after = record { current = x.now; ahead = xs }; wrote = x.wrote }
update_going (down k) x c xs = record { answer = unwritten (record { step = updating; cause = k }); after = record { current = c; ahead = xs }; wrote = None }
update_going (lost k) x c xs = record { answer = unwritten (record { step = updating; cause = k }); after = record { current = x.now; ahead = xs }; wrote = x.wrote }

-- others' edits, then the draft in the place of the entries
abbrev pub update : Record → Store → Updating
update d s = update_going (next_interference s.ahead).outcome (replacing d (settled s)) (settled s) (later s.ahead)
