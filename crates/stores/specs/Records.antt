-- A record by its meaning: a version and entries, ascending by their ids.
use Rattle.std.specs.Prelude.{ℕ, ◌+◌, ◌-◌, ◌^◌, cond, List, Some, None, Option, nat_lt}
use Rattle.table.specs.Tables.{holds, put, admits, strike}
use Rattle.compactions.specs.Entries.{Entry}

-- what a store keeps
pub record Record : Type 0 where
  pub version : ℕ
  pub entries : List Entry

-- an entry's key
abbrev pub entry_id : Entry → ℕ
entry_id e = e.id

-- the record with other entries, at its version
abbrev pub with_entries : Record → List Entry → Record
with_entries r es = record { version = r.version; entries = es }

-- the highest version
abbrev pub last_version : ℕ
last_version = 2 ^ 64 - 1

-- the most entries of a record
abbrev pub most_entries : ℕ
most_entries = 32

-- one version on, with these entries
abbrev pub raised : Record → List Entry → Record
raised r es = record { version = r.version + 1; entries = es }

-- a changed record one version on, or the old one where there is no change or no version is left
abbrev pub after_change : Option Record → Record → Record
after_change None r = r
after_change (Some d) r = cond (nat_lt d.version last_version) (raised d d.entries) r

-- an entry put by someone else: passed over at the highest version, or if it is new and there is no place
abbrev pub put_entry : Entry → Record → Record
put_entry e r =
    cond (nat_lt r.version last_version)
    (cond (admits entry_id most_entries e r.entries) (raised r (put entry_id e r.entries)) r)
    r

-- an entry removed by someone else: passed over at the highest version, or if it is missing
abbrev pub remove_entry : ℕ → Record → Record
remove_entry i r =
    cond (nat_lt r.version last_version)
    (cond (holds entry_id i r.entries) (raised r (strike entry_id i r.entries)) r)
    r
