-- What holds of every store, whatever befalls its calls.
use Rattle.std.specs.Prelude.{◌≡◌, ℕ, ◌<◌, ◌⊎◌, ◌∷◌, Some, None, Option}
use Rattle.stores.specs.Records.{Record}
use Rattle.stores.specs.Stores.{Store, clear, down, lost, got, conflict, Write, next_interference, later, settled, read, update}

-- a record stays, with the same entries at the same version, or at a higher version
abbrev pub Grows : Option Record → Option Record → Type 0
Grows None c = Unit {0}
Grows (Some r) None = ⊥
Grows (Some r) (Some s) = ((r.version ≡ s.version) × (r.entries ≡ s.entries)) ⊎ (r.version < s.version)

-- from one store to another by any number of calls
pub data Reached : Store → Store → Type 0 where
  here : (s : Store) → Reached s s
  by_read : (s t : Store) → Reached (read s).after t → Reached s t
  by_update : (s t : Store) (d : Record) → Reached (update d s).after t → Reached s t

-- only the others' edits of the next call
abbrev pub only_edited : Store → Store
only_edited s = record { current = settled s; ahead = later s.ahead }

-- the same store, with its next call clear
abbrev pub cleared : Store → Store
cleared s = record { current = s.current; ahead = record { edits = (next_interference s.ahead).edits; outcome = clear } ∷ later s.ahead }

pub record StoreLaws : Type 0 where
  -- the version never falls, and every change of the entries raises it
  pub grows : (s t : Store) → Reached s t → Grows s.current t.current
  -- an update that replaces entries replaces exactly those that its draft was read from
  pub replaces_what_was_read : (s t : Store) (r d : Record) (w : Write) → (read s).answer ≡ got r → Reached (read s).after t → d.version ≡ r.version → (update d t).wrote ≡ Some w → w.before ≡ r
  -- a conflict changes nothing beyond the others' edits
  pub conflict_keeps : (s : Store) (d : Record) → (update d s).answer ≡ conflict → (update d s).after ≡ only_edited s
  -- nor does an update that is down
  pub down_keeps : (s : Store) (d : Record) (k : ℕ) → (next_interference s.ahead).outcome ≡ down k → (update d s).after ≡ only_edited s
  -- a lost update leaves the same store as a clear one
  pub lost_acts : (s : Store) (d : Record) (k : ℕ) → (next_interference s.ahead).outcome ≡ lost k → (update d s).after ≡ (update d (cleared s)).after
