-- A clock by its meaning.
use Rattle.std.specs.Prelude.{ℕ, suc, ◌-◌, ◌^◌, List, [], ◌∷◌, ℤ, pos, negsuc}

-- the readings ahead, and the last that was given, at first 0
pub record Readings : Type 0 where
  pub ahead : List ℤ
  pub last : ℤ

-- the next reading: the first ahead, else the last again
abbrev pub reading : Readings → ℤ
reading t = elim t.ahead [ [] ↦ t.last | x ∷ xs ↦ x ]

-- the clock after a reading
abbrev pub passed : Readings → Readings
passed t = elim t.ahead [ [] ↦ t | x ∷ xs ↦ record { ahead = xs; last = x } ]

-- a reading modulo 2^64
abbrev pub stamped : ℤ → ℕ
stamped (pos n) = n
stamped (negsuc n) = 2 ^ 64 - suc n
