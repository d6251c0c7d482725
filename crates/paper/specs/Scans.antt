-- A scan for a number.
use Rattle.std.specs.Prelude.{ℕ, Bool, true, false, cond, List, [], ◌∷◌, ◌==◌}

-- whether one of these has that number
abbrev pub has_key : {X : Type 0} → (X → ℕ) → ℕ → List X → Bool
has_key key k [] = false
has_key key k (x ∷ xs) = cond (key x == k) true (has_key key k xs)
