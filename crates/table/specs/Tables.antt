-- A table as a list of rows, over any row type and any key of a row.
use Rattle.std.specs.Prelude.{ℕ, suc, ◌<◌, Bool, true, false, cond, not, ◌||◌, List, [], ◌∷◌, length, Some, None, Option, ◌==◌, nat_le, nat_lt}
use Rattle.std.specs.List.{AllByRecursion}

-- keys rise strictly
abbrev pub Ascending : {R : Type 0} → (R → ℕ) → List R → Type 0
Ascending key [] = Unit {0}
Ascending key (x ∷ xs) = AllByRecursion (λ y. key x < key y) xs × Ascending key xs

-- the same as a test: each key is below the next
abbrev pub ascends : {R : Type 0} → (R → ℕ) → List R → Bool
ascends key [] = true
ascends key (x ∷ []) = true
ascends key (x ∷ (y ∷ xs)) = cond (nat_lt (key x) (key y)) (ascends key (y ∷ xs)) false

-- the row with a key
abbrev pub lookup : {R : Type 0} → (R → ℕ) → ℕ → List R → Option R
lookup key k [] = None
lookup key k (x ∷ xs) = cond (key x == k) (Some x) (lookup key k xs)

-- whether a row has the key
abbrev pub holds : {R : Type 0} → (R → ℕ) → ℕ → List R → Bool
holds key k [] = false
holds key k (x ∷ xs) = key x == k || holds key k xs

-- over the row of the same key, else before the first row of a larger key
abbrev pub put : {R : Type 0} → (R → ℕ) → R → List R → List R
put key r [] = r ∷ []
put key r (x ∷ xs) = cond (nat_lt (key x) (key r)) (x ∷ put key r xs) (cond (key x == key r) (r ∷ xs) (r ∷ x ∷ xs))

-- whether the table after a put has at most so many rows
abbrev pub admits : {R : Type 0} → (R → ℕ) → ℕ → R → List R → Bool
admits key room r xs = nat_le (length (put key r xs)) room

-- without the row of a key
abbrev pub strike : {R : Type 0} → (R → ℕ) → ℕ → List R → List R
strike key k [] = []
strike key k (x ∷ xs) = cond (key x == k) xs (x ∷ strike key k xs)

-- the place of the first row that passes, and the length where none does
abbrev pub first_with : {R : Type 0} → (R → Bool) → List R → ℕ
first_with test [] = 0
first_with test (x ∷ xs) = cond (test x) 0 (suc (first_with test xs))

-- tests of a row by a key
abbrev pub not_before : {R : Type 0} → (R → ℕ) → ℕ → R → Bool
not_before key k x = not (nat_lt (key x) k)

abbrev pub named_so : {R : Type 0} → (R → ℕ) → ℕ → R → Bool
named_so key k x = key x == k

-- whether a row was read, and has the key
abbrev pub hits : {R : Type 0} → (R → ℕ) → ℕ → Option R → Bool
hits key k None = false
hits key k (Some x) = key x == k
