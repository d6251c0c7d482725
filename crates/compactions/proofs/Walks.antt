-- The order of prefixes is std's order of slices.
use Rattle.std.proofs.Common.{◌≡◌, ℕ, Bool, true, false, cond, eqb, ltb, List, [], ◌∷◌, Some, Option, Ordering, Less, Equal, Greater, refl}
use Rattle.std.specs.Ordering.{nat_cmp, is_lt, is_some_and, partial_ordering_then}
use Rattle.std.specs.Cmp.Lexicographic.{slice_partial_cmp}
use Rattle.compactions.specs.Prefixes.{before}

first_apart : (b c rest : Bool) (r : Option Ordering) → is_some_and is_lt r ≡ rest → is_some_and is_lt (partial_ordering_then (Some (cond b Less (cond c Equal Greater))) r) ≡ cond b true (cond c rest false)
first_apart true c rest r e = refl
first_apart false true rest r e = e
first_apart false false rest r e = refl

pub before_from_lt : (xs ys : List ℕ) → is_some_and is_lt (slice_partial_cmp (λ x y. Some (nat_cmp x y)) xs ys) ≡ before xs ys
before_from_lt [] [] = refl
before_from_lt [] (y ∷ ys) = refl
before_from_lt (x ∷ xs) [] = refl
before_from_lt (x ∷ xs) (y ∷ ys) = first_apart (ltb x y) (eqb x y) (before xs ys) _ (before_from_lt xs ys)
