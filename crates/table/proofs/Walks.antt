-- The searches of a list by std's words. Assumes nothing.
use Rattle.std.proofs.Common.{◌≡◌, ℕ, Bool, cond, eqb, ltb, List, [], ◌∷◌, length, Some, None, Option, refl, ap, arith}
use Rattle.std.specs.Option.{unwrap_or}
use Rattle.std.specs.List.{position_or_len, find}
use Rattle.std.proofs.lemmas.Bool.{cases_Bool}
use Rattle.std.proofs.lemmas.Bool.Decides.{nat_tests}
use Rattle.table.specs.Tables.{lookup, first_with, named_so}
use Rattle.table.proofs.Scans.{first_with_within}

module _ {R : Type 0} (test : R → Bool) where
  first_at : (xs : List R) → first_with test xs ≡ position_or_len test xs
  first_at [] = refl
  first_at (x ∷ xs) = let e = first_at xs in let b = cases_Bool (test x) in grind arith

  -- the place that `position` gives, or the length
  pub first_from_position : (xs : List R) (r : Option ℕ) → r ≡ cond (ltb (position_or_len test xs) (length xs)) (Some (position_or_len test xs)) None → unwrap_or r (length xs) ≡ first_with test xs
  first_from_position xs r e =
      let f = first_at xs in
      let w = first_with_within test xs in
      let b = cases_Bool (ltb (position_or_len test xs) (length xs)) in
      grind (arith, nat_tests)

-- the row that `find` gives
pub lookup_from_find : {R : Type 0} (key : R → ℕ) (k : ℕ) (xs : List R) → lookup key k xs ≡ find (named_so key k) xs
lookup_from_find key k [] = refl
lookup_from_find key k (x ∷ xs) = ap (λ o. cond (eqb (key x) k) (Some x) o) (lookup_from_find key k xs)
