-- Rows with a key, in ascending order: what put and strike leave.
use Rattle.std.proofs.Common.{◌≡◌, ℕ, suc, ◌<◌, ◌≤◌, Bool, true, false, ◌||◌, eqb, List, [], ◌∷◌, map, length, Some, None, refl, ap, arith}
use Rattle.std.specs.List.{AllByRecursion}
use Rattle.std.proofs.ByRecursion.{All-weaker, All-map}
use Rattle.std.proofs.lemmas.Bool.{cases_eq}
use Rattle.std.proofs.lemmas.Bool.Decides.{nat_tests}
use Rattle.table.specs.Tables.{Ascending, lookup, holds, put, strike}
use Rattle.table.proofs.Proved.{lawful}

pub out : (x y : Bool) → (x ≡ true → y ≡ true) → y ≡ false → x ≡ false
out true y f e = cc (f refl)
out false y f e = refl

pub flipped : (x y : Bool) → (x ≡ true → y ≡ false) → y ≡ true → x ≡ false
flipped true y f e = cc (f refl)
flipped false y f e = refl

module _ {R : Type 0} (key : R → ℕ) where
  -- each key is above k
  abbrev pub Above : ℕ → List R → Type 0
  Above k xs = AllByRecursion (λ y. k < key y) xs

  pub holds-put_same : (r : R) (xs : List R) → holds key (key r) (put key r xs) ≡ true
  holds-put_same r xs = let p = (lawful key).holds_put r (key r) xs in grind (arith, nat_tests)

  pub holds-put_other : (i : ℕ) (r : R) (xs : List R) → (i ≡ key r → ⊥) → holds key i (put key r xs) ≡ holds key i xs
  holds-put_other i r xs n = let p = (lawful key).holds_put r i xs in let o = cases_eq (key r) i in grind (arith, nat_tests)

  pub not_held : (i : ℕ) (xs : List R) → holds key i xs ≡ false → lookup key i xs ≡ None
  not_held i [] h = refl
  not_held i (x ∷ xs) h = let ih = not_held i xs in grind (arith, nat_tests)

  pub held : (i : ℕ) (r : R) (xs : List R) → lookup key i xs ≡ Some r → holds key i xs ≡ true
  held i r [] h = cc
  held i r (x ∷ xs) h = let ih = held i r xs in grind (arith, nat_tests)

  pub above_less : (j k : ℕ) (xs : List R) → j ≤ k → Above k xs → Above j xs
  above_less j k xs h a = All-weaker (λ y. k < key y) (λ y. j < key y) (λ y l. omega arith) xs a

  pub above_not : (k i : ℕ) (xs : List R) → Above k xs → i ≤ k → holds key i xs ≡ false
  above_not k i [] a h = refl
  above_not k i (x ∷ xs) a h = let ih = above_not k i xs a.1 h in let l = a.0 in grind (arith, nat_tests)

  pub holds-strike_other : (i k : ℕ) (xs : List R) → (i ≡ k → ⊥) → holds key i (strike key k xs) ≡ holds key i xs
  holds-strike_other i k [] h = refl
  holds-strike_other i k (x ∷ xs) h = let ih = holds-strike_other i k xs h in let o = cases_eq (key x) k in grind (arith, nat_tests)

  pub holds-strike_same : (k : ℕ) (xs : List R) → Ascending key xs → holds key k (strike key k xs) ≡ false
  holds-strike_same k [] s = refl
  holds-strike_same k (x ∷ xs) s =
      let ih = holds-strike_same k xs s.1 in
      let ab = above_not (key x) k xs s.0 in
      let o = cases_eq (key x) k in
      grind (arith, nat_tests)

  pub strike_within : (i k : ℕ) (xs : List R) → holds key i (strike key k xs) ≡ true → holds key i xs ≡ true
  strike_within i k [] h = h
  strike_within i k (x ∷ xs) h = let ih = strike_within i k xs in let o = cases_eq (key x) k in grind (arith, nat_tests)

  pub strike_missing : (k : ℕ) (xs : List R) → holds key k xs ≡ false → strike key k xs ≡ xs
  strike_missing k [] h = refl
  strike_missing k (x ∷ xs) h = let ih = strike_missing k xs in let o = cases_eq (key x) k in grind (arith, nat_tests)

  pub length_put : (r : R) (xs : List R) → length (put key r xs) ≤ suc (length xs)
  length_put r [] = omega arith
  length_put r (x ∷ xs) = let ih = length_put r xs in grind arith

  pub length-put_held : (r : R) (xs : List R) → Ascending key xs → holds key (key r) xs ≡ true → length (put key r xs) ≡ length xs
  length-put_held r xs s h = let p = (lawful key).length_put r xs s in grind arith

  pub length_strike : (k : ℕ) (xs : List R) → length (strike key k xs) ≤ length xs
  length_strike k [] = omega arith
  length_strike k (x ∷ xs) = let ih = length_strike k xs in grind arith

  pub length-strike_held : (k : ℕ) (xs : List R) → holds key k xs ≡ true → suc (length (strike key k xs)) ≡ length xs
  length-strike_held k xs h = let p = (lawful key).length_strike k xs in grind arith

  -- the keys alone
  pub ids_holds : (i : ℕ) (xs : List R) → holds (λ j. j) i (map key xs) ≡ holds key i xs
  ids_holds i [] = refl
  ids_holds i (x ∷ xs) = ap (λ b. eqb (key x) i || b) (ids_holds i xs)

  pub ids_ascending : (xs : List R) → Ascending key xs → Ascending (λ j. j) (map key xs)
  ids_ascending [] s = tt
  ids_ascending (x ∷ xs) s = (All-map (λ j. key x < j) key xs s.0, ids_ascending xs s.1)
