-- A filter of rows: it keeps their order, and goes through a map.
use Rattle.std.proofs.Common.{◌≡◌, ℕ, ◌<◌, ◌≤◌, Bool, true, false, cond, ◌⊎◌, List, [], ◌∷◌, map, length, filter, sym, refl, ap, ◌∙◌, inl, inr, arith}
use Rattle.std.proofs.ByRecursion.{all_kept_by}
use Rattle.std.proofs.lemmas.Bool.{cond_both, cases_Bool, cases_eq, false≢true}
use Rattle.std.proofs.lemmas.Bool.Decides.{nat_tests}
use Rattle.table.specs.Tables.{Ascending, holds}

pub map_kept : {X Y : Type 0} (f : X → Y) (p : Y → Bool) (xs : List X) → map f (filter (λ x. p (f x)) xs) ≡ filter p (map f xs)
map_kept f p [] = refl
map_kept f p (x ∷ xs) = let ih = map_kept f p xs in by (p (f x)) ih
  where
    by : (b : Bool) → map f (filter (λ y. p (f y)) xs) ≡ filter p (map f xs) → map f (cond b (x ∷ filter (λ y. p (f y)) xs) (filter (λ y. p (f y)) xs)) ≡ cond b (f x ∷ filter p (map f xs)) (filter p (map f xs))
    by true ih = ap (λ ys. f x ∷ ys) ih
    by false ih = ih

module _ {R : Type 0} (key : R → ℕ) (p : R → Bool) where
  pub ascending_kept : (xs : List R) → Ascending key xs → Ascending key (filter p xs)
  ascending_kept [] a = tt
  ascending_kept (x ∷ xs) a = cond_both (p x) _ _ (Ascending key) (λ _. (all_kept_by p (λ y. key x < key y) xs a.0, ascending_kept xs a.1)) (λ _. ascending_kept xs a.1)

  pub length_kept : (xs : List R) → length (filter p xs) ≤ length xs
  length_kept [] = omega arith
  length_kept (x ∷ xs) = let ih = length_kept xs in grind arith

  -- what is kept was there
  pub holds_kept : (i : ℕ) (xs : List R) → holds key i (filter p xs) ≡ true → holds key i xs ≡ true
  holds_kept i [] h = h
  holds_kept i (x ∷ xs) h = let ih = holds_kept i xs in grind arith

-- what is kept passes
pub kept_passes : {R : Type 0} (key : R → ℕ) (q : ℕ → Bool) (i : ℕ) (xs : List R) → holds key i (filter (λ x. q (key x)) xs) ≡ true → q i ≡ true
kept_passes key q i [] h = absurd (false≢true h)
kept_passes key q i (x ∷ xs) h = by (cases_Bool (q (key x))) (cases_eq (key x) i) (kept_passes key q i xs)
  where
    by : ((q (key x) ≡ true) ⊎ (q (key x) ≡ false)) → ((key x ≡ i) ⊎ (key x ≡ i → ⊥)) → (holds key i (filter (λ y. q (key y)) xs) ≡ true → q i ≡ true) → q i ≡ true
    by (inl p) (inl e) ih = sym (ap q e) ∙ p
    by (inl p) (inr n) ih = ih (grind (arith, nat_tests))
    by (inr p) e ih = ih (grind (arith, nat_tests))
