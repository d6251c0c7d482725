-- The loops that compare two contexts: what is left to compare from a place on.
use Rattle.std.proofs.Common.{◌≡◌, ℕ, ◌<◌, ◌≤◌, Bool, true, false, ◌&&◌, eqb, List, [], ◌∷◌, map, length, refl, ap, arith}
use Rattle.std.specs.List.{list_all, zip}
use Rattle.compactions.specs.Entries.{Sub}
use Rattle.worker_steps.specs.Extending.{starts_with, sub_extends, subs_extend}

-- too few outputs
pub outputs_short : {A : Type 0} (f : A → ℕ) (old new : List A) → length new < length old → false ≡ starts_with (map f old) (map f new)
outputs_short f [] new l = absurd (omega arith)
outputs_short f (x ∷ xs) [] l = refl
outputs_short f (x ∷ xs) (y ∷ ys) l = by (eqb (f x) (f y)) (outputs_short f xs ys (omega arith))
  where
    by : (b : Bool) → false ≡ starts_with (map f xs) (map f ys) → false ≡ (b && starts_with (map f xs) (map f ys))
    by true e = e
    by false e = refl

-- enough of them, compared pair by pair
pub outputs_paired : {A : Type 0} (f : A → ℕ) (old new : List A) → length old ≤ length new → list_all (λ (p : A × A). eqb (f p.0) (f p.1)) (zip old new) ≡ starts_with (map f old) (map f new)
outputs_paired f [] new l = refl
outputs_paired f (x ∷ xs) [] l = absurd (omega arith)
outputs_paired f (x ∷ xs) (y ∷ ys) l = ap (λ b. eqb (f x) (f y) && b) (outputs_paired f xs ys (omega arith))

-- lists of different lengths
pub subs_uneven : {A : Type 0} (f : A → Sub) (old new : List A) → (length old ≡ length new → ⊥) → false ≡ subs_extend (map f old) (map f new)
subs_uneven f [] [] n = absurd (n refl)
subs_uneven f [] (y ∷ ys) n = refl
subs_uneven f (x ∷ xs) [] n = refl
subs_uneven f (x ∷ xs) (y ∷ ys) n = let ih = subs_uneven f xs ys (λ e. n (omega arith)) in by (sub_extends (f x) (f y)) ih
  where
    by : (b : Bool) → false ≡ subs_extend (map f xs) (map f ys) → false ≡ (b && subs_extend (map f xs) (map f ys))
    by true e = e
    by false e = refl

-- lists of one length, compared pair by pair
pub subs_paired : {A : Type 0} (f : A → Sub) (old new : List A) → length old ≡ length new → list_all (λ (p : A × A). sub_extends (f p.0) (f p.1)) (zip old new) ≡ subs_extend (map f old) (map f new)
subs_paired f [] [] e = refl
subs_paired f [] (y ∷ ys) e = absurd (omega arith)
subs_paired f (x ∷ xs) [] e = absurd (omega arith)
subs_paired f (x ∷ xs) (y ∷ ys) e = ap (λ b. sub_extends (f x) (f y) && b) (subs_paired f xs ys (omega arith))
