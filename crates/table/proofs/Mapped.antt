-- A table of rows and the table of what they mean: the same steps, where the key is the meaning's.
use Rattle.std.proofs.Common.{◌≡◌, ℕ, Bool, true, false, cond, ◌||◌, eqb, ltb, leb, List, [], ◌∷◌, map, length, Some, sym, refl, ap, ◌∙◌}
use Rattle.std.specs.Option.{option_map}
use Rattle.std.proofs.lemmas.List.{length-map}
use Rattle.table.specs.Tables.{lookup, holds, put, admits, strike, ascends}

module _ {R M : Type 0} (meaning : R → M) (key : M → ℕ) where
  abbrev own : R → ℕ
  own r = key (meaning r)

  if_map : (b : Bool) (xs ys : List R) → map meaning (cond b xs ys) ≡ cond b (map meaning xs) (map meaning ys)
  if_map true xs ys = refl
  if_map false xs ys = refl

  if_mapped : (b : Bool) (x : R) (o : _) → option_map meaning (cond b (Some x) o) ≡ cond b (Some (meaning x)) (option_map meaning o)
  if_mapped true x o = refl
  if_mapped false x o = refl

  pub lookup-map : (k : ℕ) (xs : List R) → option_map meaning (lookup own k xs) ≡ lookup key k (map meaning xs)
  lookup-map k [] = refl
  lookup-map k (x ∷ xs) = if_mapped (eqb (own x) k) x (lookup own k xs) ∙ ap (λ o. cond (eqb (own x) k) (Some (meaning x)) o) (lookup-map k xs)

  pub holds-map : (k : ℕ) (xs : List R) → holds own k xs ≡ holds key k (map meaning xs)
  holds-map k [] = refl
  holds-map k (x ∷ xs) = ap (λ b. eqb (own x) k || b) (holds-map k xs)

  pub put_map : (r : R) (xs : List R) → map meaning (put own r xs) ≡ put key (meaning r) (map meaning xs)
  put_map r [] = refl
  put_map r (x ∷ xs) =
      if_map (ltb (own x) (own r)) _ _
      ∙ ap (λ ys. cond (ltb (own x) (own r)) (meaning x ∷ ys) (map meaning (cond (eqb (own x) (own r)) (r ∷ xs) (r ∷ x ∷ xs)))) (put_map r xs)
      ∙ ap (λ ys. cond (ltb (own x) (own r)) (meaning x ∷ put key (meaning r) (map meaning xs)) ys) (if_map (eqb (own x) (own r)) _ _)

  pub strike-map : (k : ℕ) (xs : List R) → map meaning (strike own k xs) ≡ strike key k (map meaning xs)
  strike-map k [] = refl
  strike-map k (x ∷ xs) = if_map (eqb (own x) k) _ _ ∙ ap (λ ys. cond (eqb (own x) k) (map meaning xs) (meaning x ∷ ys)) (strike-map k xs)

  pub admits-map : (room : ℕ) (r : R) (xs : List R) → admits own room r xs ≡ admits key room (meaning r) (map meaning xs)
  admits-map room r xs = ap (λ n. leb n room) (sym (length-map (put own r xs) meaning) ∙ ap length (put_map r xs))

  pub ascends-map : (xs : List R) → ascends own xs ≡ ascends key (map meaning xs)
  ascends-map [] = refl
  ascends-map (x ∷ []) = refl
  ascends-map (x ∷ (y ∷ xs)) = ap (λ b. cond (ltb (own x) (own y)) b false) (ascends-map (y ∷ xs))
