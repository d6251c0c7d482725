-- The order of rows as a fact and as a test.
use Rattle.std.proofs.Common.{◌≡◌, ℕ, ◌<◌, Bool, true, false, cond, List, [], ◌∷◌, ◌++◌, refl, arith}
use Rattle.std.specs.List.{AllByRecursion}
use Rattle.std.proofs.ByRecursion.{All-weaker}
use Rattle.std.proofs.lemmas.Bool.{ltb-true, lt-ltb, false≢true}
use Rattle.table.specs.Tables.{Ascending, ascends, put, strike}
use Rattle.table.proofs.Proved.{lawful}

module _ {R : Type 0} (key : R → ℕ) where
  -- the two parts of the test
  parts : (b c : Bool) → cond b c false ≡ true → (b ≡ true) × (c ≡ true)
  parts true c e = (refl, e)
  parts false c e = absurd (false≢true e)

  pub ascending_from : (xs : List R) → ascends key xs ≡ true → Ascending key xs
  ascending_from [] e = tt
  ascending_from (x ∷ []) e = (tt, tt)
  ascending_from (x ∷ (y ∷ xs)) e =
      let p = parts _ _ e in
      let a = ascending_from (y ∷ xs) p.1 in
      let l = ltb-true (key x) (key y) p.0 in
      ((l, All-weaker (λ z. key y < key z) (λ z. key x < key z) (λ z h. omega arith) xs a.0), a)

  pub ascends_from : (xs : List R) → Ascending key xs → ascends key xs ≡ true
  ascends_from [] a = refl
  ascends_from (x ∷ []) a = refl
  ascends_from (x ∷ (y ∷ xs)) a = rw (lt-ltb (key x) (key y) a.0.0) (ascends_from (y ∷ xs) a.1)

  pub put_ascends : (r : R) (xs : List R) → ascends key xs ≡ true → ascends key (put key r xs) ≡ true
  put_ascends r xs e = ascends_from (put key r xs) ((lawful key).put_ascends r xs (ascending_from xs e))

  pub strike_ascends : (k : ℕ) (xs : List R) → ascends key xs ≡ true → ascends key (strike key k xs) ≡ true
  strike_ascends k xs e = ascends_from (strike key k xs) ((lawful key).strike_ascends k xs (ascending_from xs e))

  above_without : (y : R) (ys zs : List R) (x : R) → AllByRecursion (λ z. key y < key z) (ys ++ (x ∷ zs)) → AllByRecursion (λ z. key y < key z) (ys ++ zs)
  above_without y [] zs x a = a.1
  above_without y (z ∷ ys) zs x a = (a.0, above_without y ys zs x a.1)

  -- without an item in the middle
  ascending_without : (ys zs : List R) (x : R) → Ascending key (ys ++ (x ∷ zs)) → Ascending key (ys ++ zs)
  ascending_without [] zs x a = a.1
  ascending_without (y ∷ ys) zs x a = (above_without y ys zs x a.0, ascending_without ys zs x a.1)

  pub ascends_without : (ys zs : List R) (x : R) → ascends key (ys ++ (x ∷ zs)) ≡ true → ascends key (ys ++ zs) ≡ true
  ascends_without ys zs x e = ascends_from (ys ++ zs) (ascending_without ys zs x (ascending_from (ys ++ (x ∷ zs)) e))
