-- The job of the least start, as min_by_key picks it.
use Rattle.std.proofs.Common.{◌≡◌, ℕ, List, [], ◌∷◌, map, length, Some, None, Option, Bor, Ordering, Less, Equal, Greater, nat_cmp, sym, refl, ap, ◌∙◌, arith}
use Rattle.std.proofs.lemmas.Bool.Decides.{nat_tests}
use Rattle.std.specs.Fn.{Mut, CalledAt}
use Rattle.std.specs.Iterator.{Yields, KeyTurn, PicksMinByKey}
use Rattle.std.specs.List.{FoldsTo}
use Rattle.std.specs.Option.{option_map, option_copied}
use Rattle.std.specs.Ordering.{min_by_ordering}
use Rattle.std.specs.Slice.Iter.{iter_rest, iter_steps}
use Rattle.std.specs.declared.slice.Iter.{Iter}
use Rattle.executors.specs.Jobs.{Job, older, oldest, oldest_from}

-- what an iterator that ended has given
none_left : {M : Type 0} (xs : List M) → length xs ≡ 0 → xs ≡ []
none_left [] e = refl
none_left (x ∷ xs) e = absurd (omega arith)

drained : {M : Type 0} (xs : List (Bor M)) (s t u : Iter M) → Yields iter_steps s xs t → iter_steps t None u → iter_rest s ≡ map (λ x. x.now) xs
drained [] s t u y l = ap iter_rest y ∙ none_left (iter_rest t) l.0
drained (x ∷ xs) s t u y l = y.1 ∙ ap (λ ys. x.now ∷ ys) (drained xs y.0 t u y.2 l)

module _ {M F : Type 0} (meaning : M → Job) (g : Mut F (Bor (Bor M) × Unit {0}) ℕ) (f : F) where
  abbrev started : Bor M → ℕ
  started x = (meaning x.now).started

  -- the best so far and the next
  abbrev Picked : Ordering → Bor M → Bor M → Type 0
  Picked o x z = (older (Some (meaning x.now)) (meaning z.now) ≡ Some (meaning (min_by_ordering o x z).now)) × (min_by_ordering o (started x) (started z) ≡ started (min_by_ordering o x z))

  picked : (o : Ordering) (x z : Bor M) → nat_cmp (started x) (started z) ≡ o → Picked o x z
  picked Less x z e = (grind (arith, nat_tests), refl)
  picked Equal x z e = (grind (arith, nat_tests), refl)
  picked Greater x z e = (grind (arith, nat_tests), refl)

  module _ (says : (x : Bor M) (k : ℕ) (q : F) → CalledAt g f x k q → (q ≡ f) × (k ≡ started x)) where
    picked_from : (xs : List (Bor M)) (p : F) (k : ℕ) (x : Bor M) (q : F × ℕ) (y : Bor M) → p ≡ f → k ≡ started x → FoldsTo {P = (F × ℕ) × Bor M} (KeyTurn min_by_ordering min_by_ordering g nat_cmp) ((p, k), x) xs (q, y) → oldest_from (Some (meaning x.now)) (map meaning (map (λ z. z.now) xs)) ≡ Some (meaning y.now)
    picked_from [] p k x q y e h c = ap (λ t. Some (meaning t.1.now)) c
    picked_from (z ∷ xs) p k x q y e h c =
        let turn = c.1 in
        let said = says z turn.0 c.0.0.0 (rw e at turn.2) in
        let best = picked turn.1 x z (rw (h, said.1) at turn.3) in
        let key = (rw (h, said.1) at turn.4) ∙ best.1 ∙ ap started (sym turn.5) in
        let item = best.0 ∙ ap (λ b. Some (meaning b.now)) (sym turn.5) in
        ap (λ b. oldest_from b (map meaning (map (λ w. w.now) xs))) item ∙ picked_from xs c.0.0.0 c.0.0.1 c.0.1 q y said.0 key c.2

    pub oldest_picked : (s : Iter M) (r : Option (Bor M)) → PicksMinByKey iter_steps g nat_cmp s f r → option_map meaning (option_copied r) ≡ oldest (map meaning (iter_rest s))
    oldest_picked s None d = rw (drained [] s d.1.0 d.0 d.1.1 d.1.2) refl
    oldest_picked s (Some y) d =
        let first = says d.0 d.2 d.3 d.6 in
        rw (drained (d.0 ∷ d.1) s d.5.1.0 d.5.0 d.5.1.1 d.5.1.2) (sym (picked_from d.1 d.3 d.2 d.0 d.4 y first.0 first.1 d.7))
