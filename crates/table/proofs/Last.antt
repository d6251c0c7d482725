-- What is read off a list's last item: f by recursion, and g at the item itself.
use Rattle.std.proofs.Common.{◌≡◌, suc, ◌-◌, ◌<◌, List, [], ◌∷◌, length, get_or, Some, None, Option, Bor, refl, sym, ap, ◌∙◌, arith}
use Rattle.std.specs.List.{slice_get}
use Rattle.std.specs.Option.{option_copied, MatchOption}
use Rattle.std.proofs.lemmas.Option.{slice_get-get_or, slice_get_within, get_or_from_slice_get}
use Rattle.table.proofs.Absurd.{none≢some}

module _ {X V : Type 0} (f : List X → V) (g : X → V) (one : (x : X) → f (x ∷ []) ≡ g x) (more : (x y : X) (ys : List X) → f (x ∷ (y ∷ ys)) ≡ f (y ∷ ys)) where
  at_last : (xs : List X) (d : X) → 0 < length xs → f xs ≡ g (get_or xs (length xs - 1) d)
  at_last [] d l = absurd (omega arith)
  at_last (x ∷ []) d l = one x
  at_last (x ∷ (y ∷ ys)) d l =
      let z : length (x ∷ (y ∷ ys)) - 1 ≡ suc (length (y ∷ ys) - 1) = omega arith in
      more x y ys ∙ rw z (at_last (y ∷ ys) d (omega arith))

  -- what `last` gives
  pub from_last : (xs : List X) (o : Option (Bor X)) → option_copied o ≡ slice_get xs (length xs - 1) → MatchOption o (xs ≡ []) (λ x. f xs ≡ g x.now)
  from_last [] None e = refl
  from_last (x ∷ xs) None e = absurd (none≢some (e ∙ slice_get-get_or (x ∷ xs) (length (x ∷ xs) - 1) x (omega arith)))
  from_last xs (Some x) e =
      let w = slice_get_within xs (length xs - 1) x.now (sym e) in
      at_last xs x.now (omega (arith, w)) ∙ ap g (get_or_from_slice_get xs (length xs - 1) x.now x.now (sym e))
