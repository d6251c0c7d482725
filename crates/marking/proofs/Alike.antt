-- Lists that agree place by place, by std's words.
use Rattle.std.proofs.Common.{◌≡◌, Bool, ◌&&◌, List, [], ◌∷◌, map, length, refl, ap, arith}
use Rattle.std.specs.List.{zip, list_all}
use Rattle.marking.specs.Marking.{alike}

module _ {X Y : Type 0} (e : X → Y → Bool) where
  -- lists of one length are, where their pairs are
  pub pairs_alike : (xs : List X) (ys : List Y) → length xs ≡ length ys → list_all (λ p. e p.0 p.1) (zip xs ys) ≡ alike e xs ys
  pairs_alike [] [] n = refl
  pairs_alike [] (y ∷ ys) n = absurd (omega arith)
  pairs_alike (x ∷ xs) [] n = absurd (omega arith)
  pairs_alike (x ∷ xs) (y ∷ ys) n = ap (λ b. e x y && b) (pairs_alike xs ys (omega arith))

  -- what is compared may be what the items mean
  pub alike-map : {Z : Type 0} (f : Z → Y) (xs : List X) (zs : List Z) → alike (λ x z. e x (f z)) xs zs ≡ alike e xs (map f zs)
  alike-map f [] [] = refl
  alike-map f [] (z ∷ zs) = refl
  alike-map f (x ∷ xs) [] = refl
  alike-map f (x ∷ xs) (z ∷ zs) = ap (λ b. e x (f z) && b) (alike-map f xs zs)
