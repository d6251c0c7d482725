-- A scan for a number, over what the items mean.
use Rattle.std.proofs.Common.{◌≡◌, ℕ, eqb, List, [], ◌∷◌, map, refl, arith}
use Rattle.std.specs.List.{list_any}
use Rattle.std.proofs.lemmas.Bool.{cases_Bool}
use Rattle.paper.specs.Scans.{has_key}

pub has_key_is : {X Y : Type 0} (meaning : X → Y) (key : Y → ℕ) (k : ℕ) (xs : List X) → list_any (λ x. eqb (key (meaning x)) k) xs ≡ has_key key k (map meaning xs)
has_key_is meaning key k [] = refl
has_key_is meaning key k (x ∷ xs) = let ih = has_key_is meaning key k xs in let t = cases_Bool (eqb (key (meaning x)) k) in grind arith
