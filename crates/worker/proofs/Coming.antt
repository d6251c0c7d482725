-- The items of a loop that are still to come, by their meaning, and the claims that wait.
use Rattle.std.proofs.Common.{◌≡◌, ℕ, ◌+◌, ◌<◌, List, [], ◌∷◌, map, length, get_or, drop, Some, sym, ap, ◌∙◌}
use Rattle.std.proofs.lemmas.List.{drop_more}
use Rattle.compactions.specs.Entries.{Entry}
use Rattle.worker.specs.Claims.{first_of, rest_of}

-- the item at hand is the first of them
pub coming : {X Y : Type 0} (f : X → Y) (xs : List X) (i : ℕ) (x : X) → i < length xs → x ≡ get_or xs i x → map f (drop i xs) ≡ f x ∷ map f (drop (i + 1) xs)
coming f xs i x lt is = ap (map f) (drop_more xs i x lt) ∙ ap (λ y. f y ∷ map f (drop (i + 1) xs)) (sym is)

-- the claim that was taken, and those that still wait
pub taken_first : (e : Entry) (es rest : List Entry) → Some e ≡ first_of es → rest ≡ rest_of es → es ≡ e ∷ rest
taken_first e [] rest p q = cc
taken_first e (x ∷ xs) rest p q = cc
