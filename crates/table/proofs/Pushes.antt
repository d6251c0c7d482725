-- One item more in counted rows.
use Rattle.std.proofs.Common.{◌≡◌, ℕ, ◌<◌, cond, ltb, List, [], ◌∷◌, ◌++◌, length, is_ok, Ok, Err, Result, ap, ◌∙◌}
use Rattle.std.proofs.lemmas.Bool.{lt-ltb}

-- where there is a place, a push adds the item
pub fitted : {X E : Type 0} (r : Result (Unit {0}) E) (xs xs' : List X) (x : X) (full : E) (most : ℕ) → r ≡ cond (ltb (length xs) most) (Ok tt) (Err full) → length xs < most → xs' ≡ cond (is_ok r) (xs ++ (x ∷ [])) xs → xs' ≡ xs ++ (x ∷ [])
fitted r xs xs' x full most e l a = let ok = rw (lt-ltb _ _ l) at e in a ∙ ap (λ s. cond (is_ok s) (xs ++ (x ∷ [])) xs) ok
