-- A row pushed where there is room, by its meaning.
use Rattle.std.proofs.Common.{◌≡◌, ℕ, ◌<◌, Bool, true, false, cond, ltb, [], ◌∷◌, ◌++◌, map, length, is_ok, Ok, Err, Result, refl, ap, ◌∙◌}
use Rattle.std.proofs.lemmas.List.{length-map, map-append}
use Rattle.table.proofs.Pushes.{fitted}
use Rattle.table.specs.Counted.{items_of}
use Rattle.compactions.specs.Refusals.{refused_with, unless}
use Rattle.table.specs.declared.rows.Rows.{Rows}
use Rattle.compactions.specs.declared.refusal.Refusal.{Refusal}

-- an answer that is not refused
pub taken : {X : Type 0} (r : Result X Refusal) (b : Bool) (n : ℕ) → refused_with r ≡ unless b n → b ≡ true → is_ok r ≡ true
taken (Ok x) b n e t = refl
taken (Err f) true n e t = cc
taken (Err f) false n e t = cc

pub pushed : {X Y : Type 0} (f : X → Y) (xs ys : Rows X 8) (x : X) (full : Refusal) (r : Result (Unit {0}) Refusal) → length (map f (items_of xs)) < 8 → r ≡ cond (ltb (length (items_of xs)) 8) (Ok tt) (Err full) → items_of ys ≡ cond (is_ok r) (items_of xs ++ (x ∷ [])) (items_of xs) → map f (items_of ys) ≡ map f (items_of xs) ++ (f x ∷ [])
pushed f xs ys x full r lt said e =
    let few : length (items_of xs) < 8 = rw (length-map (items_of xs) f) at lt in
    ap (map f) (fitted r (items_of xs) (items_of ys) x full 8 said few e) ∙ map-append f (items_of xs) (x ∷ [])
