-- The first n of some places, after items were moved to make or close a gap. Assumes nothing.
use Rattle.std.proofs.Common.{◌≡◌, ℕ, suc, ◌+◌, ◌-◌, ◌<◌, ◌≤◌, List, ◌∷◌, ◌++◌, [], length, get_or, take, drop, set, sym, ap, ◌∙◌, arith}
use Rattle.std.specs.List.{insert, remove, copy_within}
use Rattle.std.proofs.Math.Seq.{take-set-lt, set-append_seam}
use Rattle.std.proofs.lemmas.List.{take_more, take-take, drop-take, append_assoc, length-take-le, length-drop}
use Rattle.std.proofs.lemmas.List.Edits.{take-paste}

module _ {X : Type 0} (xs : List X) (n at : ℕ) where
  -- the items behind the gap are those of the front
  behind : at ≤ n → take (n - at) (drop at xs) ≡ drop at (take n xs)
  behind l = let z : at + (n - at) ≡ n = omega arith in sym (drop-take at (n - at) xs) ∙ ap (λ m. drop at (take m xs)) z

  pub opened : (y : X) → at ≤ n → n < length xs → take (n + 1) (set (copy_within xs at n (at + 1)) at y) ≡ insert (take n xs) at y
  opened y l h =
      let m : n + 1 ≡ (at + 1) + (n - at) = omega arith in
      let long : n - at ≤ length (drop at xs) = simp length-drop (omega arith) in
      let front : take at xs ≡ take at (take n xs) = sym (take-take at n xs l) in
      let moved : take (n + 1) (copy_within xs at n (at + 1)) ≡ take at xs ++ (get_or xs at y ∷ take (n - at) (drop at xs)) =
      ap (λ k. take k (copy_within xs at n (at + 1))) m
      ∙ take-paste xs (at + 1) (drop at xs) (n - at) (omega arith) long
      ∙ ap (λ ys. ys ++ take (n - at) (drop at xs)) (take_more xs at y (omega arith))
      ∙ append_assoc (take at xs) (get_or xs at y ∷ []) (take (n - at) (drop at xs)) in
      let k : length (take at xs) ≡ at = length-take-le at xs (omega arith) in
      take-set-lt (n + 1) (copy_within xs at n (at + 1)) at y (omega arith)
      ∙ ap (λ ys. set ys at y) moved
      ∙ ap (λ i. set (take at xs ++ (get_or xs at y ∷ take (n - at) (drop at xs))) i y) (sym k)
      ∙ set-append_seam (take at xs) (get_or xs at y) (take (n - at) (drop at xs)) y
      ∙ ap (λ ys. take at xs ++ (y ∷ ys)) (behind l)
      ∙ ap (λ ys. ys ++ (y ∷ drop at (take n xs))) front

  pub closed : at < n → n ≤ length xs → take (n - 1) (copy_within xs (at + 1) n at) ≡ remove (take n xs) at
  closed l h =
      let m : n - 1 ≡ at + (n - (at + 1)) = omega arith in
      let z : (at + 1) + (n - (at + 1)) ≡ n = omega arith in
      let next : at + 1 ≡ suc at = omega arith in
      let long : n - (at + 1) ≤ length (drop (at + 1) xs) = simp length-drop (omega arith) in
      ap (λ k. take k (copy_within xs (at + 1) n at)) m
      ∙ take-paste xs at (drop (at + 1) xs) (n - (at + 1)) (omega arith) long
      ∙ ap (λ ys. take at xs ++ ys) (sym (drop-take (at + 1) (n - (at + 1)) xs) ∙ ap (λ k. drop (at + 1) (take k xs)) z)
      ∙ ap (λ ys. ys ++ drop (at + 1) (take n xs)) (sym (take-take at n xs (omega arith)))
      ∙ ap (λ k. take at (take n xs) ++ drop k (take n xs)) next
