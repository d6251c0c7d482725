-- A walk that keeps the items that pass a test: its turn at the item x at place i.
use Rattle.std.proofs.Common.{◌≡◌, ℕ, ◌+◌, ◌<◌, Bool, true, false, List, [], ◌∷◌, ◌++◌, length, get_or, filter, take, sym}
use Rattle.std.proofs.lemmas.List.{append-nil}
use Rattle.std.proofs.lemmas.List.Elements.{filter_more}

module _ {X : Type 0} (p : X → Bool) (xs : List X) (i : ℕ) (x : X) (l : i < length xs) (at-xs : x ≡ get_or xs i x) where
  pub kept : p x ≡ true → filter p (take (i + 1) xs) ≡ filter p (take i xs) ++ (x ∷ [])
  kept e = let m = filter_more p xs i x l in rw (sym at-xs, e) at m

  pub left_out : p x ≡ false → filter p (take (i + 1) xs) ≡ filter p (take i xs)
  left_out e = let m = filter_more p xs i x l in let n = rw (sym at-xs, e) at m in rw (append-nil (filter p (take i xs))) at n
