-- The order of prefixes.
use Rattle.std.specs.Prelude.{ℕ, Bool, true, false, cond, ◌&&◌, List, [], ◌∷◌, ◌==◌, nat_lt}

-- whether one prefix stands before another, byte by byte; a proper beginning stands before
abbrev pub before : List ℕ → List ℕ → Bool
before [] [] = false
before [] (y ∷ ys) = true
before (x ∷ xs) [] = false
before (x ∷ xs) (y ∷ ys) = cond (nat_lt x y) true (cond (x == y) (before xs ys) false)

-- whether prefixes rise strictly from a first one on; from the empty one on, none of them is empty
abbrev pub rises : List ℕ → List (List ℕ) → Bool
rises p [] = true
rises p (q ∷ qs) = before p q && rises q qs

-- the last of them, or the first one where there are none
abbrev pub latest : List ℕ → List (List ℕ) → List ℕ
latest p [] = p
latest p (q ∷ qs) = latest q qs
