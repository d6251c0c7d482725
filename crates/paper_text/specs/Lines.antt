-- The lines of a text, and what of a line is read.
use Rattle.std.specs.Prelude.{ℕ, suc, Bool, true, false, cond, not, ◌&&◌, ◌||◌, List, [], ◌∷◌, Some, None, Option, ◌==◌, nat_lt}
use Rattle.std.specs.Borrow.{Bor}
use Rattle.paper_text.specs.Digits.{between}

-- two lists with a byte more before the first
abbrev pub with_first : ℕ → Option (List ℕ × List ℕ) → Option (List ℕ × List ℕ)
with_first b None = None
with_first b (Some p) = Some (b ∷ p.0, p.1)

-- what stands before and behind the first such byte
abbrev pub parts : ℕ → List ℕ → Option (List ℕ × List ℕ)
parts mark [] = None
parts mark (b ∷ bs) = cond (b == mark) (Some ([], bs)) (with_first b (parts mark bs))

-- whether the first byte is this one
abbrev pub begins : ℕ → List ℕ → Bool
begins c [] = false
begins c (b ∷ bs) = b == c

-- a byte more before the first line or word
abbrev pub onto : ℕ → List (List ℕ) → List (List ℕ)
onto b [] = (b ∷ []) ∷ []
onto b (l ∷ ls) = (b ∷ l) ∷ ls

-- the lines of a text: each ends at LF, a CR just before that is no part, the last needs no LF
abbrev pub lines : List ℕ → List (List ℕ)
lines [] = [] ∷ []
lines (b ∷ bs) = cond (b == 10) ([] ∷ lines bs) (cond (b == 13 && begins 10 bs) (lines bs) (onto b (lines bs)))

-- a line without the CR at its end
abbrev pub without_return : List ℕ → List ℕ
without_return [] = []
without_return (b ∷ []) = cond (b == 13) [] (b ∷ [])
without_return (b ∷ (c ∷ cs)) = b ∷ without_return (c ∷ cs)

-- the lines below the first one
abbrev pub lines_below : Option (Bor (List ℕ)) → List (List ℕ)
lines_below None = []
lines_below (Some t) = lines t.now

-- the number of the line that follows a text, counted from 1
abbrev pub line_after : List ℕ → ℕ
line_after [] = 1
line_after (b ∷ bs) = cond (b == 10) (suc (line_after bs)) (line_after bs)

-- a line up to its comment
abbrev pub before_comment : List ℕ → List ℕ
before_comment [] = []
before_comment (b ∷ bs) = cond (b == 35) [] (b ∷ before_comment bs)

-- whether a control character other than the tab ends with a byte after another one, in UTF-8
abbrev pub ends_control : ℕ → ℕ → Bool
ends_control before b = (nat_lt b 32 && not (b == 9)) || (b == 127 || (before == 194 && between 128 159 b))

-- whether one stands in a line, below a byte that is in front of it
abbrev pub control_after : ℕ → List ℕ → Bool
control_after before [] = false
control_after before (b ∷ bs) = cond (ends_control before b) true (control_after b bs)

abbrev pub has_control : List ℕ → Bool
has_control bs = control_after 0 bs
