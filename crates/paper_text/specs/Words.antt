-- The words of a line.
use Rattle.std.specs.Prelude.{ℕ, suc, Bool, true, cond, ◌||◌, List, [], ◌∷◌, Some, None, Option, ◌==◌}
use Rattle.std.specs.Bool.{beq}
use Rattle.paper_text.specs.Lines.{onto}

-- a space or a tab
abbrev pub is_blank : ℕ → Bool
is_blank b = b == 32 || b == 9

-- whether a word can end here
abbrev pub at_blank : List ℕ → Bool
at_blank [] = true
at_blank (b ∷ bs) = is_blank b

-- the words of a line, between spaces and tabs
abbrev pub words : List ℕ → List (List ℕ)
words [] = []
words (b ∷ bs) = cond (is_blank b) (words bs) (cond (at_blank bs) ((b ∷ []) ∷ words bs) (onto b (words bs)))

-- how many bytes at the front are blank, or are not
abbrev pub leading : Bool → List ℕ → ℕ
leading blank [] = 0
leading blank (b ∷ bs) = cond (beq (is_blank b) blank) (suc (leading blank bs)) 0

-- the only word of a list
abbrev pub only_word : List (List ℕ) → Option (List ℕ)
only_word [] = None
only_word (w ∷ []) = Some w
only_word (w ∷ (v ∷ ws)) = None
