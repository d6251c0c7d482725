-- How many lines a text has.
use Rattle.std.proofs.Common.{ℕ, ◌+◌, ◌≤◌, List, [], ◌∷◌, length, arith}
use Rattle.std.proofs.lemmas.Grind.{common_steps}
use Rattle.paper_text.specs.Lines.{lines, onto}

onto_le : (b : ℕ) (ls : List (List ℕ)) → length (onto b ls) ≤ length ls + 1
onto_le b [] = omega arith
onto_le b (l ∷ ls) = omega arith

-- at most one for each byte, and one
pub lines_le : (bs : List ℕ) → length (lines bs) ≤ length bs + 1
lines_le [] = omega arith
lines_le (b ∷ bs) = let ih = lines_le bs in let o = onto_le b (lines bs) in grind (arith, common_steps)
