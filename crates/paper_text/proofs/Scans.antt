-- Scans over bytes.
use Rattle.std.proofs.Common.{◌≡◌, ℕ, zero, suc, ◌+◌, ◌-◌, ◌<◌, Bool, not, eqb, List, [], ◌∷◌, length, get_or, take, drop, Some, None, Option, refl, sym, add-one, arith}
use mathlib.Core.Bool.{beq}
use Rattle.std.specs.List.{position, position_or_len}
use Rattle.std.specs.Option.{unwrap_or}
use Rattle.std.proofs.lemmas.Bool.{cases_Bool, eq-eqb, ne_eqb}
use Rattle.std.proofs.lemmas.List.{take_rest}
use Rattle.std.proofs.lemmas.List.Sums.{prefix_len-le-length}
use Rattle.std.proofs.lemmas.Bool.Decides.{nat_tests}
use Rattle.std.proofs.lemmas.List.Recursion.{is_position_or_len}
use Rattle.paper_text.specs.Lines.{parts}
use Rattle.paper_text.specs.Words.{is_blank, leading}

-- the parts at the first mark, which is at i
pub parts_at : (mark i : ℕ) (bs : List ℕ) → ((k : ℕ) → k < i → get_or bs k 0 ≡ mark → ⊥) → i < length bs → get_or bs i 0 ≡ mark → parts mark bs ≡ Some (take i bs, drop (suc i) bs)
parts_at mark i [] before l e = absurd (omega arith)
parts_at mark zero (b ∷ bs) before l e = rw (eq-eqb b mark e)
parts_at mark (suc i) (b ∷ bs) before l e =
    let n = ne_eqb b mark (before 0 (omega arith)) in
    let ih = parts_at mark i bs (λ k h. before (suc k) (omega arith)) (omega arith) e in
    rw (n, ih)

-- the same, as a slice is cut
pub parts_cut : (mark i : ℕ) (bs : List ℕ) → ((k : ℕ) → k < i → get_or bs k 0 ≡ mark → ⊥) → i < length bs → get_or bs i 0 ≡ mark → Some (take i bs, take (length bs - (i + 1)) (drop (i + 1) bs)) ≡ parts mark bs
parts_cut mark i bs before l e = rw (take_rest bs (i + 1), add-one i) (sym (parts_at mark i bs before l e))

-- no mark
pub parts_none : (mark : ℕ) (bs : List ℕ) → ((k : ℕ) → k < length bs → get_or bs k 0 ≡ mark → ⊥) → None ≡ parts mark bs
parts_none mark [] before = refl
parts_none mark (b ∷ bs) before =
    let n = ne_eqb b mark (before 0 (omega arith)) in
    let ih = parts_none mark bs (λ k h. before (suc k) (omega arith)) in
    rw (n, ← ih)

-- how many bytes at the front are blank, or are not: as many as stand before the first that differs
leading_is : (blank : Bool) (bs : List ℕ) → leading blank bs ≡ position_or_len (λ b. not (beq (is_blank b) blank)) bs
leading_is blank = is_position_or_len (leading blank) (λ b. not (beq (is_blank b) blank)) refl (λ b bs. let t = cases_Bool (beq (is_blank b) blank) in grind arith)

pub leading_found : (blank : Bool) (bs : List ℕ) (r : Option ℕ) → r ≡ position (λ b. not (beq (is_blank b) blank)) bs → unwrap_or r (length bs) ≡ leading blank bs
leading_found blank bs r e =
    let n = prefix_len-le-length (λ b. not (not (beq (is_blank b) blank))) bs in
    rw (e, leading_is blank bs) (grind (arith, nat_tests))
