-- The bytes of hex digits.
use Rattle.std.proofs.Common.{◌≡◌, ℕ, zero, suc, ◌+◌, ◌*◌, map, ◌<◌, ◌≤◌, Bool, true, false, cond, List, [], ◌∷◌, ◌++◌, length, get_or, drop, Ok, Err, Result, sym, refl, ap, ◌∙◌, subst, arith}
use Rattle.std.specs.Simd.{first_chunks}
use Rattle.std.proofs.lemmas.List.{length-map, length-drop, length-append}
use Rattle.std.proofs.lemmas.Bool.{lt-leb}
use Rattle.paper_text.specs.Digits.{digit_value, byte_value}
use Rattle.paper_text.specs.Numbers.{value_of, pairs, held}

-- a push that is refused is refused with what was given, and there is no place
pub push_refused : {E : Type 0} (r : Result (Unit {0}) E) (e over : E) (b : Bool) → r ≡ Err e → r ≡ cond b (Ok tt) (Err over) → (e ≡ over) × (b ≡ false)
push_refused r e over true p q = let z = sym q ∙ p in cc
push_refused r e over false p q = let z = sym p ∙ q in (cc, refl)

-- the byte of a pair of digits
abbrev pub byte_of : List ℕ → ℕ
byte_of p = value_of (byte_value (digit_value (get_or p 0 0)) (digit_value (get_or p 1 0)))

-- a byte for each chunk of two
pub pairs_are : (n : ℕ) (ds : List ℕ) → n * 2 ≤ length ds → length ds < n * 2 + 2 → map byte_of (first_chunks 2 n ds) ≡ pairs ds
pairs_are zero [] l h = refl
pairs_are zero (x ∷ []) l h = refl
pairs_are zero (x ∷ (y ∷ ds)) l h = absurd (omega arith)
pairs_are (suc n) [] l h = absurd (omega arith)
pairs_are (suc n) (x ∷ []) l h = absurd (omega arith)
pairs_are (suc n) (x ∷ (y ∷ ds)) l h = ap (λ bs. value_of (byte_value (digit_value x) (digit_value y)) ∷ bs) (pairs_are n ds (omega arith) (omega arith))

module _ {E : Type 0} (over : E) (done : List ℕ) (ps : List (List ℕ)) (i : ℕ) (all : List ℕ) (inv : done ++ map byte_of (drop i ps) ≡ all) where
  -- a byte too many
  pub bytes_over : i < length ps → 16 ≤ length done → Err over ≡ held over all
  bytes_over h n =
      let long : 16 < length all = subst (λ xs. 16 < length xs) inv (simp (length-append, length-map, length-drop) (omega arith)) in
      rw (lt-leb (length all) 16 long) refl
