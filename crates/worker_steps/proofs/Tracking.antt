-- What becomes of pending ids keeps table, list and the others apart, and within their places.
use Rattle.std.proofs.Common.{◌≡◌, ℕ, ◌+◌, ◌≤◌, true, false, ◌⊎◌, List, [], ◌∷◌, length, sym, ◌∙◌, subst, inl, inr, arith}
use Rattle.std.proofs.lemmas.Bool.{cases_eq}
use Rattle.std.proofs.lemmas.Bool.Decides.{nat_tests}
use Rattle.table.specs.Tables.{Ascending, holds, put, strike}
use Rattle.table.proofs.Proved.{lawful}
use Rattle.worker_steps.specs.States.{JobRow, row_id, self_id}
use Rattle.worker_steps.specs.Tracking.{Tracked}
use Rattle.worker_steps.proofs.Rows.{out, flipped, holds-put_other, holds-strike_same, above_not, strike_within, length_put, length-put_held, length_strike, length-strike_held}

-- a list without some ids
pub record Shorter (l l' : List ℕ) : Type 0 where
  pub ascending : Ascending self_id l'
  pub within : (i : ℕ) → holds self_id i l' ≡ true → holds self_id i l ≡ true
  pub size : length l' ≤ length l

-- a table without some rows
pub record Trimmed (t t' : List JobRow) : Type 0 where
  pub ascending : Ascending row_id t → Ascending row_id t'
  pub within : (i : ℕ) → holds row_id i t' ≡ true → holds row_id i t ≡ true
  pub size : length t' ≤ length t

pub not_trimmed : (t : List JobRow) → Trimmed t t
not_trimmed t = record { ascending = λ a. a; within = λ i h. h; size = omega arith }

pub trimmed_on : {t t' t'' : List JobRow} → Trimmed t t' → Trimmed t' t'' → Trimmed t t''
trimmed_on a b = record {
  ascending = λ s. b.ascending (a.ascending s);
  within = λ i h. a.within i (b.within i h);
  size = omega arith;
}

pub strike_trims : (k : ℕ) (t : List JobRow) → Trimmed t (strike row_id k t)
strike_trims k t = record {
  ascending = (lawful row_id).strike_ascends k t;
  within = λ i h. strike_within row_id i k t h;
  size = length_strike row_id k t;
}

module _ {max : ℕ} {P : List ℕ} {t : List JobRow} {l : List ℕ} (b : Tracked max P t l) where
  pub relist : (l' : List ℕ) → Shorter l l' → Tracked max P t l'
  relist l' s = record {
    table_ascending = b.table_ascending;
    left_ascending = s.ascending;
    pending_ascending = b.pending_ascending;
    table_left = λ i h. out (holds self_id i l') (holds self_id i l) (s.within i) (b.table_left i h);
    table_pending = b.table_pending;
    left_pending = λ i h. b.left_pending i (s.within i h);
    room = b.room;
    fits = omega arith;
  }

  pub trim : {t' : List JobRow} → Trimmed t t' → Tracked max P t' l
  trim s = record {
    table_ascending = s.ascending b.table_ascending;
    left_ascending = b.left_ascending;
    pending_ascending = b.pending_ascending;
    table_left = λ i h. b.table_left i (s.within i h);
    table_pending = λ i h. b.table_pending i (s.within i h);
    left_pending = b.left_pending;
    room = omega arith;
    fits = omega arith;
  }

-- ids become pending where none was
pub claim_ids : {max : ℕ} {t : List JobRow} {l : List ℕ} (cs : List ℕ) → Tracked max [] t l → Ascending self_id cs → ((i : ℕ) → holds self_id i cs ≡ true → holds row_id i t ≡ false) → ((i : ℕ) → holds self_id i cs ≡ true → holds self_id i l ≡ false) → length t + length cs ≤ max → length l + (length t + length cs) ≤ 40 → Tracked max cs t l
claim_ids {t = t} {l = l} cs b s ht hl r f = record {
  table_ascending = b.table_ascending;
  left_ascending = b.left_ascending;
  pending_ascending = s;
  table_left = b.table_left;
  table_pending = λ i h. flipped (holds self_id i cs) (holds row_id i t) (ht i) h;
  left_pending = λ i h. flipped (holds self_id i cs) (holds self_id i l) (hl i) h;
  room = r;
  fits = f;
}

head_held : (i : ℕ) (P : List ℕ) → holds self_id i (i ∷ P) ≡ true
head_held i P = grind (arith, nat_tests)

not_tail : (k i : ℕ) (P : List ℕ) → holds self_id k (i ∷ P) ≡ false → holds self_id k P ≡ false
not_tail k i P h = grind (arith, nat_tests)

module _ {max : ℕ} {i : ℕ} {P : List ℕ} {t : List JobRow} {l : List ℕ} (b : Tracked max (i ∷ P) t l) where
  -- the first pending id is settled
  pub settle : Tracked max P t l
  settle = record {
    table_ascending = b.table_ascending;
    left_ascending = b.left_ascending;
    pending_ascending = b.pending_ascending.1;
    table_left = b.table_left;
    table_pending = λ k h. not_tail k i P (b.table_pending k h);
    left_pending = λ k h. not_tail k i P (b.left_pending k h);
    room = omega arith;
    fits = omega arith;
  }

  pub head_not_row : holds row_id i t ≡ false
  head_not_row = flipped (holds row_id i t) (holds self_id i (i ∷ P)) (b.table_pending i) (head_held i P)

  pub head_not_left : holds self_id i l ≡ false
  head_not_left = flipped (holds self_id i l) (holds self_id i (i ∷ P)) (b.left_pending i) (head_held i P)

  head_not_again : holds self_id i P ≡ false
  head_not_again = above_not self_id i i P b.pending_ascending.0 (omega arith)

  -- or gets a row
  pub start_row : (r : JobRow) → r.id ≡ i → Tracked max P (put row_id r t) l
  start_row r p = record {
    table_ascending = (lawful row_id).put_ascends r t b.table_ascending;
    left_ascending = b.left_ascending;
    pending_ascending = b.pending_ascending.1;
    table_left = λ k h. on_left k h (cases_eq k r.id);
    table_pending = λ k h. on_pending k h (cases_eq k r.id);
    left_pending = λ k h. not_tail k i P (b.left_pending k h);
    room = omega (arith, length_put row_id r t);
    fits = omega (arith, length_put row_id r t);
  }
    where
      on_left : (k : ℕ) → holds row_id k (put row_id r t) ≡ true → ((k ≡ r.id) ⊎ (k ≡ r.id → ⊥)) → holds self_id k l ≡ false
      on_left k h (inl e) = subst (λ x. holds self_id x l ≡ false) (sym (e ∙ p)) head_not_left
      on_left k h (inr e) = b.table_left k (sym (holds-put_other row_id k r t e) ∙ h)

      on_pending : (k : ℕ) → holds row_id k (put row_id r t) ≡ true → ((k ≡ r.id) ⊎ (k ≡ r.id → ⊥)) → holds self_id k P ≡ false
      on_pending k h (inl e) = subst (λ x. holds self_id x P ≡ false) (sym (e ∙ p)) head_not_again
      on_pending k h (inr e) = not_tail k i P (b.table_pending k (sym (holds-put_other row_id k r t e) ∙ h))

  -- or joins the list
  pub list_id : Tracked max P t (put self_id i l)
  list_id = record {
    table_ascending = b.table_ascending;
    left_ascending = (lawful self_id).put_ascends i l b.left_ascending;
    pending_ascending = b.pending_ascending.1;
    table_left = λ k h. on_left k h (cases_eq k i);
    table_pending = λ k h. not_tail k i P (b.table_pending k h);
    left_pending = λ k h. on_pending k h (cases_eq k i);
    room = omega arith;
    fits = omega (arith, length_put self_id i l);
  }
    where
      on_left : (k : ℕ) → holds row_id k t ≡ true → ((k ≡ i) ⊎ (k ≡ i → ⊥)) → holds self_id k (put self_id i l) ≡ false
      on_left k h (inl e) = let z = head_not_row in cc
      on_left k h (inr e) = holds-put_other self_id k i l e ∙ b.table_left k h

      on_pending : (k : ℕ) → holds self_id k (put self_id i l) ≡ true → ((k ≡ i) ⊎ (k ≡ i → ⊥)) → holds self_id k P ≡ false
      on_pending k h (inl e) = subst (λ x. holds self_id x P ≡ false) (sym e) head_not_again
      on_pending k h (inr e) = not_tail k i P (b.left_pending k (sym (holds-put_other self_id k i l e) ∙ h))

-- a row is struck, and its id is pending
pub strike_row : {max : ℕ} {t : List JobRow} {l : List ℕ} → Tracked max [] t l → (i : ℕ) → holds row_id i t ≡ true → Tracked max (i ∷ []) (strike row_id i t) l
strike_row {max} {t} {l} b i h = record {
  table_ascending = (lawful row_id).strike_ascends i t b.table_ascending;
  left_ascending = b.left_ascending;
  pending_ascending = (tt, tt);
  table_left = λ k h'. b.table_left k (strike_within row_id k i t h');
  table_pending = λ k h'. by k h' (cases_eq k i);
  left_pending = λ k h'. by' k h' (cases_eq k i);
  room = omega (arith, length-strike_held row_id i t h, b.room);
  fits = omega (arith, length-strike_held row_id i t h, b.fits);
}
  where
    by : (k : ℕ) → holds row_id k (strike row_id i t) ≡ true → ((k ≡ i) ⊎ (k ≡ i → ⊥)) → holds self_id k (i ∷ []) ≡ false
    by k h' (inl e) = let z = holds-strike_same row_id i t b.table_ascending in cc
    by k h' (inr e) = grind (arith, nat_tests)

    by' : (k : ℕ) → holds self_id k l ≡ true → ((k ≡ i) ⊎ (k ≡ i → ⊥)) → holds self_id k (i ∷ []) ≡ false
    by' k h' (inl e) = let z = b.table_left i h in cc
    by' k h' (inr e) = grind (arith, nat_tests)

-- a row's context is replaced
pub replace_row : {max : ℕ} {P : List ℕ} {t : List JobRow} {l : List ℕ} (r : JobRow) → Tracked max P t l → holds row_id r.id t ≡ true → Tracked max P (put row_id r t) l
replace_row {max} {P} {t} {l} r b h = record {
  table_ascending = (lawful row_id).put_ascends r t b.table_ascending;
  left_ascending = b.left_ascending;
  pending_ascending = b.pending_ascending;
  table_left = λ k h'. b.table_left k (by k h' (cases_eq k r.id));
  table_pending = λ k h'. b.table_pending k (by k h' (cases_eq k r.id));
  left_pending = b.left_pending;
  room = omega (arith, length-put_held row_id r t b.table_ascending h);
  fits = omega (arith, length-put_held row_id r t b.table_ascending h);
}
  where
    by : (k : ℕ) → holds row_id k (put row_id r t) ≡ true → ((k ≡ r.id) ⊎ (k ≡ r.id → ⊥)) → holds row_id k t ≡ true
    by k h' (inl e) = subst (λ x. holds row_id x t ≡ true) (sym e) h
    by k h' (inr e) = sym (holds-put_other row_id k r t e) ∙ h'

-- of several pending ids the first alone
pub only_first : {max : ℕ} {i : ℕ} {P : List ℕ} {t : List JobRow} {l : List ℕ} → Tracked max (i ∷ P) t l → Tracked max (i ∷ []) t l
only_first {max} {i} {P} {t} {l} b = record {
  table_ascending = b.table_ascending;
  left_ascending = b.left_ascending;
  pending_ascending = (tt, tt);
  table_left = b.table_left;
  table_pending = λ k h. by k (b.table_pending k h);
  left_pending = λ k h. by k (b.left_pending k h);
  room = omega (arith, b.room);
  fits = omega (arith, b.fits);
}
  where
    by : (k : ℕ) → holds self_id k (i ∷ P) ≡ false → holds self_id k (i ∷ []) ≡ false
    by k h = grind (arith, nat_tests)
