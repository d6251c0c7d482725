-- A poll's walk over the entries: the chosen ones are open entries of the record, in order, none of them with a row or
-- on the list, and no more than there is room for.
use Rattle.std.proofs.Common.{◌≡◌, ℕ, suc, ◌+◌, ◌-◌, ◌<◌, ◌≤◌, Bool, true, false, cond, ◌&&◌, eqb, ltb, ◌⊎◌, List, [], ◌∷◌, map, length, Some, Option, sym, refl, ap, ◌∙◌, subst, inl, inr, arith}
use Rattle.std.specs.List.{AllByRecursion}
use Rattle.std.proofs.lemmas.List.{length-map}
use Rattle.std.proofs.lemmas.Bool.{cond_both, cases_eq, cases_lt, ltb-true, eqb-true, true≢false}
use Rattle.std.proofs.lemmas.Bool.Decides.{nat_tests}
use Rattle.table.specs.Tables.{Ascending, lookup, holds, put, strike}
use Rattle.compactions.specs.Entries.{Status, submitted, scheduled, running, compacted, completed, failed, Entry}
use Rattle.compactions.specs.Jobs.{Args}
use Rattle.executors.specs.Executors.{job_id}
use Rattle.stores.specs.Records.{entry_id}
use Rattle.worker_steps.specs.States.{JobRow, row_id, self_id}
use Rattle.worker_steps.specs.Tracking.{Tracked}
use Rattle.worker_steps.specs.Owning.{is_scheduled, is_running, unclaimed, running_under, some_running_under, runs_at}
use Rattle.worker_steps.specs.Claims.{Walked, and_stopped, and_chosen, walked}
use Rattle.worker_steps.proofs.Rows.{out, Above, not_held, held, above_less, above_not, ids_holds, ids_ascending, holds-put_same, holds-put_other}
use Rattle.worker_steps.proofs.Tracking.{Trimmed, not_trimmed, trimmed_on, strike_trims, trim, claim_ids}

-- how many entries pass a test
abbrev pub how_many : (Entry → Bool) → List Entry → ℕ
how_many f [] = 0
how_many f (x ∷ xs) = cond (f x) (suc (how_many f xs)) (how_many f xs)

elim_both : {A : Type 0} (b : Bool) (x y : A) (G : A → Type 0) → (b ≡ true → G x) → (b ≡ false → G y) → G (elim b [ true ↦ x | false ↦ y ])
elim_both true x y G f g = f refl
elim_both false x y G f g = g refl

-- an open entry does not run under any number
by_status : (st : Status) (x y : Bool) → (is_scheduled st && x) ≡ true → (is_running st && y) ≡ false
by_status submitted x y h = refl
by_status scheduled x y h = refl
by_status running x y h = absurd (true≢false (sym h))
by_status compacted x y h = refl
by_status completed x y h = refl
by_status failed x y h = refl

open_idle : (n : ℕ) (e : Entry) → unclaimed e ≡ true → running_under n e ≡ false
open_idle n e h = by_status e.status _ _ h

-- the entry is the one under its id
abbrev pub FoundIn : List Entry → Entry → Type 0
FoundIn full e = lookup entry_id e.id full ≡ Some e

found_idle : (n : ℕ) (full : List Entry) (e : Entry) → FoundIn full e → unclaimed e ≡ true → runs_at n full e.id ≡ false
found_idle n full e f h = ap (some_running_under n) f ∙ open_idle n e h

pub record WalkSo (full : List Entry) (es : List Entry) (room : ℕ) (t : List JobRow) (x : Walked) : Type 0 where
  pub trimmed : Trimmed t x.table
  pub above : (k : ℕ) → Above entry_id k es → Above entry_id k x.chosen
  pub ascending : Ascending entry_id es → Ascending entry_id x.chosen
  pub few : length x.chosen ≤ room
  pub some_open : length x.chosen ≤ how_many unclaimed es
  pub opens : AllByRecursion (λ c. FoundIn full c × (unclaimed c ≡ true)) x.chosen
  pub no_row : (i : ℕ) → holds entry_id i x.chosen ≡ true → holds row_id i x.table ≡ false

pub walk_so : (full : List Entry) (es : List Entry) (room : ℕ) (t : List JobRow) (j : List Args) → AllByRecursion (FoundIn full) es → WalkSo full es room t (walked es room t j)
walk_so full [] room t j f = record {
  trimmed = not_trimmed t;
  above = λ k a. tt;
  ascending = λ a. tt;
  few = omega arith;
  some_open = omega arith;
  opens = tt;
  no_row = λ i h. absurd (true≢false (sym h));
}
walk_so full (e ∷ es) room t j f =
    elim_both (unclaimed e) _ _ (WalkSo full (e ∷ es) room t)
    (λ o. elim_both (holds row_id e.id t) _ _ (WalkSo full (e ∷ es) room t)
    (λ h. struck o (walk_so full es room (strike row_id e.id t) (strike job_id e.id j) f.1))
    (λ h. elim_both (ltb 0 room) _ _ (WalkSo full (e ∷ es) room t)
    (λ l. taken o h (ltb-true _ _ l) (walk_so full es (room - 1) t j f.1))
    (λ l. passed (walk_so full es room t j f.1))))
    (λ o. passed (walk_so full es room t j f.1))
  where
    passed : {x : Walked} → WalkSo full es room t x → WalkSo full (e ∷ es) room t x
    passed w = record {
      trimmed = w.trimmed;
      above = λ k a. w.above k a.1;
      ascending = λ a. w.ascending a.1;
      few = w.few;
      some_open = grind (arith, w.some_open);
      opens = w.opens;
      no_row = w.no_row;
    }

    struck : {x : Walked} → unclaimed e ≡ true → WalkSo full es room (strike row_id e.id t) x → WalkSo full (e ∷ es) room t (and_stopped x)
    struck o w = record {
      trimmed = trimmed_on (strike_trims e.id t) w.trimmed;
      above = λ k a. w.above k a.1;
      ascending = λ a. w.ascending a.1;
      few = w.few;
      some_open = grind (arith, w.some_open);
      opens = w.opens;
      no_row = w.no_row;
    }

    taken : {x : Walked} → unclaimed e ≡ true → holds row_id e.id t ≡ false → 0 < room → WalkSo full es (room - 1) t x → WalkSo full (e ∷ es) room t (and_chosen e x)
    taken {x} o h l w = record {
      trimmed = w.trimmed;
      above = λ k a. (a.0, w.above k a.1);
      ascending = λ a. (w.above e.id a.0, w.ascending a.1);
      few = omega (arith, w.few);
      some_open = grind (arith, w.some_open);
      opens = ((f.0, o), w.opens);
      no_row = λ i z. by i z (cases_eq i e.id);
    }
      where
        by : (i : ℕ) → holds entry_id i (e ∷ x.chosen) ≡ true → ((i ≡ e.id) ⊎ (i ≡ e.id → ⊥)) → holds row_id i x.table ≡ false
        by i z (inl p) = subst (λ k. holds row_id k x.table ≡ false) (sym p) (out (holds row_id e.id x.table) (holds row_id e.id t) (w.trimmed.within e.id) h)
        by i z (inr p) = w.no_row i (grind (arith, nat_tests))

-- every entry of a list in order is the one under its id
found_still : (e : Entry) (es xs : List Entry) → Above entry_id e.id xs → AllByRecursion (FoundIn es) xs → AllByRecursion (FoundIn (e ∷ es)) xs
found_still e es [] a f = tt
found_still e es (x ∷ xs) a f = (cond_both (eqb e.id x.id) _ _ (λ (o : Option Entry). o ≡ Some x) (λ p. absurd (let z = eqb-true _ _ p in let y = a.0 in omega arith)) (λ p. f.0), found_still e es xs a.1 f.1)

pub all_found : (es : List Entry) → Ascending entry_id es → AllByRecursion (FoundIn es) es
all_found [] a = tt
all_found (e ∷ es) a = (grind (arith, nat_tests), found_still e es es a.0 (all_found es a.1))

-- the chosen ones do not run under the number
chosen_idle : (n : ℕ) (full cs : List Entry) → AllByRecursion (λ c. FoundIn full c × (unclaimed c ≡ true)) cs → (i : ℕ) → holds entry_id i cs ≡ true → runs_at n full i ≡ false
chosen_idle n full [] a i h = absurd (true≢false (sym h))
chosen_idle n full (c ∷ cs) a i h = by (cases_eq i c.id) (chosen_idle n full cs a.1 i)
  where
    by : ((i ≡ c.id) ⊎ (i ≡ c.id → ⊥)) → (holds entry_id i cs ≡ true → runs_at n full i ≡ false) → runs_at n full i ≡ false
    by (inl p) ih = subst (λ k. runs_at n full k ≡ false) (sym p) (found_idle n full c a.0.0 a.0.1)
    by (inr p) ih = ih (grind (arith, nat_tests))

-- the listed ids and the open entries together are no more than the entries
open_or_running : (n : ℕ) (es : List Entry) → how_many (running_under n) es + how_many unclaimed es ≤ length es
open_or_running n [] = omega arith
open_or_running n (e ∷ es) = let ih = open_or_running n es in let z = open_idle n e in grind arith

above_runs : (n : ℕ) (e : Entry) (es : List Entry) (l : List ℕ) → Above self_id e.id l → ((i : ℕ) → holds self_id i l ≡ true → runs_at n (e ∷ es) i ≡ true) → (i : ℕ) → holds self_id i l ≡ true → runs_at n es i ≡ true
above_runs n e es l a h i z = by (cases_eq i e.id)
  where
    by : ((i ≡ e.id) ⊎ (i ≡ e.id → ⊥)) → runs_at n es i ≡ true
    by (inl p) = absurd (true≢false (sym z ∙ above_not self_id e.id i l a (omega arith)))
    by (inr p) = let y = h i z in grind (arith, nat_tests)

listed_few : (n : ℕ) (es : List Entry) (l : List ℕ) → Ascending entry_id es → Ascending self_id l → ((i : ℕ) → holds self_id i l ≡ true → runs_at n es i ≡ true) → length l ≤ how_many (running_under n) es
listed_few n [] [] a b h = omega arith
listed_few n [] (i ∷ l) a b h = absurd (true≢false (sym (h i (grind (arith, nat_tests)))))
listed_few n (e ∷ es) [] a b h = omega arith
listed_few n (e ∷ es) (i ∷ l) a b h = by (cases_eq i e.id) (listed_few n es l a.1 b.1) (listed_few n es (i ∷ l) a.1 b)
  where
    tail : (k : ℕ) → holds self_id k l ≡ true → holds self_id k (i ∷ l) ≡ true
    tail k z = grind (arith, nat_tests)

    here : runs_at n (e ∷ es) i ≡ true
    here = h i (grind (arith, nat_tests))

    after : (i ≡ e.id → ⊥) → ((e.id < i) ⊎ (i ≤ e.id)) → e.id < i
    after p (inl l) = l
    after p (inr l) = let y = not_held entry_id i es (above_not entry_id e.id i es a.0 l) in let x = here in let z : true ≡ false = grind (arith, nat_tests) in absurd (true≢false z)

    later : (i ≡ e.id → ⊥) → Above self_id e.id (i ∷ l)
    later p = let m = after p (cases_lt e.id i) in (m, above_less self_id e.id i l (omega arith) b.0)

    by : ((i ≡ e.id) ⊎ (i ≡ e.id → ⊥)) →
        (((k : ℕ) → holds self_id k l ≡ true → runs_at n es k ≡ true) → length l ≤ how_many (running_under n) es) →
        (((k : ℕ) → holds self_id k (i ∷ l) ≡ true → runs_at n es k ≡ true) → suc (length l) ≤ how_many (running_under n) es) →
        suc (length l) ≤ how_many (running_under n) (e ∷ es)
    by (inl p) f g = let y = f (above_runs n e es l (subst (λ k. Above self_id k l) p b.0) (λ k z. h k (tail k z))) in let x = here in grind (arith, nat_tests)
    by (inr p) f g = let y = g (above_runs n e es (i ∷ l) (later p) h) in grind arith

-- what a walk chooses is pending, beside the table and the list that it leaves
pub chosen_tracked : (n max room : ℕ) (es : List Entry) (t : List JobRow) (l : List ℕ) (j : List Args) → Ascending entry_id es → length es ≤ 32 → max ≤ 8 → Tracked max [] t l → ((i : ℕ) → holds self_id i l ≡ true → runs_at n es i ≡ true) → room + length t ≤ max → Tracked max (map entry_id (walked es room t j).chosen) (walked es room t j).table l
chosen_tracked n max room es t l j a few small b runs fits =
    let x = walked es room t j in
    let w = walk_so es es room t j (all_found es a) in
    let same : length (map entry_id x.chosen) ≡ length x.chosen = length-map x.chosen entry_id in
    let listed = listed_few n es l a b.left_ascending runs in
    let all = open_or_running n es in
    claim_ids (map entry_id x.chosen) (trim b w.trimmed) (ids_ascending entry_id x.chosen (w.ascending a))
    (λ i h. w.no_row i (sym (ids_holds entry_id i x.chosen) ∙ h))
    (λ i h. out (holds self_id i l) (runs_at n es i) (runs i) (chosen_idle n es x.chosen w.opens i (sym (ids_holds entry_id i x.chosen) ∙ h)))
    (omega (arith, same, w.few, w.trimmed.size))
    (omega (arith, same, w.few, w.some_open, w.trimmed.size, listed, all))

-- the draft of a claim: each chosen entry takes the place of the one with its id
pub chosen_held : (room : ℕ) (es : List Entry) (t : List JobRow) (j : List Args) → Ascending entry_id es → AllByRecursion (λ c. holds entry_id c.id es ≡ true) (walked es room t j).chosen
chosen_held room es t j a = by (walked es room t j).chosen (walk_so es es room t j (all_found es a)).opens
  where
    by : (cs : List Entry) → AllByRecursion (λ c. FoundIn es c × (unclaimed c ≡ true)) cs → AllByRecursion (λ c. holds entry_id c.id es ≡ true) cs
    by [] o = tt
    by (c ∷ cs) o = (held entry_id c.id c es o.0.0, by cs o.1)

pub still_held : (c : Entry) (es xs : List Entry) → AllByRecursion (λ x. holds entry_id x.id es ≡ true) xs → AllByRecursion (λ x. holds entry_id x.id (put entry_id c es) ≡ true) xs
still_held c es [] h = tt
still_held c es (x ∷ xs) h = (by (cases_eq x.id c.id), still_held c es xs h.1)
  where
    by : ((x.id ≡ c.id) ⊎ (x.id ≡ c.id → ⊥)) → holds entry_id x.id (put entry_id c es) ≡ true
    by (inl p) = subst (λ k. holds entry_id k (put entry_id c es) ≡ true) (sym p) (holds-put_same entry_id c es)
    by (inr p) = holds-put_other entry_id x.id c es p ∙ h.0
