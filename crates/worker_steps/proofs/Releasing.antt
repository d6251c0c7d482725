-- A release or a completion changes nothing that the worker holds but the left-behind list, from which its reads may strike ids.
use Rattle.std.proofs.Common.{◌≡◌, ℕ, zero, suc, ◌+◌, Bool, true, false, List, Some, None, Option, sym, refl, ◌∙◌, subst, arith}
use Rattle.table.specs.Tables.{Ascending, lookup}
use Rattle.compactions.specs.Entries.{Entry}
use Rattle.stores.specs.Records.{entry_id}
use Rattle.stores.specs.Stores.{ReadAnswer, got, absent, unread, read}
use Rattle.worker_steps.specs.States.{Settings, self_id, JobRow, Held, State}
use Rattle.worker_steps.specs.Tracking.{Tracked}
use Rattle.worker_steps.specs.Owning.{runs_at, under, still_left}
use Rattle.worker_steps.specs.Faults.{release, completion}
use Rattle.worker_steps.specs.Effects.{Effect, effect_free, Turn, ends, again, turned, retry}
use Rattle.worker_steps.specs.Looks.{held_after, looked, on_read}
use Rattle.worker_steps.specs.Releases.{Settled, dropped, stuck, if_under, release_read, release_attempt, releasing}
use Rattle.executors.specs.Executors.{Outcome, done, failed}
use Rattle.worker_steps.specs.Completions.{ssts, completion_read, completion_attempt, completing}
use Rattle.worker_steps.specs.Notices.{settling}
use Rattle.worker_steps.proofs.Filters.{ascending_kept, holds_kept, length_kept}
use Rattle.worker_steps.proofs.Tracking.{Shorter, relist}

-- the same table and jobs, and a list without some ids
pub record Less (h h' : Held) : Type 0 where
  pub table : h'.table ≡ h.table
  pub jobs : h'.jobs ≡ h.jobs
  pub left : Ascending self_id h.left → Shorter h.left h'.left

pub less_same : (h : Held) → Less h h
less_same h = record { table = refl; jobs = refl; left = λ a. record { ascending = a; within = λ i z. z; size = omega arith } }

pub less_on : {h h' h'' : Held} → Less h h' → Less h' h'' → Less h h''
less_on p q = record {
  table = q.table ∙ p.table;
  jobs = q.jobs ∙ p.jobs;
  left = λ a. let x = p.left a in let y = q.left x.ascending in record { ascending = y.ascending; within = λ i z. x.within i (y.within i z); size = omega (arith, x.size, y.size) };
}

-- a list that keeps some ids
pub still_shorter : (n : ℕ) (es : List Entry) (l : List ℕ) → Ascending self_id l → Shorter l (still_left n es l)
still_shorter n es l a = record {
  ascending = ascending_kept self_id (runs_at n es) l a;
  within = λ i h. holds_kept self_id (runs_at n es) i l h;
  size = length_kept self_id (runs_at n es) l;
}

pub read_less : (n : ℕ) (a : ReadAnswer) (h : Held) → Less h (held_after n a h)
read_less n (got r) h = record { table = refl; jobs = refl; left = still_shorter n r.entries h.left }
read_less n absent h = less_same h
read_less n (unread f) h = less_same h

-- an attempt to release leaves what its read leaves
under_held : (n : ℕ) (o : Option Entry) (w : State) (next : Entry → State → Effect (Turn Settled)) → ((e : Entry) → (next e w).state.held ≡ w.held) → (if_under n o w next).state.held ≡ w.held
under_held n None w next same = refl
under_held n (Some e) w next same = by (under n e)
  where
    by : (b : Bool) → (elim b as (λ _. Effect (Turn Settled)) [ true ↦ next e w | false ↦ effect_free (ends dropped) w ]).state.held ≡ w.held
    by true = same e
    by false = refl

on_read_held : (n i a : ℕ) (ans : ReadAnswer) (w : State) → (on_read stuck release (Some i) a ans w (release_read n i a)).state.held ≡ w.held
on_read_held n i a (got r) w = under_held n (lookup entry_id i r.entries) w _ (λ e. refl)
on_read_held n i a absent w = refl
on_read_held n i a (unread f) w = refl

completion_held : (n i : ℕ) (outs : List ℕ) (a : ℕ) (ans : ReadAnswer) (w : State) → (on_read stuck completion (Some i) a ans w (completion_read n i outs a)).state.held ≡ w.held
completion_held n i outs a (got r) w = under_held n (lookup entry_id i r.entries) w _ (λ e. refl)
completion_held n i outs a absent w = refl
completion_held n i outs a (unread f) w = refl

completion_less : (s : Settings) (i : ℕ) (outs : List ℕ) (a : ℕ) (w : State) → Less w.held (completion_attempt s i outs a w).state.held
completion_less s i outs a w = subst (λ (h : Held). Less w.held h) (sym (completion_held s.number i outs a (read w.store).answer (looked s.number w))) (read_less s.number (read w.store).answer w.held)

attempt_less : (s : Settings) (i a : ℕ) (w : State) → Less w.held (release_attempt s i a w).state.held
attempt_less s i a w = subst (λ (h : Held). Less w.held h) (sym (on_read_held s.number i a (read w.store).answer (looked s.number w))) (read_less s.number (read w.store).answer w.held)

retry_less : {X : Type 0} (f : ℕ → State → Effect (Turn X)) (over : X) → ((a : ℕ) (w : State) → Less w.held (f a w).state.held) → (k a : ℕ) (w : State) → Less w.held (retry k a f over w).state.held
retry_less f over one zero a w = less_same w.held
retry_less {X} f over one (suc k) a w = by (f a w).result (retry_less f over one k (a + 1) (f a w).state)
  where
    by : (t : Turn X) → Less (f a w).state.held (retry k (a + 1) f over (f a w).state).state.held → Less w.held (turned t (f a w) (retry k (a + 1) f over)).state.held
    by (ends r) ih = one a w
    by again ih = less_on (one a w) ih

pub releasing_less : (s : Settings) (i : ℕ) (w : State) → Less w.held (releasing s i w).state.held
releasing_less s i w = retry_less (release_attempt s i) _ (attempt_less s i) s.limit 1 w

pub completing_less : (s : Settings) (i : ℕ) (outs : List ℕ) (w : State) → Less w.held (completing s i outs w).state.held
completing_less s i outs w = retry_less (completion_attempt s i outs) _ (completion_less s i outs) s.limit 1 w

pub settling_less : (s : Settings) (i : ℕ) (o : Outcome) (w : State) → Less w.held (settling s i o w).state.held
settling_less s i (done r) w = completing_less s i (ssts r) w
settling_less s i (failed c) w = releasing_less s i w

-- so what was pending is pending still
pub less_tracked : {max : ℕ} {P : List ℕ} (h h' : Held) → Less h h' → Tracked max P h.table h.left → Tracked max P h'.table h'.left
less_tracked {max} {P} h h' z b = subst (λ (t : List JobRow). Tracked max P t h'.left) (sym z.table) (relist b h'.left (z.left b.left_ascending))
