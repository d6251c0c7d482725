-- One claimed entry of a dispatch, by what becomes of it.
use Rattle.std.proofs.Common.{◌≡◌, ℕ, ◌+◌, ◌≤◌, true, false, List, [], ◌∷◌, map, length, Some, None, Option, Result, sym, refl, ap, ◌∙◌, subst, arith}
use Rattle.compactions.specs.Entries.{Entry}
use Rattle.compactions.specs.Jobs.{Args}
use Rattle.compactions.specs.Trees.{Manifest}
use Rattle.argument_check.specs.Check.{job_args}
use Rattle.stores.specs.Stores.{Store}
use Rattle.executors.specs.Clocks.{Readings}
use Rattle.worker_steps.specs.Faults.{Fault}
use Rattle.worker_steps.specs.States.{Settings, Held, with_left, State, state, holding}
use Rattle.worker_steps.specs.Tracking.{Tracked}
use Rattle.worker_steps.specs.Effects.{Effect}
use Rattle.worker_steps.specs.Claims.{joined}
use Rattle.worker_steps.specs.Releases.{Settled, written, dropped, stuck, releasing}
use Rattle.worker_steps.specs.Polls.{Dispatch, and_started, and_let_go, then_dispatch, after_release, may_run, with_started, dispatching}
use Rattle.worker_steps.proofs.Tracking.{start_row, settle}
use Rattle.worker_steps.proofs.Releasing.{Less, releasing_less, less_tracked}
use Rattle.worker.specs.Polls.{Counts}
use Rattle.stores.specs.Records.{entry_id}
use Rattle.worker.specs.declared.dispatch.Unreleased.{Unreleased}
use Rattle.worker.specs.Dispatches.{so_far, dispatched, SettledOne, StuckOne}
use Rattle.worker.proofs.Walks.{at_true, at_false}

-- with one more started, or let go
abbrev pub one_started : Counts → Counts
one_started c = record { claimed = c.claimed; started = c.started + 1; let_go = c.let_go; left = c.left; stopped = c.stopped }

abbrev pub one_let_go : Counts → Counts
one_let_go c = record { claimed = c.claimed; started = c.started; let_go = c.let_go + 1; left = c.left; stopped = c.stopped }

module _ (s : Settings) (m : Manifest) (e : Entry) (h : Held) (st : Store) (k : Readings) where
  -- it was started
  module _ (yes' : may_run s.places (job_args e m) h.jobs ≡ true) (h' : Held) (held : h' ≡ with_started e (job_args e m) h) where
    started_as : (es : List Entry) (ms : List (Result Manifest ℕ)) → dispatching s m (e ∷ es) (state h st k ms) ≡ then_dispatch and_started [] (dispatching s m es (state h' st k ms))
    started_as es ms = at_true (may_run s.places (job_args e m) h.jobs) _ _ yes' ∙ ap (λ x. then_dispatch and_started [] (dispatching s m es (state x st k ms))) (sym held)

    pub started_result : (c : Counts) (es : List Entry) (ms : List (Result Manifest ℕ)) → dispatched s m h' st k (one_started c) es ms ≡ dispatched s m h st k c (e ∷ es) ms
    started_result c es ms =
        let d = (dispatching s m es (state h' st k ms)).result in
        let n : c.started + 1 + d.started ≡ c.started + (d.started + 1) = omega arith in
        let z : so_far (one_started c) d ≡ so_far c (and_started d) = cc in
        z ∙ sym (ap (λ x. so_far c x.result) (started_as es ms))

    pub started_after : (es : List Entry) (ms : List (Result Manifest ℕ)) → (dispatching s m es (state h' st k ms)).state ≡ (dispatching s m (e ∷ es) (state h st k ms)).state
    started_after es ms = sym (ap (λ x. x.state) (started_as es ms))

    pub started_tracked : (max : ℕ) (P : List ℕ) → Tracked max (e.id ∷ P) h.table h.left → Tracked max P h'.table h'.left
    started_tracked max P b = by (job_args e m) yes' held
      where
        by : (o : Option Args) → may_run s.places o h.jobs ≡ true → h' ≡ with_started e o h → Tracked max P h'.table h'.left
        by None y q = settle_with q
          where
            settle_with : h' ≡ h → Tracked max P h'.table h'.left
            settle_with q = rw q (settle b)
        by (Some a) y q = rw q (start_row b _ refl)

  -- it was not
  module _ (no' : may_run s.places (job_args e m) h.jobs ≡ false) (h' : Held) (st' : Store) (k' : Readings) (x : Settled) (answered : (ms : List (Result Manifest ℕ)) → x ≡ (releasing s e.id (state h st k ms)).result) (after : (ms : List (Result Manifest ℕ)) → state h' st' k' ms ≡ (releasing s e.id (state h st k ms)).state) where
    released_as : (es : List Entry) (ms : List (Result Manifest ℕ)) → dispatching s m (e ∷ es) (state h st k ms) ≡ after_release x (e ∷ es) (releasing s e.id (state h st k ms)) (dispatching s m es)
    released_as es ms =
        at_false (may_run s.places (job_args e m) h.jobs) _ _ no'
        ∙ ap (λ y. after_release y (e ∷ es) (releasing s e.id (state h st k ms)) (dispatching s m es)) (sym (answered ms))

    less : List (Result Manifest ℕ) → Less h h'
    less ms = subst (λ (y : State). Less h y.held) (sym (after ms)) (releasing_less s e.id (state h st k ms))

    module _ (c : Counts) (es : List Entry) (ms : List (Result Manifest ℕ)) where
      gone_result : (dispatching s m (e ∷ es) (state h st k ms)).result ≡ and_let_go (dispatching s m es (state h' st' k' ms)).result → dispatched s m h' st' k' (one_let_go c) es ms ≡ dispatched s m h st k c (e ∷ es) ms
      gone_result q =
          let d = (dispatching s m es (state h' st' k' ms)).result in
          let n : c.let_go + 1 + d.let_go ≡ c.let_go + (d.let_go + 1) = omega arith in
          let z : so_far (one_let_go c) d ≡ so_far c (and_let_go d) = cc in
          z ∙ sym (ap (λ y. so_far c y) q)

    -- released without a fault
    module _ (gone : (f : Fault) → x ≡ stuck f → ⊥) where
      gone_as : (es : List Entry) (ms : List (Result Manifest ℕ)) → ((dispatching s m (e ∷ es) (state h st k ms)).result ≡ and_let_go (dispatching s m es (state h' st' k' ms)).result) × ((dispatching s m (e ∷ es) (state h st k ms)).state ≡ (dispatching s m es (state h' st' k' ms)).state)
      gone_as es ms = by x refl
        where
          by : (y : Settled) → x ≡ y → ((dispatching s m (e ∷ es) (state h st k ms)).result ≡ and_let_go (dispatching s m es (state h' st' k' ms)).result) × ((dispatching s m (e ∷ es) (state h st k ms)).state ≡ (dispatching s m es (state h' st' k' ms)).state)
          by written q =
              let z = released_as es ms ∙ ap (λ y. after_release y (e ∷ es) (releasing s e.id (state h st k ms)) (dispatching s m es)) q ∙ ap (λ w. then_dispatch and_let_go (releasing s e.id (state h st k ms)).writes (dispatching s m es w)) (sym (after ms)) in
              (ap (λ y. y.result) z, ap (λ y. y.state) z)
          by dropped q =
              let z = released_as es ms ∙ ap (λ y. after_release y (e ∷ es) (releasing s e.id (state h st k ms)) (dispatching s m es)) q ∙ ap (λ w. then_dispatch and_let_go (releasing s e.id (state h st k ms)).writes (dispatching s m es w)) (sym (after ms)) in
              (ap (λ y. y.result) z, ap (λ y. y.state) z)
          by (stuck f) q = absurd (gone f q)

      pub let_go_result : (c : Counts) (es : List Entry) (ms : List (Result Manifest ℕ)) → dispatched s m h' st' k' (one_let_go c) es ms ≡ dispatched s m h st k c (e ∷ es) ms
      let_go_result c es ms = gone_result c es ms (gone_as es ms).0

      pub let_go_after : (es : List Entry) (ms : List (Result Manifest ℕ)) → (dispatching s m es (state h' st' k' ms)).state ≡ (dispatching s m (e ∷ es) (state h st k ms)).state
      let_go_after es ms = sym (gone_as es ms).1

    pub released_tracked : List (Result Manifest ℕ) → (max : ℕ) (P : List ℕ) → Tracked max P h.table h.left → Tracked max P h'.table h'.left
    released_tracked ms max P b = less_tracked h h' (less ms) b

    -- its release met a fault
    module _ (f : Fault) (met : x ≡ stuck f) (es : List Entry) (ms : List (Result Manifest ℕ)) where
      stuck_as : dispatching s m (e ∷ es) (state h st k ms) ≡ after_release (stuck f) (e ∷ es) (releasing s e.id (state h st k ms)) (dispatching s m es)
      stuck_as = released_as es ms ∙ ap (λ y. after_release y (e ∷ es) (releasing s e.id (state h st k ms)) (dispatching s m es)) met

      pub stuck_result : record { fault = Some f; started = 0; let_go = 0; left = length (e ∷ es) } ≡ (dispatching s m (e ∷ es) (state h st k ms)).result
      stuck_result = sym (ap (λ y. y.result) stuck_as)

      pub stuck_after : state (with_left h' (joined (e ∷ es) h'.left)) st' k' ms ≡ (dispatching s m (e ∷ es) (state h st k ms)).state
      stuck_after = ap (λ (y : State). holding (with_left y.held (joined (e ∷ es) y.held.left)) y) (after ms) ∙ sym (ap (λ y. y.state) stuck_as)

-- a dispatch that has come to the entries `ws`
pub record Dispatching (s : Settings) (m : Manifest) (whole : List (Result Manifest ℕ) → Effect Dispatch) (max : ℕ) (ws : List Entry) (h : Held) (st : Store) (k : Readings) (c₀ c : Counts) : Type 0 where
  pub result : (ms : List (Result Manifest ℕ)) → dispatched s m h st k c ws ms ≡ (whole ms).result
  pub after : (ms : List (Result Manifest ℕ)) → (dispatching s m ws (state h st k ms)).state ≡ (whole ms).state
  pub tracked : Tracked max (map entry_id ws) h.table h.left
  pub few : c.started + c.let_go + length ws ≤ 8
  pub frame : c ≡ record { claimed = c₀.claimed; started = c.started; let_go = c.let_go; left = 0; stopped = c₀.stopped }

module _ {s : Settings} {m : Manifest} {whole : List (Result Manifest ℕ) → Effect Dispatch} {max : ℕ} {h : Held} {st : Store} {k : Readings} {c₀ c : Counts} where
  -- one more is settled
  pub dispatching_more : {ws : List Entry} (e : Entry) (es : List Entry) (h' : Held) (st' : Store) (k' : Readings) (c' : Counts) (s' : Settings) → Dispatching s m whole max ws h st k c₀ c → ws ≡ e ∷ es → s' ≡ s → SettledOne s' m e h st k c h' st' k' c' → Dispatching s m whole max es h' st' k' c₀ c'
  dispatching_more e es h' st' k' c' s' d first same one =
      let b = rw first at d in
      let o = rw same at one in
      record {
        result = λ ms. o.result es ms ∙ b.result ms;
        after = λ ms. o.after es ms ∙ b.after ms;
        tracked = o.tracked max (map entry_id es) b.tracked;
        few = omega (arith, o.few, b.few);
        frame = let p = o.frame in let q = b.frame in cc;
      }

  -- one met a fault, and it and the others are left
  module _ {ws : List Entry} (e : Entry) (es : List Entry) (u : Unreleased) (h' : Held) (st' : Store) (k' : Readings) (c' : Counts) (s' : Settings) (d : Dispatching s m whole max ws h st k c₀ c) (first : ws ≡ e ∷ es) (same : s' ≡ s) (one : StuckOne s' m e u h st k c h' st' k' c') where
    pub stuck_pending : Tracked max (e.id ∷ map entry_id es) h'.table h'.left
    stuck_pending = one.tracked max (e.id ∷ map entry_id es) (rw first at d).tracked

    pub dispatched_stuck_after : (ms : List (Result Manifest ℕ)) → state (with_left h' (joined (e ∷ es) h'.left)) st' k' ms ≡ (whole ms).state
    dispatched_stuck_after ms = (rw same at one).after es ms ∙ (rw first at d).after ms
