-- One attempt to claim, step by step.
use Rattle.std.proofs.Common.{◌≡◌, ℕ, ◌+◌, ◌≤◌, true, List, [], ◌∷◌, map, length, None, Ok, Result, sym, refl, ap, ◌∙◌, arith}
use Rattle.compactions.specs.Entries.{Entry}
use Rattle.compactions.specs.Trees.{Manifest}
use Rattle.stores.specs.Records.{Record}
use Rattle.stores.specs.Stores.{Store, ReadAnswer, got, absent, unread, read, UpdateAnswer, update}
use Rattle.executors.specs.Clocks.{Readings, reading, passed, stamped}
use Rattle.worker_steps.specs.Faults.{claim, fault, store_failed}
use Rattle.worker_steps.specs.States.{Settings, Held, with_jobs, State, state}
use Rattle.worker_steps.specs.Effects.{Effect, Turn, on_update}
use Rattle.worker_steps.specs.Looks.{held_after, on_read}
use Rattle.worker_steps.specs.Claims.{walked, Claimed, landed_at, broken, broken_bare, claim_draft, list_if_faulted, claim_write, claim_chosen, claim_walk, claim_attempt}
use Rattle.worker_steps.specs.declared.fault.During.{During}
use Rattle.worker_steps.specs.declared.fault.Work.TheVariants as works
use Rattle.worker.specs.Reads.{record_for}
use Rattle.worker.specs.Polls.{Counts, turn_claimed, turn_left, counted_turn}
use Rattle.table.specs.Tables.{Ascending, holds}
use Rattle.stores.specs.Records.{entry_id}
use Rattle.worker_steps.specs.States.{self_id}
use Rattle.worker_steps.specs.Tracking.{Tracked}
use Rattle.worker_steps.specs.Owning.{runs_at, still_left}
use Rattle.worker_steps.proofs.Filters.{kept_passes}
use Rattle.worker_steps.proofs.Tracking.{relist, trim}
use Rattle.worker_steps.proofs.Releasing.{still_shorter}
use Rattle.worker_steps.proofs.Walks.{walk_so, all_found, chosen_tracked}

-- what an attempt came to that sent an update
pub record Sent (x : Effect (Turn Claimed)) (t : Turn Claimed) (w : State) (n : ℕ) : Type 0 where
  pub result : x.result ≡ t
  pub state : x.state ≡ w
  pub stopped : x.stopped ≡ n

-- a claim at an attempt
abbrev pub claim_during : ℕ → During
claim_during a = record { work = works.Claim; id = None; attempt = a }

-- a read for a work answered a record, or a fault of the work
pub was_record : (d : During) (ans : ReadAnswer) (r : Record) → Ok r ≡ record_for d ans → ans ≡ got r
was_record d (got x) r e = cc
was_record d absent r e = cc
was_record d (unread f) r e = cc

module _ (s : Settings) (room a : ℕ) (h : Held) (st : Store) (ck : Readings) (ms : List (Result Manifest ℕ)) (h₁ : Held) (st₁ : Store) (looked : h₁ ≡ held_after s.number (read st).answer h) (after : st₁ ≡ (read st).after) where
  module _ (r : Record) (found : (read st).answer ≡ got r) (cs : List Entry) (n : ℕ) (h₂ : Held) (chose : cs ≡ (walked r.entries room h₁.table h₁.jobs).chosen) (stops : n ≡ (walked r.entries room h₁.table h₁.jobs).stopped) (kept : h₂ ≡ with_jobs h₁ (walked r.entries room h₁.table h₁.jobs).table (walked r.entries room h₁.table h₁.jobs).jobs) where
    -- the walk was made
    pub attempt_walked : claim_attempt s room a (state h st ck ms) ≡ claim_chosen s room a h₁.table r cs n (state h₂ st₁ ck ms)
    attempt_walked =
        ap (λ x. on_read broken_bare claim None a x (state (held_after s.number (read st).answer h) (read st).after ck ms) (claim_walk s room a)) found
        ∙ ap (λ x. claim_walk s room a r (state x (read st).after ck ms)) (sym looked)
        ∙ ap (λ x. claim_walk s room a r (state h₁ x ck ms)) (sym after)
        ∙ ap (λ x. claim_chosen s room a h₁.table r x (walked r.entries room h₁.table h₁.jobs).stopped (state (with_jobs h₁ (walked r.entries room h₁.table h₁.jobs).table (walked r.entries room h₁.table h₁.jobs).jobs) st₁ ck ms)) (sym chose)
        ∙ ap (λ x. claim_chosen s room a h₁.table r cs x (state (with_jobs h₁ (walked r.entries room h₁.table h₁.jobs).table (walked r.entries room h₁.table h₁.jobs).jobs) st₁ ck ms)) (sym stops)
        ∙ ap (λ x. claim_chosen s room a h₁.table r cs n (state x st₁ ck ms)) (sym kept)

    pub attempt_sent : (0 ≡ length cs → ⊥) → claim_attempt s room a (state h st ck ms) ≡ claim_write s room a h₁.table r cs n (state h₂ st₁ ck ms)
    attempt_sent some = attempt_walked ∙ by cs some
      where
        by : (xs : List Entry) → (0 ≡ length xs → ⊥) → claim_chosen s room a h₁.table r xs n (state h₂ st₁ ck ms) ≡ claim_write s room a h₁.table r xs n (state h₂ st₁ ck ms)
        by [] no' = absurd (no' refl)
        by (x ∷ xs) no' = refl

    -- an update was sent
    module _ (some : 0 ≡ length cs → ⊥) (stamp : ℕ) (ck' : Readings) (d : Record) (ua : UpdateAnswer) (st₂ : Store) (timed : stamp ≡ stamped (reading ck)) (ticked : ck' ≡ passed ck) (marked : d ≡ claim_draft s.number stamp cs r) (answered : ua ≡ (update d st₁).answer) (settled : st₂ ≡ (update d st₁).after) where
      drafted : claim_draft s.number (stamped (reading ck)) cs r ≡ d
      drafted = ap (λ x. claim_draft s.number x cs r) (sym timed) ∙ sym marked

      sent_result : (claim_attempt s room a (state h st ck ms)).result ≡ on_update ua (landed_at a cs) (λ f. broken (fault (store_failed f) claim None a) cs)
      sent_result =
          ap (λ x. x.result) (attempt_sent some)
          ∙ ap (λ x. on_update (update x st₁).answer (landed_at a cs) (λ f. broken (fault (store_failed f) claim None a) cs)) drafted
          ∙ ap (λ x. on_update x (landed_at a cs) (λ f. broken (fault (store_failed f) claim None a) cs)) (sym answered)

      sent_state : (claim_attempt s room a (state h st ck ms)).state ≡ state (list_if_faulted ua cs h₂) st₂ ck' ms
      sent_state =
          ap (λ x. x.state) (attempt_sent some)
          ∙ ap (λ x. state (list_if_faulted (update x st₁).answer cs h₂) (update x st₁).after (passed ck) ms) drafted
          ∙ ap (λ x. state (list_if_faulted x cs h₂) (update d st₁).after (passed ck) ms) (sym answered)
          ∙ ap (λ x. state (list_if_faulted ua cs h₂) x (passed ck) ms) (sym settled)
          ∙ ap (λ x. state (list_if_faulted ua cs h₂) st₂ x ms) (sym ticked)

      pub sent : Sent (claim_attempt s room a (state h st ck ms)) (on_update ua (landed_at a cs) (λ f. broken (fault (store_failed f) claim None a) cs)) (state (list_if_faulted ua cs h₂) st₂ ck' ms) n
      sent = record { result = sent_result; state = sent_state; stopped = ap (λ x. x.stopped) (attempt_sent some) }

-- what an attempt chose is pending, and the room that it had is still there
module _ (n room max : ℕ) (h h₁ h₂ : Held) (r : Record) (cs : List Entry) (looked : h₁ ≡ held_after n (got r) h) (chose : cs ≡ (walked r.entries room h₁.table h₁.jobs).chosen) (kept : h₂ ≡ with_jobs h₁ (walked r.entries room h₁.table h₁.jobs).table (walked r.entries room h₁.table h₁.jobs).jobs) (ascending : Ascending entry_id r.entries) (fits : room + length h.table ≤ max) where
  same_table : h₁.table ≡ h.table
  same_table = ap (λ x. x.table) looked

  fits₁ : room + length h₁.table ≤ max
  fits₁ = rw same_table fits

  pub still_room : room + length h₂.table ≤ max
  still_room =
      let w = walk_so r.entries r.entries room h₁.table h₁.jobs (all_found r.entries ascending) in
      let e : length h₂.table ≡ length (walked r.entries room h₁.table h₁.jobs).table = ap (λ x. length x.table) kept in
      omega (arith, fits₁, w.trimmed.size, e)

  relisted : Tracked max [] h.table h.left → Tracked max [] h₁.table h₁.left
  relisted b = rw looked (relist b _ (still_shorter n r.entries h.left b.left_ascending))

  pub still_tracked : Tracked max [] h.table h.left → Tracked max [] h₂.table h₂.left
  still_tracked b = rw kept (trim (relisted b) (walk_so r.entries r.entries room h₁.table h₁.jobs (all_found r.entries ascending)).trimmed)

  pub chosen_pending : length r.entries ≤ 32 → max ≤ 8 → Tracked max [] h.table h.left → Tracked max (map entry_id cs) h₂.table h₂.left
  chosen_pending few small b =
      let left : h₁.left ≡ still_left n r.entries h.left = ap (λ x. x.left) looked in
      let runs : (i : ℕ) → holds self_id i h₁.left ≡ true → runs_at n r.entries i ≡ true = λ i z. kept_passes self_id (runs_at n r.entries) i h.left (sym (ap (λ l. holds self_id i l) left) ∙ z) in
      let t = chosen_tracked n max room r.entries h₁.table h₁.left h₁.jobs ascending few small (relisted b) runs fits₁ in
      rw (kept, chose) t

-- the answer and the counts of an attempt that ended so
module _ (x : List (Result Manifest ℕ) → Effect (Turn Claimed)) (t : Turn Claimed) (n : ℕ) (ended : (ms : List (Result Manifest ℕ)) → (x ms).result ≡ t) (stops : (ms : List (Result Manifest ℕ)) → (x ms).stopped ≡ n) where
  pub counts_by : (c : Counts) (k l : ℕ) → k ≡ turn_claimed t → l ≡ turn_left t → (ms : List (Result Manifest ℕ)) → record { claimed = k; started = c.started; let_go = c.let_go; left = l; stopped = c.stopped + n } ≡ counted_turn c (x ms).result (x ms).stopped
  counts_by c k l p q ms =
      let r : record { claimed = k; started = c.started; let_go = c.let_go; left = l; stopped = c.stopped + n } ≡ counted_turn c t n = cc in
      r ∙ ap (λ y. counted_turn c y n) (sym (ended ms)) ∙ ap (λ y. counted_turn c (x ms).result y) (sym (stops ms))
