use Rattle.std.proofs.Common.{◌≡◌, ℕ, ◌+◌, ◌≤◌, true, List, [], map, length, None, Result, sym, ap, ◌∙◌, subst, arith, false-eqb}
use Rattle.std.specs.List.{AllByRecursion}
use Rattle.std.proofs.lemmas.List.{length-map}
use Rattle.table.specs.Tables.{holds}
use Rattle.table.specs.Counted.{items_of}
use Rattle.compactions.specs.Entries.{Entry}
use Rattle.compactions.specs.Meanings.{entry_of}
use Rattle.compactions.specs.Trees.{Manifest}
use Rattle.stores.specs.Records.{entry_id}
use Rattle.stores.specs.Stores.{read, got, UpdateAnswer, unwritten, update}
use Rattle.stores.specs.Meanings.{draft_of, fault_of as store-fault-of}
use Rattle.worker_steps.specs.States.{with_left, state}
use Rattle.worker_steps.specs.Tracking.{Tracked}
use Rattle.worker_steps.specs.Looks.{held_after}
use Rattle.worker_steps.specs.Faults.{fault, store_failed, claim}
use Rattle.worker_steps.specs.Effects.{Effect, Turn, ends, on_update}
use Rattle.worker_steps.specs.Claims.{Claimed, landed_at, broken, walked, claim_draft, joined, list_if_faulted, claim_attempt}
use Rattle.worker_steps.proofs.Walks.{chosen_held}
use Rattle.worker.specs.Claims.{chosen_of}
use Rattle.worker.specs.Polls.{counts_of}
use Rattle.worker.specs.Worker.{Worker, held_of, settings_of}
use Rattle.worker.proofs.Attempts.{claim_during, was_record, still_room, still_tracked, chosen_pending, Sent, sent, counts_by}
use Rattle.worker.proofs.Drafts.{draft_ascends, draft_few}
use Rattle.worker.proofs.compaction_worker.CompactionWorker.attempt_claim.Given as given
use Rattle.worker.proofs.compaction_worker.CompactionWorker.attempt_claim.Goals as goal
use Rattle.worker.proofs.compaction_worker.CompactionWorker.attempt_claim.Goals.{After-choose-stopped, After-update}

-- the attempt, as it is defined
abbrev attempt : (g : given.Over) (c : After-choose-stopped g) → List (Result Manifest ℕ) → Effect (Turn Claimed)
attempt g c ms = claim_attempt (settings_of g.E.CompactionExecutor.places.count c.args.self.now) c.args.capacity c.args.attempt (state (held_of (g.E.CompactionExecutor.jobs c.args.self.now.executor).list c.args.self.now) (g.S.CompactionsStore.meaning c.args.store.now) c.args.clock.now ms)

-- the record that the attempt read
found : (g : given.Over) (c : After-choose-stopped g) → (read (g.S.CompactionsStore.meaning c.args.store.now)).answer ≡ got (draft_of c.in_ok-draft.draft)
found g c = was_record (claim_during c.args.attempt) _ _ c.in_ok-draft.ensures.answer

-- the settings stay
same_settings : (g : given.Over) (c : After-choose-stopped g) → settings_of g.E.CompactionExecutor.places.count c.choose-stopped.new.self ≡ settings_of g.E.CompactionExecutor.places.count c.args.self.now
same_settings g c = c.choose-stopped.ensures.settings ∙ c.read_for.ensures.settings

-- what the worker held after the read, by the record
looked_at : (g : given.Over) (c : After-choose-stopped g) → held_of (g.E.CompactionExecutor.jobs c.read_for.new.self.executor).list c.read_for.new.self ≡ held_after c.args.self.now.number (got (draft_of c.in_ok-draft.draft)) (held_of (g.E.CompactionExecutor.jobs c.args.self.now.executor).list c.args.self.now)
looked_at g c = c.read_for.ensures.held ∙ ap (λ x. held_after c.args.self.now.number x (held_of (g.E.CompactionExecutor.jobs c.args.self.now.executor).list c.args.self.now)) (found g c)

-- the room is still there
room_at : (g : given.Over) (c : After-choose-stopped g) → c.args.capacity + length c.choose-stopped.new.self.table ≤ c.choose-stopped.new.self.maximum
room_at g c =
    subst (λ m. c.args.capacity + length c.choose-stopped.new.self.table ≤ m) (sym (ap (λ s. s.maximum) (same_settings g c)))
    (still_room c.args.self.now.number c.args.capacity c.args.self.now.maximum _ _ _ (draft_of c.in_ok-draft.draft) _ (looked_at g c) c.choose-stopped.ensures.chosen c.choose-stopped.ensures.held (draft_ascends c.in_ok-draft.draft) c.requires.room)

-- the chosen are pending
pending_at : (g : given.Over) (c : After-choose-stopped g) → c.choose-stopped.new.self.maximum ≤ 8 → Tracked c.choose-stopped.new.self.maximum (map entry_id (chosen_of c.choose-stopped.result)) c.choose-stopped.new.self.table c.choose-stopped.new.self.left
pending_at g c small =
    let d = c.in_ok-draft.draft in
    let m : c.choose-stopped.new.self.maximum ≡ c.args.self.now.maximum = ap (λ s. s.maximum) (same_settings g c) in
    rw m (chosen_pending c.args.self.now.number c.args.capacity c.args.self.now.maximum _ _ _ (draft_of d) _ (looked_at g c) c.choose-stopped.ensures.chosen c.choose-stopped.ensures.held (draft_ascends d) c.requires.room (draft_few d) (rw m at small) c.requires.tracked)

-- nothing is, after a conflict
tracked_at : (g : given.Over) (c : After-choose-stopped g) → Tracked c.choose-stopped.new.self.maximum [] c.choose-stopped.new.self.table c.choose-stopped.new.self.left
tracked_at g c =
    let d = c.in_ok-draft.draft in
    let m : c.choose-stopped.new.self.maximum ≡ c.args.self.now.maximum = ap (λ s. s.maximum) (same_settings g c) in
    rw m (still_tracked c.args.self.now.number c.args.capacity c.args.self.now.maximum _ _ _ (draft_of d) _ (looked_at g c) c.choose-stopped.ensures.chosen c.choose-stopped.ensures.held (draft_ascends d) c.requires.room c.requires.tracked)

pub returns-then-is_empty-clause-room : goal.returns-then-is_empty-clause-room
returns-then-is_empty-clause-room g c = room_at g (goal.at.returns-then-is_empty-clause-room g c).After-choose-stopped

-- the entries that are marked are the chosen ones
marked_are : (g : given.Over) (c : After-choose-stopped g) (xs : List _) → xs ≡ items_of c.choose-stopped.result.entries → map entry_of xs ≡ (walked (draft_of c.in_ok-draft.draft).entries c.args.capacity c.read_for.new.self.table (g.E.CompactionExecutor.jobs c.read_for.new.self.executor).list).chosen
marked_are g c xs e = ap (map entry_of) e ∙ c.choose-stopped.ensures.chosen

pub mark_running-requires : goal.mark_running-requires
mark_running-requires g c =
    let b = (goal.at.mark_running-requires g c).After-choose-stopped in
    let d = c.in_ok-draft.draft in
    subst (λ (xs : List Entry). AllByRecursion (λ e. holds entry_id e.id (draft_of d).entries ≡ true) xs) (sym (marked_are g b _ c.as_slice-2.ensures))
    (chosen_held c.args.capacity (draft_of d).entries _ _ (draft_ascends d))

-- the maximum is small
small_at : (g : given.Over) (c : After-update g) → c.choose-stopped.new.self.maximum ≤ 8
small_at g c = rw (← c.self.view_is) c.self.invariant.1.1.0

pub leave_all-requires : goal.leave_all-requires
leave_all-requires g c = rw c.of-in-Err.ensures (pending_at g (goal.at.leave_all-requires g c).After-choose-stopped (rw (← c.self.view_is) c.self.invariant.1.1.0))

-- some were chosen
some_chosen : (g : given.Over) (c : After-update g) → 0 ≡ length (chosen_of c.choose-stopped.result) → ⊥
some_chosen g c e = false-eqb _ 0 c.if-is_empty.ensures (ap length c.as_slice.ensures ∙ sym (length-map (items_of c.choose-stopped.result.entries) entry_of) ∙ sym e)

-- how many
how_many : (g : given.Over) (c : After-update g) → length c.as_slice-3.result.now ≡ length (chosen_of c.choose-stopped.result)
how_many g c = ap length c.as_slice-3.ensures ∙ sym (length-map (items_of c.choose-stopped.result.entries) entry_of)

-- the draft that was handed in
handed_in : (g : given.Over) (c : After-update g) → draft_of c.mark_running.new.draft ≡ claim_draft c.args.self.now.number c.stamp.result (chosen_of c.choose-stopped.result) (draft_of c.in_ok-draft.draft)
handed_in g c =
    c.mark_running.ensures
    ∙ ap (λ n. claim_draft n c.stamp.result (map entry_of c.as_slice-2.result.now) (draft_of c.in_ok-draft.draft)) (ap (λ (x : Worker _). x.number) c.self.view_is ∙ ap (λ s. s.number) (same_settings g (goal.at.After-update g c).After-choose-stopped))
    ∙ ap (λ xs. claim_draft c.args.self.now.number c.stamp.result (map entry_of xs) (draft_of c.in_ok-draft.draft)) c.as_slice-2.ensures

-- how the attempt goes by the answer to its update
module _ (g : given.Over) (c : After-update g) (ua : UpdateAnswer) (answered : ua ≡ (update (draft_of c.mark_running.new.draft) (g.S.CompactionsStore.meaning c.read_for.new.store)).answer) (ms : List (Result Manifest ℕ)) where
  abbrev b : After-choose-stopped g
  b = (goal.at.After-update g c).After-choose-stopped

  sent_at : Sent (attempt g b ms) (on_update ua (landed_at c.args.attempt (chosen_of c.choose-stopped.result)) (λ f. broken (fault (store_failed f) claim None c.args.attempt) (chosen_of c.choose-stopped.result))) (state (list_if_faulted ua (chosen_of c.choose-stopped.result) (held_of (g.E.CompactionExecutor.jobs c.choose-stopped.new.self.executor).list c.choose-stopped.new.self)) (g.S.CompactionsStore.meaning c.update.new.self) c.stamp.new.self ms) c.choose-stopped.result.stopped
  sent_at = sent (settings_of g.E.CompactionExecutor.places.count c.args.self.now) c.args.capacity c.args.attempt (held_of (g.E.CompactionExecutor.jobs c.args.self.now.executor).list c.args.self.now) (g.S.CompactionsStore.meaning c.args.store.now) c.args.clock.now ms _ _ c.read_for.ensures.held c.read_for.ensures.store (draft_of c.in_ok-draft.draft) (found g b) _ _ _ c.choose-stopped.ensures.chosen c.choose-stopped.ensures.stopped c.choose-stopped.ensures.held (some_chosen g c) c.stamp.result _ _ ua _ c.stamp.ensures.value c.stamp.ensures.after (handed_in g c) answered c.update.ensures.after

pub returns-in-Ok-Landed-clause-pending : goal.returns-in-Ok-Landed-clause-pending
returns-in-Ok-Landed-clause-pending g c =
    let u = (goal.at.returns-in-Ok-Landed-clause-pending g c).After-update in
    let b = (goal.at.After-update g u).After-choose-stopped in
    rw c.of.ensures (pending_at g b (small_at g u))

pub returns-in-Ok-Landed-clause-room : goal.returns-in-Ok-Landed-clause-room
returns-in-Ok-Landed-clause-room g c =
    let u = (goal.at.returns-in-Ok-Landed-clause-room g c).After-update in
    let b = (goal.at.After-update g u).After-choose-stopped in
    room_at g b

pub returns-in-Ok-Conflict-clause-pending : goal.returns-in-Ok-Conflict-clause-pending
returns-in-Ok-Conflict-clause-pending g c =
    let u = (goal.at.returns-in-Ok-Conflict-clause-pending g c).After-update in
    let b = (goal.at.After-update g u).After-choose-stopped in
    tracked_at g b

pub returns-in-Ok-Conflict-clause-room : goal.returns-in-Ok-Conflict-clause-room
returns-in-Ok-Conflict-clause-room g c =
    let u = (goal.at.returns-in-Ok-Conflict-clause-room g c).After-update in
    let b = (goal.at.After-update g u).After-choose-stopped in
    room_at g b

pub returns-in-Err-clause-counts : goal.returns-in-Err-clause-counts
returns-in-Err-clause-counts g c =
    let u = (goal.at.returns-in-Err-clause-counts g c).After-update in
    let b = (goal.at.After-update g u).After-choose-stopped in
    let cs = chosen_of c.choose-stopped.result in
    let f = store-fault-of c.in-Err.fault in
    let said = c.in-Err.ensures.answer in
    counts_by (attempt g b) (ends (broken (fault (store_failed f) claim None c.args.attempt) cs)) _ (λ ms. (sent_at g u (unwritten f) said ms).result) (λ ms. (sent_at g u (unwritten f) said ms).stopped) (counts_of c.args.counts.now) _ _ (how_many g u) (how_many g u)

pub returns-in-Err-clause-after : goal.returns-in-Err-clause-after
returns-in-Err-clause-after g c =
    let u = (goal.at.returns-in-Err-clause-after g c).After-update in
    let h = held_of (g.E.CompactionExecutor.jobs c.choose-stopped.new.self.executor).list c.choose-stopped.new.self in
    let kept = c.leave_all.ensures.held ∙ ap (λ es. with_left h (joined es h.left)) c.of-in-Err.ensures in
    λ ms. ap (λ x. state x (g.S.CompactionsStore.meaning c.update.new.self) c.stamp.new.self ms) kept ∙ sym (sent_at g u (unwritten (store-fault-of c.in-Err.fault)) c.in-Err.ensures.answer ms).state

pub returns-in-Err-clause-room : goal.returns-in-Err-clause-room
returns-in-Err-clause-room g c =
    let u = (goal.at.returns-in-Err-clause-room g c).After-update in
    let max = ap (λ s. s.maximum) c.leave_all.ensures.settings in
    let same = ap (λ h. length h.table) c.leave_all.ensures.held in
    omega (arith, room_at g (goal.at.After-update g u).After-choose-stopped, max, same)
