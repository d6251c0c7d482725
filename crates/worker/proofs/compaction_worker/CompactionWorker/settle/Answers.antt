use Rattle.std.proofs.Common.{◌≡◌, ℕ, Bool, true, false, cond, List, [], Some, None, Ok, Result, sym, refl, ap, ◌∙◌, arith}
use Rattle.table.specs.Ids.{number}
use Rattle.compactions.specs.Entries.{Entry}
use Rattle.compactions.specs.Meanings.{entry_of, manifest_of}
use Rattle.compactions.specs.Trees.{Manifest}
use Rattle.argument_check.specs.Check.{job_args}
use Rattle.worker_steps.specs.Faults.{Fault, fault_of}
use Rattle.worker_steps.specs.States.{state}
use Rattle.worker_steps.specs.Releases.{releasing, stuck}
use Rattle.worker_steps.specs.Polls.{may_run, with_started}
use Rattle.worker.specs.Polls.{counts_of}
use Rattle.worker.specs.Settling.{settled_of}
use Rattle.worker.specs.declared.settling.Settled.{Settled}
use Rattle.worker.specs.declared.settling.Settled.TheVariants.{Written, Dropped}
use Rattle.worker.specs.Worker.{held_of, settings_of}
use Rattle.worker.proofs.Dispatching.{started_result, started_after, started_tracked, let_go_result, let_go_after, released_tracked, stuck_result, stuck_after}
use Rattle.worker_steps.proofs.Tracking.{settle}
use Rattle.worker.proofs.compaction_worker.CompactionWorker.settle.Given as given
use Rattle.worker.proofs.compaction_worker.CompactionWorker.settle.Goals as goal
use Rattle.worker.proofs.compaction_worker.CompactionWorker.settle.Goals.{After-release_claim}

-- no claim comes back from a start, and one does
kept_none : (b : Bool) (e : Entry) → None ≡ cond b None (Some e) → b ≡ true
kept_none true e q = refl
kept_none false e q = cc

came_back : (b : Bool) (x e : Entry) → Some x ≡ cond b None (Some e) → (b ≡ false) × (x ≡ e)
came_back true x e q = (cc, cc)
came_back false x e q = (refl, cc)

-- a release without fault
not_stuck : (x : Settled) (f : Fault) → settled_of (Ok x) ≡ stuck f → ⊥
not_stuck Written f e = let z : ◌≡◌ {A = ℕ} 0 1 = cc in omega arith
not_stuck Dropped f e = let z : ◌≡◌ {A = ℕ} 0 1 = cc in omega arith

pub returns-in-Ok-clause-step : goal.returns-in-Ok-clause-step
returns-in-Ok-clause-step g c =
    let s = settings_of g.E.CompactionExecutor.places.count c.args.self.now in
    let m = manifest_of c.args.manifest.now in
    let e = entry_of c.args.claim.entry in
    let h = held_of (g.E.CompactionExecutor.jobs c.args.self.now.executor).list c.args.self.now in
    let st = g.S.CompactionsStore.meaning c.args.store.now in
    let ck = c.args.clock.now in
    let yes' = kept_none (may_run s.places (job_args e m) h.jobs) e c.in-Ok.ensures.answer in
    let held = c.in-Ok.ensures.held ∙ ap (λ b. cond b (with_started e (job_args e m) h) h) yes' in
    record {
      result = started_result s m e h st ck yes' _ held (counts_of c.args.counts.now);
      after = started_after s m e h st ck yes' _ held;
      tracked = started_tracked s m e h st ck yes' _ held;
      frame = refl;
      few = omega arith;
    }

module _ (g : given.Over) (c : After-release_claim g) where
  refused : (may_run g.E.CompactionExecutor.places.count (job_args (entry_of c.args.claim.entry) (manifest_of c.args.manifest.now)) (g.E.CompactionExecutor.jobs c.args.self.now.executor).list ≡ false) × (entry_of c.in-Err.claim.entry ≡ entry_of c.args.claim.entry)
  refused = came_back _ _ _ c.in-Err.ensures.answer

  same_held : held_of (g.E.CompactionExecutor.jobs c.start.new.self.executor).list c.start.new.self ≡ held_of (g.E.CompactionExecutor.jobs c.args.self.now.executor).list c.args.self.now
  same_held = c.in-Err.ensures.held ∙ ap (λ b. cond b (with_started (entry_of c.args.claim.entry) (job_args (entry_of c.args.claim.entry) (manifest_of c.args.manifest.now)) (held_of (g.E.CompactionExecutor.jobs c.args.self.now.executor).list c.args.self.now)) (held_of (g.E.CompactionExecutor.jobs c.args.self.now.executor).list c.args.self.now)) refused.0

  same_id : number c.entry.result.now.id ≡ (entry_of c.args.claim.entry).id
  same_id = ap (λ x. number x.id) c.entry.ensures ∙ ap (λ x. x.id) refused.1

  -- the release was that of this entry, from this state
  module _ (ms : List (Result Manifest ℕ)) where
    whole : releasing (settings_of g.E.CompactionExecutor.places.count c.start.new.self) (number c.entry.result.now.id) (state (held_of (g.E.CompactionExecutor.jobs c.start.new.self.executor).list c.start.new.self) (g.S.CompactionsStore.meaning c.args.store.now) c.args.clock.now ms) ≡ releasing (settings_of g.E.CompactionExecutor.places.count c.args.self.now) (entry_of c.args.claim.entry).id (state (held_of (g.E.CompactionExecutor.jobs c.args.self.now.executor).list c.args.self.now) (g.S.CompactionsStore.meaning c.args.store.now) c.args.clock.now ms)
    whole =
        ap (λ s. releasing s (number c.entry.result.now.id) (state (held_of (g.E.CompactionExecutor.jobs c.start.new.self.executor).list c.start.new.self) (g.S.CompactionsStore.meaning c.args.store.now) c.args.clock.now ms)) c.start.ensures.settings
        ∙ ap (λ i. releasing (settings_of g.E.CompactionExecutor.places.count c.args.self.now) i (state (held_of (g.E.CompactionExecutor.jobs c.start.new.self.executor).list c.start.new.self) (g.S.CompactionsStore.meaning c.args.store.now) c.args.clock.now ms)) same_id
        ∙ ap (λ h. releasing (settings_of g.E.CompactionExecutor.places.count c.args.self.now) (entry_of c.args.claim.entry).id (state h (g.S.CompactionsStore.meaning c.args.store.now) c.args.clock.now ms)) same_held

    answered : settled_of c.release_claim.result ≡ (releasing (settings_of g.E.CompactionExecutor.places.count c.args.self.now) (entry_of c.args.claim.entry).id (state (held_of (g.E.CompactionExecutor.jobs c.args.self.now.executor).list c.args.self.now) (g.S.CompactionsStore.meaning c.args.store.now) c.args.clock.now ms)).result
    answered = c.release_claim.ensures.answer ms ∙ ap (λ x. x.result) whole

    left_at : state (held_of (g.E.CompactionExecutor.jobs c.release_claim.new.self.executor).list c.release_claim.new.self) (g.S.CompactionsStore.meaning c.release_claim.new.store) c.release_claim.new.clock ms ≡ (releasing (settings_of g.E.CompactionExecutor.places.count c.args.self.now) (entry_of c.args.claim.entry).id (state (held_of (g.E.CompactionExecutor.jobs c.args.self.now.executor).list c.args.self.now) (g.S.CompactionsStore.meaning c.args.store.now) c.args.clock.now ms)).state
    left_at = c.release_claim.ensures.after ms ∙ ap (λ x. x.state) whole

pub returns-in-Ok-release_claim-clause-step : goal.returns-in-Ok-release_claim-clause-step
returns-in-Ok-release_claim-clause-step g c =
    let b = (goal.at.returns-in-Ok-release_claim-clause-step g c).After-release_claim in
    let s = settings_of g.E.CompactionExecutor.places.count c.args.self.now in
    let m = manifest_of c.args.manifest.now in
    let e = entry_of c.args.claim.entry in
    let h = held_of (g.E.CompactionExecutor.jobs c.args.self.now.executor).list c.args.self.now in
    let st = g.S.CompactionsStore.meaning c.args.store.now in
    let ck = c.args.clock.now in
    let said = λ (ms : List (Result Manifest ℕ)). sym (ap settled_of c.in-Ok-release_claim.is) ∙ answered g b ms in
    record {
      result = let_go_result s m e h st ck (refused g b).0 _ _ _ _ said (left_at g b) (not_stuck c.in-Ok-release_claim.field-0) (counts_of c.args.counts.now);
      after = let_go_after s m e h st ck (refused g b).0 _ _ _ _ said (left_at g b) (not_stuck c.in-Ok-release_claim.field-0);
      tracked = λ max P t. released_tracked s m e h st ck (refused g b).0 _ _ _ _ said (left_at g b) [] max P (settle t);
      frame = refl;
      few = omega arith;
    }

pub returns-in-Err-release_claim-clause-step : goal.returns-in-Err-release_claim-clause-step
returns-in-Err-release_claim-clause-step g c =
    let b = (goal.at.returns-in-Err-release_claim-clause-step g c).After-release_claim in
    let s = settings_of g.E.CompactionExecutor.places.count c.args.self.now in
    let m = manifest_of c.args.manifest.now in
    let e = entry_of c.args.claim.entry in
    let h = held_of (g.E.CompactionExecutor.jobs c.args.self.now.executor).list c.args.self.now in
    let st = g.S.CompactionsStore.meaning c.args.store.now in
    let ck = c.args.clock.now in
    let f = fault_of c.in-Err-release_claim.fault in
    let said = λ (ms : List (Result Manifest ℕ)). sym (ap settled_of c.in-Err-release_claim.is) ∙ answered g b ms in
    record {
      back = (refused g b).1;
      counts = refl;
      result = stuck_result s m e h st ck (refused g b).0 _ _ _ _ said (left_at g b) f refl;
      after = stuck_after s m e h st ck (refused g b).0 _ _ _ _ said (left_at g b) f refl;
      tracked = released_tracked s m e h st ck (refused g b).0 _ _ _ _ said (left_at g b) [];
    }
