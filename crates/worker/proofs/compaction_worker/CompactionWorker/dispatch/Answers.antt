use Rattle.std.proofs.Common.{◌≡◌, ◌∷◌, map, refl, ap, ◌∙◌}
use Rattle.table.specs.Tables.{put}
use Rattle.compactions.specs.Meanings.{entry_of}
use Rattle.stores.specs.Records.{entry_id}
use Rattle.worker_steps.specs.States.{self_id, with_left, state}
use Rattle.worker_steps.specs.Tracking.{Tracked}
use Rattle.worker_steps.specs.Claims.{joined}
use Rattle.worker_steps.proofs.Tracking.{only_first}
use Rattle.worker.specs.Claims.{waiting}
use Rattle.worker.specs.Worker.{held_of}
use Rattle.worker.proofs.Coming.{taken_first}
use Rattle.worker.proofs.Leaving.{left_tracked}
use Rattle.worker.proofs.Dispatching.{dispatching_more, stuck_pending, dispatched_stuck_after}
use Rattle.worker.proofs.compaction_worker.CompactionWorker.dispatch.Given as given
use Rattle.worker.proofs.compaction_worker.CompactionWorker.dispatch.Goals as goal
use Rattle.worker.proofs.compaction_worker.CompactionWorker.dispatch.Goals.{After-settle, In-Err}

-- the claim that was taken, before those that wait
first : (g : given.Over) (c : After-settle g) → waiting c.loop-claim.claims ≡ entry_of c.in-Some.claim.entry ∷ waiting c.take.new.self
first g c = taken_first _ _ _ c.in-Some.ensures.first c.in-Some.ensures.after

pub loop-claim-preserved : goal.loop-claim-preserved
loop-claim-preserved g c =
    let b = (goal.at.loop-claim-preserved g c).After-settle in
    let max : c.settle.new.self.maximum ≡ c.loop-claim.self.maximum = ap (λ s. s.maximum) c.settle.ensures.settings in (
      rw max (dispatching_more (entry_of c.in-Some.claim.entry) _ _ _ _ _ _ c.loop-claim.invariant.0 (first g b) c.loop-claim.invariant.1 c.in_default-settle.ensures.step),
      c.settle.ensures.settings ∙ c.loop-claim.invariant.1,
    )

-- the claim that came back, and those that wait, are pending
pending_at : (g : given.Over) (c : In-Err g) → Tracked c.settle.new.self.maximum ((entry_of c.in-Some.claim.entry).id ∷ map entry_id (waiting c.take.new.self)) c.settle.new.self.table c.settle.new.self.left
pending_at g c =
    let b = (goal.at.In-Err g c).After-settle in
    let max : c.settle.new.self.maximum ≡ c.loop-claim.self.maximum = ap (λ s. s.maximum) c.settle.ensures.settings in
    rw max (stuck_pending (entry_of c.in-Some.claim.entry) _ _ _ _ _ _ _ c.loop-claim.invariant.0 (first g b) c.loop-claim.invariant.1 c.in-Err.ensures.step)

pub leave-requires : goal.leave-requires
leave-requires g c =
    let b = (goal.at.leave-requires g c).In-Err in
    let i = c.spend.ensures ∙ ap (λ e. e.id) c.in-Err.ensures.step.back in
    rw i (only_first (pending_at g b))

pub leave_all-requires : goal.leave_all-requires
leave_all-requires g c =
    let b = (goal.at.leave_all-requires g c).In-Err in
    let i = c.spend.ensures ∙ ap (λ e. e.id) c.in-Err.ensures.step.back in
    let max = ap (λ s. s.maximum) c.leave.ensures.settings in
    rw max (left_tracked (held_of (g.E.CompactionExecutor.jobs c.settle.new.self.executor).list c.settle.new.self) (held_of (g.E.CompactionExecutor.jobs c.leave.new.self.executor).list c.leave.new.self) (entry_of c.in-Some.claim.entry) _ _ _ refl i c.leave.ensures.held (pending_at g b))

pub returns-in-Err-clause-after : goal.returns-in-Err-clause-after
returns-in-Err-clause-after g c =
    let b = (goal.at.returns-in-Err-clause-after g c).In-Err in
    let a = (goal.at.In-Err g b).After-settle in
    let e = entry_of c.in-Some.claim.entry in
    let es = waiting c.take.new.self in
    let one = c.in-Err.ensures.step in
    let h = held_of (g.E.CompactionExecutor.jobs c.settle.new.self.executor).list c.settle.new.self in
    let st = g.S.CompactionsStore.meaning c.settle.new.store in
    let i = c.spend.ensures ∙ ap (λ x. x.id) one.back in
    let held = c.leave_all.ensures.held ∙ ap (λ x. with_left x (joined es x.left)) (c.leave.ensures.held ∙ ap (λ j. with_left h (put self_id j h.left)) i) in
    λ ms. ap (λ x. state x st c.settle.new.clock ms) held ∙ dispatched_stuck_after e es _ _ _ _ _ _ c.loop-claim.invariant.0 (first g a) c.loop-claim.invariant.1 one ms
