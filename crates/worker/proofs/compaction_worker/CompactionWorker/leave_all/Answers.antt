use Rattle.std.proofs.Common.{ap, ◌∙◌}
use Rattle.compactions.specs.Meanings.{entry_of}
use Rattle.worker.specs.Claims.{waiting}
use Rattle.worker.proofs.Coming.{taken_first}
use Rattle.worker.proofs.Leaving.{left_one, left_tracked}
use Rattle.worker.proofs.compaction_worker.CompactionWorker.leave_all.Goals as goal

pub loop-claim-preserved : goal.loop-claim-preserved
loop-claim-preserved g c =
    let first = taken_first (entry_of c.in-Some.claim.entry) (waiting c.loop-claim.claims) (waiting c.take.new.self) c.in-Some.ensures.first c.in-Some.ensures.after in
    let max = ap (λ s. s.maximum) c.leave.ensures.settings in (
      left_one _ _ _ _ _ _ first c.spend.ensures c.leave.ensures.held _ c.loop-claim.invariant.0,
      c.leave.ensures.settings ∙ c.loop-claim.invariant.1,
      rw max (left_tracked _ _ _ _ _ _ first c.spend.ensures c.leave.ensures.held c.loop-claim.invariant.2),
    )
