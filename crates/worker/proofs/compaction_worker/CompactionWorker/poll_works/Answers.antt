use Rattle.std.proofs.Common.{Ok, sym, ap, ◌∙◌}
use Rattle.worker.specs.Polls.{counts_of, claim_of}
use Rattle.worker.proofs.Polling.{landed_counts}
use Rattle.worker.proofs.compaction_worker.CompactionWorker.poll_works.Goals as goal

pub after_claim-requires-clause-fresh : goal.after_claim-requires-clause-fresh
after_claim-requires-clause-fresh g c =
    let ms = c.args.manifests.now in
    let landed = sym (ap (λ x. claim_of (Ok x)) c.in-Some.is) ∙ c.in_ok-landed.ensures.answer ms in
    let fresh = landed_counts (counts_of c.args.counts.now) (counts_of c.claim.new.counts) _ _ _ _ (c.claim.ensures.counts ms) landed (ap (λ x. x.started) c.requires) (ap (λ x. x.let_go) c.requires) in
    (fresh.0, (fresh.1, fresh.2))
