use Rattle.std.proofs.Common.{◌≡◌, ℕ, ◌-◌, ◌≤◌, List, [], length, None, Ok, Result, sym, refl, ap, ◌∙◌, subst, arith}
use Rattle.std.proofs.lemmas.Result.{err_from_is_err_and}
use Rattle.compactions.specs.Trees.{Manifest}
use Rattle.worker_steps.specs.Faults.{fault, not_landed, claim}
use Rattle.worker_steps.specs.States.{State, state}
use Rattle.worker_steps.specs.Tracking.{Tracked}
use Rattle.worker_steps.specs.Effects.{Effect}
use Rattle.worker_steps.specs.Claims.{Claimed, claiming}
use Rattle.worker.specs.Claims.{waiting}
use Rattle.worker.specs.Polls.{Counts, counts_of, ClaimEnd, none, landed, faulted, conflict, turn_of, claim_end, counted_claim, PendingTurn}
use Rattle.worker.specs.Worker.{Worker, held_of, settings_of}
use Rattle.worker.proofs.Claiming.{claiming_none, Ended, ended, gave_up, one_more, not_none, not_landed_end, not_faulted}
use Rattle.worker.proofs.compaction_worker.CompactionWorker.claim.Given as given
use Rattle.worker.proofs.compaction_worker.CompactionWorker.claim.Goals as goal
use Rattle.worker.proofs.compaction_worker.CompactionWorker.claim.Goals.{After-capacity-capacity, After-attempt_claim}

-- the capacity that it took, by the worker's meaning
taken_at : (g : given.Over) (c : After-capacity-capacity g) → c.capacity-capacity.result ≡ c.args.self.now.maximum - length c.args.self.now.table
taken_at g c = rw (← c.self.view_is) c.capacity-capacity.ensures.value

-- nothing is pending at first
tracked_first : (g : given.Over) (c : After-capacity-capacity g) → Tracked c.args.self.now.maximum [] c.args.self.now.table c.args.self.now.left
tracked_first g c = rw (← c.self.view_is) c.capacity-capacity.ensures.tracked

pub attempts-init : goal.attempts-init
attempts-init g c =
    let b = tracked_first g (goal.at.attempts-init g c).After-capacity-capacity in (
      claiming_none _ _ _ _ _ (counts_of c.args.counts.now) (rw (← c.self.view_is) c.self.invariant.0) c.requires.0 c.requires.1.0 c.requires.1.1,
      refl,
      omega (arith, taken_at g (goal.at.attempts-init g c).After-capacity-capacity, b.room),
      b,
    )

pub attempt_claim-requires : goal.attempt_claim-requires
attempt_claim-requires g c =
    let i = c.attempts.invariant.0 in
    record {
      small = omega (arith, c.capacity-capacity.ensures.value, c.self.invariant.1.1.0);
      tracked = c.attempts.invariant.3;
      room = c.attempts.invariant.2;
      few = (i.few, omega (arith, i.within, ap (λ (x : Worker _). x.limit) c.self.view_is, c.self.invariant.1.0));
      fresh = (i.claimed, i.left);
    }

-- a claim that ended, by the capacity that it took
module _ (g : given.Over) (c : After-capacity-capacity g) (e : ClaimEnd) (n : Counts) (v : List (Result Manifest ℕ) → State) where
  abbrev whole : ℕ → List (Result Manifest ℕ) → Effect Claimed
  whole k ms = claiming (settings_of g.E.CompactionExecutor.places.count c.args.self.now) k (state (held_of (g.E.CompactionExecutor.jobs c.args.self.now.executor).list c.args.self.now) (g.S.CompactionsStore.meaning c.args.store.now) c.args.clock.now ms)

  at_capacity : Ended (whole c.capacity-capacity.result) e (counts_of c.args.counts.now) n v → Ended (whole (c.args.self.now.maximum - length c.args.self.now.table)) e (counts_of c.args.counts.now) n v
  at_capacity z = record {
    answer = λ ms. z.answer ms ∙ ap (λ k. claim_end (whole k ms).result) (taken_at g c);
    counts = λ ms. z.counts ms ∙ ap (λ k. counted_claim (counts_of c.args.counts.now) (whole k ms).result (whole k ms).stopped) (taken_at g c);
    after = λ ms. z.after ms ∙ ap (λ k. (whole k ms).state) (taken_at g c);
  }

pub returns-in_err-attempt_claim : goal.returns-in_err-attempt_claim
returns-in_err-attempt_claim g c =
    let b = (goal.at.returns-in_err-attempt_claim g c).After-capacity-capacity in
    let said = c.in_err-attempt_claim.ensures in
    let p = err_from_is_err_and c.from_residual.result c.from_residual.ensures.1 in
    let z = at_capacity g b _ _ _ (ended c.attempts.invariant.0 _ c.attempts.invariant.1 _ _ _ said.answer said.counts said.after (not_faulted _)) in
    rw (p.1, p.2) (record { answer = z.answer; counts = z.counts; after = z.after; settings = said.settings ∙ c.attempts.invariant.1; pending = tt })

pub returns-in-NoneChosen : goal.returns-in-NoneChosen
returns-in-NoneChosen g c =
    let b = (goal.at.returns-in-NoneChosen g c).After-capacity-capacity in
    let said = c.in_ok-attempt_claim.ensures in
    let is = ap (λ t. turn_of c.attempts.attempt (Ok t)) c.in-NoneChosen.is in
    let z = at_capacity g b none _ _ (ended c.attempts.invariant.0 _ c.attempts.invariant.1 none _ _ (λ ms. sym is ∙ said.answer ms) said.counts said.after not_none) in
    record { answer = z.answer; counts = z.counts; after = z.after; settings = said.settings ∙ c.attempts.invariant.1; pending = tt }

pub returns-then-attempt-self : goal.returns-then-attempt-self
returns-then-attempt-self g c =
    let b = (goal.at.returns-then-attempt-self g c).After-capacity-capacity in
    let said = c.in_ok-attempt_claim.ensures in
    let is = ap (λ t. turn_of c.attempts.attempt (Ok t)) c.in-Conflict.is in
    let limits = ap (λ (x : Worker _). x.limit) c.self-in-attempts.view_is ∙ ap (λ s. s.limit) (said.settings ∙ c.attempts.invariant.1) in
    let last : c.args.self.now.limit ≤ c.attempts.attempt = omega (arith, c.if-attempt-self.true, limits) in
    let at : c.attempts.attempt ≡ c.args.self.now.limit = omega (arith, last, c.attempts.invariant.0.within) in
    let z = at_capacity g b (faulted (fault not_landed claim None c.args.self.now.limit)) _ _ (gave_up c.attempts.invariant.0 _ c.attempts.invariant.1 conflict _ _ (λ ms. sym is ∙ said.answer ms) said.counts said.after refl last) in
    record { answer = λ ms. ap (λ a. faulted (fault not_landed claim None a)) at ∙ z.answer ms; counts = z.counts; after = z.after; settings = said.settings ∙ c.attempts.invariant.1; pending = tt }

pub attempts-smaller : goal.attempts-smaller
attempts-smaller g c =
    let said = c.in_ok-attempt_claim.ensures in
    let limits : c.self-in-attempts.inside.limit ≡ c.attempt_claim.new.self.limit = ap (λ (x : Worker _). x.limit) c.self-in-attempts.view_is in
    let same : c.attempt_claim.new.self.limit ≡ c.attempts.self.limit = ap (λ s. s.limit) said.settings in
    omega (arith, limits, same, c.if-attempt-self.false)

pub attempts-preserved : goal.attempts-preserved
attempts-preserved g c =
    let said = c.in_ok-attempt_claim.ensures in
    let is = ap (λ t. turn_of c.attempts.attempt (Ok t)) c.in-Conflict.is in
    let limits = ap (λ (x : Worker _). x.limit) c.self-in-attempts.view_is ∙ ap (λ s. s.limit) (said.settings ∙ c.attempts.invariant.1) in (
      one_more c.attempts.invariant.0 _ c.attempts.invariant.1 conflict _ _ (λ ms. sym is ∙ said.answer ms) said.counts said.after refl _ _ _ (λ ms. refl) (omega (arith, limits, c.if-attempt-self.false)) said.few,
      said.settings ∙ c.attempts.invariant.1,
      said.room,
      subst (λ t. PendingTurn c.attempt_claim.new.self.maximum (held_of (g.E.CompactionExecutor.jobs c.attempt_claim.new.self.executor).list c.attempt_claim.new.self) (Ok t)) c.in-Conflict.is said.pending,
    )

pub returns : goal.returns
returns g c =
    let b = (goal.at.returns g c).After-capacity-capacity in
    let said = c.in_ok-attempt_claim.ensures in
    let cs = waiting c.in-Landed.claims in
    let is = ap (λ t. turn_of c.attempts.attempt (Ok t)) c.in-Landed.is in
    let z = at_capacity g b (landed c.attempts.attempt cs) _ _ (ended c.attempts.invariant.0 _ c.attempts.invariant.1 (landed c.attempts.attempt cs) _ _ (λ ms. sym is ∙ said.answer ms) said.counts said.after (not_landed_end _ cs)) in
    record {
      answer = z.answer;
      counts = z.counts;
      after = z.after;
      settings = said.settings ∙ c.attempts.invariant.1;
      pending = subst (λ t. PendingTurn c.attempt_claim.new.self.maximum (held_of (g.E.CompactionExecutor.jobs c.attempt_claim.new.self.executor).list c.attempt_claim.new.self) (Ok t)) c.in-Landed.is said.pending;
    }
