use Rattle.std.proofs.Common.{◌≡◌, ℕ, ◌≤◌, List, Ok, Result, sym, ap, ◌∙◌, arith}
use Rattle.std.proofs.lemmas.Result.{err_from_is_err_and}
use Rattle.table.specs.Ids.{number}
use Rattle.compactions.specs.Trees.{Manifest}
use Rattle.worker_steps.specs.States.{state}
use Rattle.worker_steps.specs.Effects.{Effect, Turn}
use Rattle.worker_steps.specs.Releases.{Settled}
use Rattle.worker.specs.EntryWorks.{entry_attempt}
use Rattle.worker.specs.Settling.{settle_turn_of, settled_of}
use Rattle.worker.specs.Worker.{Worker, held_of, settings_of}
use Rattle.worker.proofs.Retrying.{tried, tried_once}
use Rattle.worker.proofs.compaction_worker.CompactionWorker.work_on_entry.Given as given
use Rattle.worker.proofs.compaction_worker.CompactionWorker.work_on_entry.Goals as goal
use Rattle.worker.proofs.compaction_worker.CompactionWorker.work_on_entry.Goals.{After-attempt_on_entry}

module _ (g : given.Over) (c : After-attempt_on_entry g) where
  -- the attempt, by the settings of the whole work
  abbrev attempt : List (Result Manifest ℕ) → Effect (Turn Settled)
  attempt ms = entry_attempt (g.W.EntryWork.steps c.args.work.now) (settings_of g.E.CompactionExecutor.places.count c.args.self.now) (number c.args.id) c.loop-attempt.attempt (state (held_of (g.E.CompactionExecutor.jobs c.loop-attempt.self.executor).list c.loop-attempt.self) (g.S.CompactionsStore.meaning c.loop-attempt.store) c.loop-attempt.clock ms)

  -- what it left, and what it answered
  left_at : (ms : List (Result Manifest ℕ)) → state (held_of (g.E.CompactionExecutor.jobs c.attempt_on_entry.new.self.executor).list c.attempt_on_entry.new.self) (g.S.CompactionsStore.meaning c.attempt_on_entry.new.store) c.attempt_on_entry.new.clock ms ≡ (attempt ms).state
  left_at ms = c.attempt_on_entry.ensures.after ms ∙ ap (λ s. (entry_attempt (g.W.EntryWork.steps c.args.work.now) s (number c.args.id) c.loop-attempt.attempt (state (held_of (g.E.CompactionExecutor.jobs c.loop-attempt.self.executor).list c.loop-attempt.self) (g.S.CompactionsStore.meaning c.loop-attempt.store) c.loop-attempt.clock ms)).state) c.loop-attempt.invariant.1

  said_at : (ms : List (Result Manifest ℕ)) → settle_turn_of c.attempt_on_entry.result ≡ (attempt ms).result
  said_at ms = c.attempt_on_entry.ensures.answer ms ∙ ap (λ s. (entry_attempt (g.W.EntryWork.steps c.args.work.now) s (number c.args.id) c.loop-attempt.attempt (state (held_of (g.E.CompactionExecutor.jobs c.loop-attempt.self.executor).list c.loop-attempt.self) (g.S.CompactionsStore.meaning c.loop-attempt.store) c.loop-attempt.clock ms)).result) c.loop-attempt.invariant.1

  within : c.loop-attempt.attempt ≤ c.args.self.now.limit
  within = let e = ap (λ (x : Worker _). x.limit) c.self.view_is in omega (arith, e, c.loop-attempt-test.true)

pub returns-in_err-settled : goal.returns-in_err-settled
returns-in_err-settled g c =
    let b = (goal.at.returns-in_err-settled g c).After-attempt_on_entry in
    let q = err_from_is_err_and c.from_residual.result c.from_residual.ensures.1 in
    let was = ap settle_turn_of c.in_err-settled.was in
    let z = tried c.loop-attempt.invariant.0 (within g b) _ (left_at g b) _ (λ ms. sym was ∙ said_at g b ms) in
    rw (q.1, q.2) (record { answer = λ ms. (z ms).0; after = λ ms. (z ms).1; settings = c.attempt_on_entry.ensures.settings ∙ c.loop-attempt.invariant.1 })

pub returns-in-Some : goal.returns-in-Some
returns-in-Some g c =
    let b = (goal.at.returns-in-Some g c).After-attempt_on_entry in
    let was = ap settle_turn_of (c.in_ok-settled.was ∙ ap Ok c.in-Some.is) in
    let z = tried c.loop-attempt.invariant.0 (within g b) _ (left_at g b) (settled_of (Ok c.in-Some.settled)) (λ ms. sym was ∙ said_at g b ms) in
    record { answer = λ ms. (z ms).0; after = λ ms. (z ms).1; settings = c.attempt_on_entry.ensures.settings ∙ c.loop-attempt.invariant.1 }

pub loop-attempt-preserved : goal.loop-attempt-preserved
loop-attempt-preserved g c =
    let b = (goal.at.loop-attempt-preserved g c).After-attempt_on_entry in
    let was = ap settle_turn_of (c.in_ok-settled.was ∙ ap Ok c.in_default.is) in
    (tried_once c.loop-attempt.invariant.0 (within g b) _ (left_at g b) (λ ms. sym was ∙ said_at g b ms), c.attempt_on_entry.ensures.settings ∙ c.loop-attempt.invariant.1)
