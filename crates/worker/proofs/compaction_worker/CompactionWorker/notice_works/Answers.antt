use Rattle.std.proofs.Common.{◌≡◌, ℕ, List, Some, Ok, Result, sym, ap, ◌∙◌}
use Rattle.compactions.specs.Trees.{Manifest}
use Rattle.executors.specs.Executors.{names_running, left_by}
use Rattle.executors.specs.Notices.{notice_of}
use Rattle.worker_steps.specs.States.{with_jobs, state}
use Rattle.worker_steps.specs.Looks.{first_look}
use Rattle.worker_steps.specs.Notices.{handled, notice_opened, noticing}
use Rattle.worker.specs.Reads.{opened_of}
use Rattle.worker.specs.Worker.{Worker, held_of, settings_of}
use Rattle.worker.proofs.compaction_worker.CompactionWorker.notice_works.Goals as goal
use Rattle.worker_steps.proofs.Looking.{look_jobs}

pub returns-clause-steps : goal.returns-clause-steps
returns-clause-steps g c =
    let w = c.args.self.now in
    let s = settings_of g.E.CompactionExecutor.places.count w in
    let s₁ = settings_of g.E.CompactionExecutor.places.count c.ensure_loaded.new.self in
    let n = notice_of c.in-Some.message in
    let h = held_of (g.E.CompactionExecutor.jobs w.executor).list w in
    let h₁ = held_of (g.E.CompactionExecutor.jobs c.ensure_loaded.new.self.executor).list c.ensure_loaded.new.self in
    let st = g.S.CompactionsStore.meaning c.args.store.now in
    let st₁ = g.S.CompactionsStore.meaning c.ensure_loaded.new.store in
    let ck = c.args.clock.now in
    let took = c.in-Some.ensures in
    let found = λ (ms : List (Result Manifest ℕ)). sym (ap (λ b. opened_of (Ok b)) c.if-not-branch.false) ∙ c.in_ok-ensure_loaded.ensures.found ck ms in
    let looked = λ (ms : List (Result Manifest ℕ)). c.in_ok-ensure_loaded.ensures.after ck ms in
    let same : s₁ ≡ s = c.in_ok-ensure_loaded.ensures.settings in
    let v = c.self.inside in
    let m = g.E.CompactionExecutor in
    let whole = λ (ms : List (Result Manifest ℕ)).
    ap (λ (j : List _). handled (record { number = v.number; maximum = v.owned.maximum; limit = v.limit; places = m.places.count }) n (state (record { loaded = v.loaded; table = v.owned.table; left = v.owned.left; jobs = j }) st₁ ck ms)) took.left
    ∙ ap (λ (x : Worker _). handled (settings_of g.E.CompactionExecutor.places.count x) n (state (with_jobs (held_of (g.E.CompactionExecutor.jobs x.executor).list x) x.table (left_by (Some n) (g.E.CompactionExecutor.jobs x.executor).list)) st₁ ck ms)) c.self.view_is
    ∙ ap (λ x. handled x n (state (with_jobs h₁ h₁.table (left_by (Some n) h₁.jobs)) st₁ ck ms)) same
    ∙ ap (λ x. noticing s (Some n) x) (looked ms)
    ∙ ap (λ o. notice_opened s o (Some n) (first_look s.number (state h st ck ms)).state) (found ms) in
    record {
      notice = Some n;
      running = λ ms. sym (ap (λ (j : List _). names_running j (Some n)) (ap (λ x. x.held.jobs) (looked ms) ∙ look_jobs s.number (state h st ck ms))) ∙ sym (ap (λ (x : Worker _). names_running (g.E.CompactionExecutor.jobs x.executor).list (Some n)) c.self.view_is) ∙ took.running;
      answers = λ ms. c.handle.ensures.answer ms ∙ ap (λ x. x.result) (whole ms);
      leaves = λ ms. c.handle.ensures.after ms ∙ ap (λ x. x.state) (whole ms);
    }
