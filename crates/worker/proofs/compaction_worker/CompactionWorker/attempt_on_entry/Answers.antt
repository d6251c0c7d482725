use Rattle.std.proofs.Common.{◌≡◌, ℕ, List, Some, Result, sym, ap, ◌∙◌}
use Rattle.table.specs.Ids.{number}
use Rattle.table.specs.Tables.{holds, lookup, put}
use Rattle.compactions.specs.Entries.{Entry}
use Rattle.compactions.specs.Meanings.{entry_of}
use Rattle.compactions.specs.Trees.{Manifest}
use Rattle.stores.specs.Records.{entry_id, with_entries}
use Rattle.stores.specs.Stores.{update}
use Rattle.stores.specs.Meanings.{draft_of}
use Rattle.worker_steps.specs.Faults.{Work, work_of, fault, store_failed}
use Rattle.worker_steps.specs.Effects.{on_update}
use Rattle.worker_steps.specs.Releases.{written, stuck}
use Rattle.worker.specs.Settling.{if_own}
use Rattle.worker.specs.Worker.{Worker, held_of, settings_of}
use Rattle.worker.proofs.Attempts.{was_record}
use Rattle.worker.proofs.OneEntry.{own_held, own_id, entry_found}
use Rattle.worker.proofs.compaction_worker.CompactionWorker.attempt_on_entry.Given as given
use Rattle.worker.proofs.compaction_worker.CompactionWorker.attempt_on_entry.Goals as goal
use Rattle.worker.proofs.compaction_worker.CompactionWorker.attempt_on_entry.Goals.{In-Some}

-- the entry is the worker's own
own : (g : given.Over) (c : In-Some g) → Some (entry_of c.in-Some.existing) ≡ if_own c.args.self.now.number (lookup entry_id (number c.args.id) (draft_of c.in_ok-draft.draft).entries)
own g c = c.in-Some.ensures ∙ ap (λ n. if_own n (lookup entry_id (number c.args.id) (draft_of c.in_ok-draft.draft).entries)) (ap (λ (x : Worker _). x.number) c.self.view_is ∙ ap (λ s. s.number) c.read_for.ensures.settings)

pub hand_in-requires : goal.hand_in-requires
hand_in-requires g c =
    let o = own g (goal.at.hand_in-requires g c).In-Some in
    let x = g.W.EntryWork.steps c.args.work.now in
    let es = (draft_of c.in_ok-draft.draft).entries in
    ap (λ e. holds entry_id e.id es) c.changed-changed.ensures.value
    ∙ ap (λ i. holds entry_id i es) (x.same_id _ _ _ ∙ own_id _ _ es _ o)
    ∙ own_held _ _ es _ o

pub returns-clause-answer : goal.returns-clause-answer
returns-clause-answer g c =
    let o = own g (goal.at.returns-clause-answer g c).In-Some in
    let x = g.W.EntryWork.steps c.args.work.now in
    let s = settings_of g.E.CompactionExecutor.places.count c.args.self.now in
    let i = number c.args.id in
    let r = draft_of c.in_ok-draft.draft in
    let st₁ = g.S.CompactionsStore.meaning c.read_for.new.store in
    let n : c.self.inside.number ≡ s.number = ap (λ (x : Worker _). x.number) c.self.view_is ∙ ap (λ s. s.number) c.read_for.ensures.settings in
    let made = c.changed-changed.ensures.value ∙ ap (λ m. x.changed m c.args.clock.now (entry_of c.in-Some.existing)) n in
    let e = λ (ms : List (Result Manifest ℕ)). entry_found x s i c.args.attempt (held_of (g.E.CompactionExecutor.jobs c.args.self.now.executor).list c.args.self.now) (g.S.CompactionsStore.meaning c.args.store.now) c.args.clock.now ms _ st₁ c.read_for.ensures.held c.read_for.ensures.store r (was_record (record { work = c.work.result; id = Some c.args.id; attempt = c.args.attempt }) _ _ c.in_ok-draft.ensures.answer) _ o in
    let put_in = ap (λ (y : Entry). update (with_entries r (put entry_id y r.entries)) st₁) made in
    λ ms. c.hand_in.ensures.answer ∙ ap (λ u. on_update u.answer written (λ f. stuck (fault (store_failed f) (work_of c.work.result) (Some i) c.args.attempt))) put_in ∙ ap (λ (k : Work). on_update (update (with_entries r (put entry_id (x.changed s.number c.args.clock.now (entry_of c.in-Some.existing)) r.entries)) st₁).answer written (λ f. stuck (fault (store_failed f) k (Some i) c.args.attempt))) c.work.ensures ∙ sym (ap (λ y. y.result) (e ms))
