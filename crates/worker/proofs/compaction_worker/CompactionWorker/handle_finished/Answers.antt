use Rattle.std.proofs.Common.{◌≡◌, ℕ, false, List, [], Result, sym, refl, ap, ◌∙◌, subst}
use Rattle.table.specs.Ids.{number}
use Rattle.table.specs.Tables.{holds}
use Rattle.compactions.specs.Trees.{Manifest}
use Rattle.executors.specs.Notices.{outcome_of}
use Rattle.worker_steps.specs.States.{row_id, Held, State, state}
use Rattle.worker_steps.specs.Effects.{Effect, effect_free}
use Rattle.worker_steps.specs.Notices.{Noticed, entry_dropped}
use Rattle.worker_steps.proofs.Rows.{strike_missing}
use Rattle.worker_steps.proofs.Releasing.{Less, settling_less, less_tracked}
use Rattle.worker.specs.Owned.{Owned, with_table}
use Rattle.worker.specs.Worker.{Worker, held_of}
use Rattle.worker.proofs.Walks.{at_false}
use Rattle.worker.proofs.compaction_worker.CompactionWorker.handle_finished.Goals as goal

pub returns-then-not-strike_row-clause-after : goal.returns-then-not-strike_row-clause-after
returns-then-not-strike_row-clause-after g c =
    let w = c.self.inside in
    let i = number c.args.id in
    let h = held_of (g.E.CompactionExecutor.jobs c.args.self.now.executor).list c.args.self.now in
    let st = g.S.CompactionsStore.meaning c.args.store.now in
    let ck = c.args.clock.now in
    let none : holds row_id i w.owned.table ≡ false = sym c.if-not-strike_row.ensures.value in
    let gone = λ (ms : List (Result Manifest ℕ)). at_false {X = Effect Noticed} (holds row_id i h.table) _ (effect_free entry_dropped (state h st ck ms)) (sym (ap (λ (x : Worker _). holds row_id i x.table) c.self.view_is) ∙ none) in
    let kept : c.strike_row.new.self ≡ w.owned = c.strike_row.ensures.after ∙ ap (with_table w.owned) (strike_missing row_id i w.owned.table none) in
    λ ms. ap (λ (o : Owned). state (record { loaded = w.loaded; table = o.table; left = o.left; jobs = (g.E.CompactionExecutor.jobs w.executor).list }) st ck ms) kept ∙ ap (λ (x : Worker _). state (held_of (g.E.CompactionExecutor.jobs x.executor).list x) st ck ms) c.self.view_is ∙ sym (ap (λ x. x.state) (gone ms))

pub leave-requires : goal.leave-requires
leave-requires g c =
    let w = c.self.inside in
    let m = g.E.CompactionExecutor in
    let o = c.strike_row.new.self in
    let h₁ : Held = record { loaded = w.loaded; table = o.table; left = o.left; jobs = (m.jobs w.executor).list } in
    let h₂ : Held = held_of (g.E.CompactionExecutor.jobs c.settle_finished-settled.new.self.executor).list c.settle_finished-settled.new.self in
    let less : Less h₁ h₂ = subst (λ (y : State). Less h₁ y.held) (sym (c.settle_finished-settled.ensures.after [])) (settling_less (record { number = w.number; maximum = o.maximum; limit = w.limit; places = m.places.count }) (number c.args.id) (outcome_of c.args.res) (state h₁ _ _ [])) in
    let max : c.settle_finished-settled.new.self.maximum ≡ o.maximum = ap (λ x. x.maximum) c.settle_finished-settled.ensures.settings in
    rw max (less_tracked h₁ h₂ less (c.if-not-strike_row.ensures.pending refl))
