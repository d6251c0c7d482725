use Rattle.std.proofs.Common.{◌≡◌, ap, ◌∙◌}
use Rattle.table.specs.Tables.{put}
use Rattle.compactions.specs.Meanings.{entry_of}
use Rattle.stores.specs.Records.{entry_id, with_entries}
use Rattle.stores.specs.Stores.{update}
use Rattle.stores.specs.Meanings.{draft_of}
use Rattle.worker.proofs.Drafts.{inserted}
use Rattle.worker.proofs.settling.hand_in.Given as given
use Rattle.worker.proofs.settling.hand_in.Goals as goal
use Rattle.worker.proofs.settling.hand_in.Goals.{After-update}

-- the draft with the entry in it
drafted : (g : given.Over) (c : After-update g) → draft_of c.insert.new.self ≡ with_entries (draft_of c.args.draft) (put entry_id (entry_of c.args.entry) (draft_of c.args.draft).entries)
drafted g c = inserted c.args.draft c.insert.new.self c.args.entry c.insert.result c.requires c.insert.ensures.value c.insert.ensures.after

after_at : (g : given.Over) (c : After-update g) → g.S.CompactionsStore.meaning c.update.new.self ≡ (update (with_entries (draft_of c.args.draft) (put entry_id (entry_of c.args.entry) (draft_of c.args.draft).entries)) (g.S.CompactionsStore.meaning c.args.store.now)).after
after_at g c = c.update.ensures.after ∙ ap (λ d. (update d (g.S.CompactionsStore.meaning c.args.store.now)).after) (drafted g c)

pub returns-in_err-tell-clause-after : goal.returns-in_err-tell-clause-after
returns-in_err-tell-clause-after g c = after_at g (goal.at.returns-in_err-tell-clause-after g c).After-update

pub returns-in-Landed-clause-after : goal.returns-in-Landed-clause-after
returns-in-Landed-clause-after g c = after_at g (goal.at.returns-in-Landed-clause-after g c).After-update
