use Rattle.std.proofs.Common.{◌≡◌, ◌+◌, true, ◌∷◌, map, drop, ap, ◌∙◌}
use Rattle.table.specs.Tables.{holds, put}
use Rattle.compactions.specs.Meanings.{entry_of}
use Rattle.stores.specs.Records.{entry_id, with_entries}
use Rattle.stores.specs.Meanings.{draft_of}
use Rattle.worker.proofs.Drafts.{marking_more, inserted}
use Rattle.worker.proofs.Coming.{coming}
use Rattle.worker.proofs.compaction_worker.claim.mark_running.Goals as goal
use Rattle.worker.proofs.compaction_worker.claim.mark_running.Goals.{After-insert}

-- the entry at hand is the first of those to come
at_hand : (c : After-insert) → map entry_of (drop c.loop-entry.entry-index c.args.chosen.now) ≡ entry_of c.entry-item.result ∷ map entry_of (drop (c.loop-entry.entry-index + 1) c.args.chosen.now)
at_hand c = coming entry_of c.args.chosen.now c.loop-entry.entry-index c.entry-item.result c.loop-entry-test.true c.entry-item.is

pub loop-entry-preserved : goal.loop-entry-preserved
loop-entry-preserved c =
    let m = rw (at_hand c) at c.loop-entry.invariant in
    let claimed = c.claimed_by.ensures in
    let held : holds entry_id (entry_of c.claimed_by.result).id (draft_of c.loop-entry.draft).entries ≡ true = ap (λ e. holds entry_id e.id (draft_of c.loop-entry.draft).entries) claimed ∙ m.held.0 in
    marking_more (draft_of c.insert.new.self) m
    (inserted c.loop-entry.draft c.insert.new.self c.claimed_by.result c.insert.result held c.insert.ensures.value c.insert.ensures.after
    ∙ ap (λ e. with_entries (draft_of c.loop-entry.draft) (put entry_id e (draft_of c.loop-entry.draft).entries)) claimed)
