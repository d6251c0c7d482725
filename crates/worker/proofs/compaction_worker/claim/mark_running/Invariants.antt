use Rattle.std.proofs.Common.{map, drop}
use Rattle.compactions.specs.Meanings.{entry_of}
use Rattle.stores.specs.Meanings.{draft_of}
use Rattle.worker.proofs.Drafts.{Marking}
use Rattle.worker.proofs.compaction_worker.claim.mark_running.Given as goal

abbrev pub invariant-loop-entry : goal.invariant-loop-entry
invariant-loop-entry l = Marking l.worker.worker_id l.worker.last_heartbeat_ms (map entry_of l.chosen) (draft_of l.initial.draft) (map entry_of (drop l.entry-index l.chosen)) (draft_of l.draft)
