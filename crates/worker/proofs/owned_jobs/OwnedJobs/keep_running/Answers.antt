use Rattle.std.proofs.Common.{◌≡◌, [], map, ap, ◌∙◌, rules}
use Rattle.table.specs.Fixed.{rows_in}
use Rattle.table.specs.Ids.{number}
use Rattle.stores.specs.Meanings.{draft_of}
use Rattle.worker_steps.specs.Tracking.{Tracked}
use Rattle.worker_steps.specs.Owning.{runs_at, still_left}
use Rattle.worker_steps.proofs.Filters.{map_kept}
use Rattle.worker_steps.proofs.Tracking.{relist}
use Rattle.worker_steps.proofs.Releasing.{still_shorter}
use Rattle.worker.specs.Meanings.{table_of, list_of}
use Rattle.worker.proofs.Owned.{tracks_intro, tracks_small, tracked_rows, list_ascends}
use Rattle.worker.proofs.owned_jobs.OwnedJobs.keep_running.Goals as goal
use Rattle.worker.proofs.owned_jobs.OwnedJobs.keep_running.Goals.{After-retain}

-- the ids that stay
kept : (c : After-retain) → map number (rows_in c.retain.new.self) ≡ still_left c.args.number (draft_of c.args.draft.now).entries (list_of c.self.inside.left_behind)
kept c =
    let runs = runs_at c.args.number (draft_of c.args.draft.now).entries in
    ap (map number) (c.retain.ensures (λ u. runs (number u)) (λ u answer said. search rules)) ∙ map_kept number runs (rows_in c.self.inside.left_behind)

-- and they are tracked
tracked_at : (c : After-retain) → Tracked c.self.inside.maximum [] (table_of c.self.inside.job_progress) (list_of c.retain.new.self)
tracked_at c =
    let o = c.self.inside in
    let short = still_shorter c.args.number (draft_of c.args.draft.now).entries (list_of o.left_behind) (list_ascends (rows_in o.left_behind) o.left_behind.ascending) in
    rw (kept c) (relist (tracked_rows o.maximum (rows_in o.job_progress) (rows_in o.left_behind) o.job_progress.ascending o.left_behind.ascending c.self.invariant) _ short)

pub invariant_of-self : goal.invariant_of-self
invariant_of-self c =
    let o = c.self.inside in
    tracks_intro o.maximum _ _ (tracks_small o.maximum _ _ c.self.invariant) (tracked_at (goal.at.invariant_of-self c).After-retain)

pub returns-clause-after : goal.returns-clause-after
returns-clause-after c =
    let o = c.self.inside in
    rw (← c.self.view_is) (ap (λ l. record { maximum = o.maximum; table = table_of o.job_progress; left = l }) (kept (goal.at.returns-clause-after c).After-retain))

pub returns-clause-tracked : goal.returns-clause-tracked
returns-clause-tracked c = tracked_at (goal.at.returns-clause-tracked c).After-retain
