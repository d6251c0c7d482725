use Rattle.std.proofs.Common.{◌≡◌, [], is_ok, refl, ap}
use Rattle.table.specs.Tables.{put}
use Rattle.table.specs.Fixed.{rows_in}
use Rattle.worker_steps.specs.States.{row_id}
use Rattle.worker_steps.specs.Tracking.{Tracked}
use Rattle.worker_steps.proofs.Tracking.{start_row}
use Rattle.worker.specs.Meanings.{row_of, table_of, list_of}
use Rattle.worker.proofs.Owned.{tracks_intro, tracks_small, row_put}
use Rattle.worker.proofs.owned_jobs.OwnedJobs.add_row.Goals as goal
use Rattle.worker.proofs.owned_jobs.OwnedJobs.add_row.Goals.{After-put}

-- the row is in the table
put_at : (c : After-put) → table_of c.put.new.self ≡ put row_id (row_of c.args.row) (table_of c.self.inside.job_progress)
put_at c =
    let o = c.self.inside in
    row_put (rows_in o.job_progress) (rows_in c.put.new.self) c.args.row (is_ok c.put.result) (tracks_small o.maximum _ _ c.self.invariant) (rw (← c.self.view_is) at c.requires) c.put.ensures.value c.put.ensures.after

-- and nothing is pending
tracked_at : (c : After-put) → Tracked c.self.inside.maximum [] (table_of c.put.new.self) (list_of c.self.inside.left_behind)
tracked_at c = rw (put_at c) (start_row (rw (← c.self.view_is) at c.requires) (row_of c.args.row) refl)

pub invariant_of-self : goal.invariant_of-self
invariant_of-self c =
    let o = c.self.inside in
    tracks_intro o.maximum _ _ (tracks_small o.maximum _ _ c.self.invariant) (tracked_at (goal.at.invariant_of-self c).After-put)

pub returns-clause-after : goal.returns-clause-after
returns-clause-after c =
    let o = c.self.inside in
    rw (← c.self.view_is) (ap (λ t. record { maximum = o.maximum; table = t; left = list_of o.left_behind }) (put_at (goal.at.returns-clause-after c).After-put))

pub returns-clause-tracked : goal.returns-clause-tracked
returns-clause-tracked c = tracked_at (goal.at.returns-clause-tracked c).After-put
