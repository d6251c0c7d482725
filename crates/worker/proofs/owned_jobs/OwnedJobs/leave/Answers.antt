use Rattle.std.proofs.Common.{◌≡◌, [], is_ok, ap}
use Rattle.table.specs.Tables.{put}
use Rattle.table.specs.Fixed.{rows_in}
use Rattle.table.specs.Ids.{number}
use Rattle.worker_steps.specs.States.{self_id}
use Rattle.worker_steps.specs.Tracking.{Tracked}
use Rattle.worker_steps.proofs.Tracking.{list_id}
use Rattle.worker.specs.Meanings.{table_of, list_of}
use Rattle.worker.proofs.Owned.{tracks_intro, tracks_small, id_listed}
use Rattle.worker.proofs.owned_jobs.OwnedJobs.leave.Goals as goal
use Rattle.worker.proofs.owned_jobs.OwnedJobs.leave.Goals.{After-put}

-- the id is on the list
put_at : (c : After-put) → list_of c.put.new.self ≡ put self_id (number c.args.id) (list_of c.self.inside.left_behind)
put_at c =
    let o = c.self.inside in
    id_listed (rows_in o.left_behind) (rows_in c.put.new.self) c.args.id (is_ok c.put.result) (rw (← c.self.view_is) at c.requires) c.put.ensures.value c.put.ensures.after

-- and nothing is pending
tracked_at : (c : After-put) → Tracked c.self.inside.maximum [] (table_of c.self.inside.job_progress) (list_of c.put.new.self)
tracked_at c = rw (put_at c) (list_id (rw (← c.self.view_is) at c.requires))

pub invariant_of-self : goal.invariant_of-self
invariant_of-self c =
    let o = c.self.inside in
    tracks_intro o.maximum _ _ (tracks_small o.maximum _ _ c.self.invariant) (tracked_at (goal.at.invariant_of-self c).After-put)

pub returns-clause-after : goal.returns-clause-after
returns-clause-after c =
    let o = c.self.inside in
    rw (← c.self.view_is) (ap (λ l. record { maximum = o.maximum; table = table_of o.job_progress; left = l }) (put_at (goal.at.returns-clause-after c).After-put))

pub returns-clause-tracked : goal.returns-clause-tracked
returns-clause-tracked c = tracked_at (goal.at.returns-clause-tracked c).After-put
