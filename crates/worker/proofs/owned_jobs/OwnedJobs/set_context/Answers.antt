use Rattle.std.proofs.Common.{is_ok, ◌≡◌, true, [], sym, ap, ◌∙◌}
use Rattle.table.specs.Tables.{holds, put}
use Rattle.table.specs.Fixed.{rows_in}
use Rattle.worker_steps.specs.States.{row_id}
use Rattle.worker_steps.specs.Tracking.{Tracked}
use Rattle.worker_steps.proofs.Tracking.{replace_row}
use Rattle.worker.specs.Meanings.{row_of, table_of, list_of}
use Rattle.worker.specs.Owned.{Owned}
use Rattle.worker.proofs.Owned.{tracks_intro, tracks_small, tracked_rows, row_replaced}
use Rattle.worker.proofs.owned_jobs.OwnedJobs.set_context.Goals as goal
use Rattle.worker.proofs.owned_jobs.OwnedJobs.set_context.Goals.{After-put}

module _ (c : After-put) where
  had : holds row_id (row_of c.args.row).id (table_of c.self.inside.job_progress) ≡ true
  had = ap (λ (x : Owned). holds row_id (row_of c.args.row).id x.table) c.self.view_is ∙ sym c.if-not-has_row.ensures.value

  before : Tracked c.self.inside.maximum [] (table_of c.self.inside.job_progress) (list_of c.self.inside.left_behind)
  before = let o = c.self.inside in tracked_rows o.maximum (rows_in o.job_progress) (rows_in o.left_behind) o.job_progress.ascending o.left_behind.ascending c.self.invariant

  -- the row is in the place of the other
  put_at : table_of c.put.new.self ≡ put row_id (row_of c.args.row) (table_of c.self.inside.job_progress)
  put_at =
      let o = c.self.inside in
      row_replaced (rows_in o.job_progress) (rows_in c.put.new.self) c.args.row (is_ok c.put.result) (tracks_small o.maximum _ _ c.self.invariant) before had c.put.ensures.value c.put.ensures.after

  -- and they are tracked as before
  tracked_at : Tracked c.self.inside.maximum [] (table_of c.put.new.self) (list_of c.self.inside.left_behind)
  tracked_at = rw put_at (replace_row (row_of c.args.row) before had)

pub invariant_of-self : goal.invariant_of-self
invariant_of-self c =
    let o = c.self.inside in
    tracks_intro o.maximum _ _ (tracks_small o.maximum _ _ c.self.invariant) (tracked_at (goal.at.invariant_of-self c).After-put)

pub returns-clause-after : goal.returns-clause-after
returns-clause-after c =
    let o = c.self.inside in
    rw (← c.self.view_is) (ap (λ t. record { maximum = o.maximum; table = t; left = list_of o.left_behind }) (put_at (goal.at.returns-clause-after c).After-put))

pub returns-clause-tracked : goal.returns-clause-tracked
returns-clause-tracked c = tracked_at (goal.at.returns-clause-tracked c).After-put
