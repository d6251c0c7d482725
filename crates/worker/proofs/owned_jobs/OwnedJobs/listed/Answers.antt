use Rattle.table.specs.Fixed.{rows_in}
use Rattle.worker.proofs.Owned.{tracked_rows}
use Rattle.worker.proofs.owned_jobs.OwnedJobs.listed.Goals as goal

pub returns-clause-tracked : goal.returns-clause-tracked
returns-clause-tracked c =
    let o = c.self.inside in
    rw (← c.self.view_is) (tracked_rows o.maximum (rows_in o.job_progress) (rows_in o.left_behind) o.job_progress.ascending o.left_behind.ascending c.self.invariant)
