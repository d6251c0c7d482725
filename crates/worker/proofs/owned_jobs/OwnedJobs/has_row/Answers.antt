use Rattle.std.proofs.Common.{◌∙◌}
use Rattle.table.specs.Fixed.{rows_in}
use Rattle.table.specs.Ids.{number}
use Rattle.table.proofs.Mapped.{holds-map}
use Rattle.worker_steps.specs.States.{row_id}
use Rattle.worker.specs.Meanings.{row_of}
use Rattle.worker.proofs.Owned.{tracked_rows}
use Rattle.worker.proofs.owned_jobs.OwnedJobs.has_row.Goals as goal

pub returns-clause-value : goal.returns-clause-value
returns-clause-value c = rw (← c.self.view_is) (c.holds.ensures ∙ holds-map row_of row_id (number c.args.id) (rows_in c.self.inside.job_progress))

pub returns-clause-tracked : goal.returns-clause-tracked
returns-clause-tracked c =
    let o = c.self.inside in
    rw (← c.self.view_is) (tracked_rows o.maximum (rows_in o.job_progress) (rows_in o.left_behind) o.job_progress.ascending o.left_behind.ascending c.self.invariant)
