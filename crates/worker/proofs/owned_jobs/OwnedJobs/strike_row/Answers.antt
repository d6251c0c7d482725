use Rattle.std.proofs.Common.{◌≡◌, [], map, sym, ap, ◌∙◌}
use Rattle.table.specs.Fixed.{rows_in}
use Rattle.table.specs.Ids.{number}
use Rattle.table.specs.Tables.{strike}
use Rattle.table.proofs.Mapped.{holds-map, strike-map}
use Rattle.worker_steps.specs.States.{row_id}
use Rattle.worker_steps.specs.Tracking.{Tracked}
use Rattle.worker_steps.proofs.Tracking.{trim, strike_trims, strike_row}
use Rattle.worker.specs.Meanings.{row_of, table_of, list_of}
use Rattle.worker.proofs.Owned.{tracks_intro, tracks_small, tracked_rows}
use Rattle.worker.proofs.owned_jobs.OwnedJobs.strike_row.Goals as goal
use Rattle.worker.proofs.owned_jobs.OwnedJobs.strike_row.Goals.{After-strike}

-- the row is gone
struck_at : (c : After-strike) → table_of c.strike.new.self ≡ strike row_id (number c.args.id) (table_of c.self.inside.job_progress)
struck_at c = ap (map row_of) c.strike.ensures.after ∙ strike-map row_of row_id (number c.args.id) (rows_in c.self.inside.job_progress)

-- and the others are tracked
tracked_at : (c : After-strike) → Tracked c.self.inside.maximum [] (table_of c.strike.new.self) (list_of c.self.inside.left_behind)
tracked_at c =
    let o = c.self.inside in
    rw (struck_at c) (trim (tracked_rows o.maximum (rows_in o.job_progress) (rows_in o.left_behind) o.job_progress.ascending o.left_behind.ascending c.self.invariant) (strike_trims (number c.args.id) (table_of o.job_progress)))

pub invariant_of-self : goal.invariant_of-self
invariant_of-self c =
    let o = c.self.inside in
    tracks_intro o.maximum _ _ (tracks_small o.maximum _ _ c.self.invariant) (tracked_at (goal.at.invariant_of-self c).After-strike)

pub returns : goal.returns
returns c =
    let o = c.self.inside in
    let b = (goal.at.returns c).After-strike in
    let e = struck_at b in
    let had = c.strike.ensures.value ∙ holds-map row_of row_id (number c.args.id) (rows_in o.job_progress) in
    rw (← c.self.view_is) (record {
      value = had;
      after = ap (λ t. record { maximum = o.maximum; table = t; left = list_of o.left_behind }) e;
      tracked = tracked_at b;
      pending = λ yes'. rw e (strike_row (tracked_rows o.maximum (rows_in o.job_progress) (rows_in o.left_behind) o.job_progress.ascending o.left_behind.ascending c.self.invariant) (number c.args.id) (sym had ∙ yes'));
    })
