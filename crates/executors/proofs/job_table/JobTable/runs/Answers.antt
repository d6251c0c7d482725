use Rattle.std.proofs.Common.{◌∙◌}
use Rattle.table.specs.Fixed.{rows_in}
use Rattle.table.specs.Ids.{number}
use Rattle.executors.proofs.JobRows.{holds_args}
use Rattle.executors.proofs.job_table.JobTable.runs.Goals as goal

pub returns : goal.returns
returns c = c.holds.ensures ∙ holds_args (number c.args.id) (rows_in c.args.self.now.jobs)
