use Rattle.std.proofs.Common.{map, ◌∙◌, rules}
use Rattle.table.specs.Fixed.{rows_in}
use Rattle.table.specs.Ids.{number}
use Rattle.table.proofs.Mapped.{strike-map}
use Rattle.executors.specs.Executors.{job_id}
use Rattle.executors.specs.Jobs.{id_of}
use Rattle.executors.specs.Tables.{job_of}
use Rattle.executors.proofs.JobRows.{holds_args}
use Rattle.executors.proofs.job_table.JobTable.end.Goals as goal

pub returns : goal.returns
returns c =
    let i = number c.args.id in
    let rows = rows_in c.args.self.now.jobs in
    let had = c.strike.ensures.value ∙ holds_args i rows in
    let jobs = strike-map job_of id_of i rows in
    let args = strike-map (λ j. j.args) job_id i (map job_of rows) in
    search rules
