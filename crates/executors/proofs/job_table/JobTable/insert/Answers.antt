use Rattle.std.proofs.Common.{◌≡◌, false, sym, ◌∙◌, rules}
use Rattle.table.specs.Fixed.{rows_in}
use Rattle.table.specs.Tables.{holds}
use Rattle.table.proofs.Mapped.{put_map}
use Rattle.executors.specs.Tables.{job_of}
use Rattle.executors.specs.Jobs.{id_of}
use Rattle.executors.proofs.JobRows.{row_id, may_new}
use Rattle.executors.proofs.job_table.JobTable.insert.Goals as goal

pub returns-then-not-holds-clause-value : goal.returns-then-not-holds-clause-value
returns-then-not-holds-clause-value c =
    let t = c.args.self.now.jobs in
    let free : holds row_id (row_id c.args.row) (rows_in t) ≡ false = search rules in
    c.is_ok.ensures.value ∙ c.put.ensures.value ∙ sym (may_new (rows_in t) c.args.row t.ascending free)

pub returns-then-not-holds-clause-running : goal.returns-then-not-holds-clause-running
returns-then-not-holds-clause-running c = let p = put_map job_of id_of c.args.row (rows_in c.args.self.now.jobs) in search rules
