use Rattle.std.proofs.Common.{rules}
use Rattle.table.proofs.Mapped.{put_map}
use Rattle.compactions.specs.Jobs.{args_of}
use Rattle.executors.specs.Executors.{job_id}
use Rattle.executors.specs.Tables.{table_of}
use Rattle.executors.proofs.job_table.JobTable.start.Goals as goal

pub returns-then-started-clause-jobs : goal.returns-then-started-clause-jobs
returns-then-started-clause-jobs c =
    let t = table_of c.args.self.now in
    let p = put_map (λ j. j.args) job_id (record { args = args_of c.args.args; started = t.next }) t.running in
    search rules
