-- What an executor over a job table stands for.
use Rattle.executors.specs.declared.table_executor.TableExecutor.{TableExecutor}
use Rattle.executors.specs.Jobs.{Jobs}
use Rattle.executors.specs.Tables.{table_of}

-- its jobs
abbrev pub jobs_of : {N : Type 0} → TableExecutor N → Jobs
jobs_of e = table_of e.jobs
