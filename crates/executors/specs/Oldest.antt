-- What an executor that finishes its oldest job stands for.
use Rattle.executors.specs.declared.oldest_executor.OldestFinishes.{OldestFinishes}
use Rattle.executors.specs.declared.table_executor.TableExecutor.{TableExecutor}
use Rattle.executors.specs.Jobs.{Jobs}
use Rattle.executors.specs.TableExecutors.{jobs_of}

-- its jobs
abbrev pub oldest_jobs : TableExecutor OldestFinishes → Jobs
oldest_jobs e = jobs_of e
