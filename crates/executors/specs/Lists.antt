-- An executor that gives the notices of a list.
use Rattle.std.specs.Prelude.{cond, List, [], ◌∷◌, Some, None, Option}
use Rattle.compactions.specs.Jobs.{Args}
use Rattle.executors.specs.declared.list_executor.ListNotices.{ListNotices}
use Rattle.executors.specs.declared.table_executor.TableExecutor.{TableExecutor}
use Rattle.executors.specs.Executors.{Notice, runs}
use Rattle.executors.specs.Jobs.{args_in}
use Rattle.executors.specs.TableExecutors.{jobs_of}

-- the first notice of a running job
abbrev pub first_running : List Args → List Notice → Option Notice
first_running jobs [] = None
first_running jobs (n ∷ ns) = cond (runs jobs n) (Some n) (first_running jobs ns)

-- the notices behind it; those before it are used up too
abbrev pub behind_running : List Args → List Notice → List Notice
behind_running jobs [] = []
behind_running jobs (n ∷ ns) = cond (runs jobs n) ns (behind_running jobs ns)

-- its jobs
abbrev pub list_jobs : TableExecutor ListNotices → List Args
list_jobs e = args_in (jobs_of e)

-- the notices ahead
abbrev pub ahead_of : TableExecutor ListNotices → List Notice
ahead_of e = e.notices
