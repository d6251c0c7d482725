-- What a job table stands for.
use Rattle.std.specs.Prelude.{◌≡◌, ℕ, ◌≤◌, true, map, length}
use Rattle.std.proofs.Common.{sym, subst, ◌∙◌, lit≤}
use Rattle.std.proofs.lemmas.List.{length-map, length-take-le}
use Rattle.table.specs.Fixed.{rows_in}
use Rattle.table.specs.Tables.{ascends}
use Rattle.table.proofs.Mapped.{ascends-map}
use Rattle.compactions.specs.Jobs.{args_of}
use Rattle.executors.specs.declared.job_table.Job as rows
use Rattle.executors.specs.declared.job_table.JobTable.{JobTable}
use Rattle.executors.specs.Executors.{Capacity, job_id, Running}
use Rattle.executors.specs.Jobs.{Job, Jobs, id_of, args_in}

-- eight places
abbrev pub eight : Capacity
eight = record { count = 8; enough = lit≤ tt }

-- a row by its meaning
abbrev pub job_of : rows.Job → Job
job_of j = record { args = args_of j.args; started = j.started }

-- its jobs by their meaning, and the number of the next start
abbrev pub table_of : JobTable → Jobs
table_of t = record { running = map job_of (rows_in t.jobs); next = t.next }

-- its jobs ascend as its rows do
pub table_ascends : (t : JobTable) → ascends job_id (args_in (table_of t)) ≡ true
table_ascends t =
    let rows = rows_in t.jobs in
    sym (ascends-map job_of id_of rows ∙ ascends-map (λ j. j.args) job_id (map job_of rows)) ∙ t.jobs.ascending

-- it has as many jobs as rows that count
pub table_counts : (t : JobTable) → length (args_in (table_of t)) ≡ t.jobs.rows.len
table_counts t =
    let rows = t.jobs.rows in
    length-map (map job_of (rows_in t.jobs)) (λ j. j.args)
    ∙ length-map (rows_in t.jobs) job_of
    ∙ length-take-le rows.len rows.items (subst (λ (n : ℕ). rows.len ≤ n) (sym rows.whole) rows.within)

-- the arguments of its jobs
abbrev pub running_in : JobTable → Running 8
running_in t = record { list = args_in (table_of t); ascending = table_ascends t; within = subst (λ (n : ℕ). n ≤ 8) (sym (table_counts t)) t.jobs.rows.within }
