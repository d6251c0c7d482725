-- Rows of a job table, the jobs that they mean, and the jobs' arguments.
use Rattle.std.proofs.Common.{◌≡◌, ℕ, true, false, ltb, List, map, length, ◌∙◌, arith}
use Rattle.std.proofs.lemmas.List.{length-map}
use Rattle.std.proofs.lemmas.Bool.Decides.{nat_tests}
use Rattle.table.specs.Ids.{by}
use Rattle.table.specs.Tables.{ascends, holds, admits}
use Rattle.table.proofs.Proved.{lawful}
use Rattle.table.proofs.Order.{ascending_from}
use Rattle.table.proofs.Mapped.{holds-map}
use Rattle.compactions.specs.Jobs.{Args}
use Rattle.executors.specs.declared.job_table.Job as rows
use Rattle.executors.specs.Executors.{job_id, may_start}
use Rattle.executors.specs.Jobs.{id_of}
use Rattle.executors.specs.Tables.{job_of}

-- a new row fits exactly if a place is free
admits_new : {R : Type 0} (key : R → ℕ) (room : ℕ) (r : R) (xs : List R) → ascends key xs ≡ true → holds key (key r) xs ≡ false → admits key room r xs ≡ ltb (length xs) room
admits_new key room r xs a h = let n = (lawful key).length_put r xs (ascending_from key xs a) in grind (arith, nat_tests)

-- the id of a row
abbrev pub row_id : rows.Job → ℕ
row_id = by (λ j. j.args.id)

-- the arguments of the rows
abbrev pub args_at : List rows.Job → List Args
args_at xs = map (λ j. j.args) (map job_of xs)

-- a row stands for an id exactly if a job does
pub holds_args : (i : ℕ) (xs : List rows.Job) → holds row_id i xs ≡ holds job_id i (args_at xs)
holds_args i xs = holds-map job_of id_of i xs ∙ holds-map (λ j. j.args) job_id i (map job_of xs)

-- a job that does not run may start exactly if its row fits
pub may_new : (xs : List rows.Job) (r : rows.Job) → ascends row_id xs ≡ true → holds row_id (row_id r) xs ≡ false → may_start 8 (row_id r) (args_at xs) ≡ admits row_id 8 r xs
may_new xs r a h =
    let e = holds_args (row_id r) xs in
    let n = admits_new row_id 8 r xs a h in
    let m = length-map (map job_of xs) (λ j. j.args) ∙ length-map xs job_of in
    grind arith
