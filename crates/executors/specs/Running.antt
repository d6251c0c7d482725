-- The notices that executors give name running jobs.
use Rattle.std.proofs.Common.{◌≡◌, ℕ, true, ltb, List, [], ◌∷◌, Some, None, Option, sym, refl, ◌∙◌}
use Rattle.std.specs.Option.{option_map}
use Rattle.std.specs.List.{AllByRecursion}
use Rattle.std.proofs.ByRecursion.{All-weaker}
use Rattle.std.proofs.lemmas.Bool.{cond_both, eq-eqb, or_left, or_right}
use Rattle.table.specs.Tables.{holds}
use Rattle.table.proofs.Mapped.{holds-map}
use Rattle.compactions.specs.Jobs.{Args}
use Rattle.executors.specs.Executors.{Notice, job_id, runs, names_running}
use Rattle.executors.specs.Jobs.{Job, Jobs, id_of, args_in, older, oldest_from, oldest, finish_of, oldest_notice}
use Rattle.executors.specs.Lists.{first_running}

-- the first running of a list
pub first_runs : (jobs : List Args) (ns : List Notice) → names_running jobs (first_running jobs ns) ≡ true
first_runs jobs [] = refl
first_runs jobs (n ∷ ns) = cond_both (runs jobs n) _ _ (λ o. names_running jobs o ≡ true) (λ e. e) (λ _. first_runs jobs ns)

-- every row of a table is held by it
pub all_held : {R : Type 0} (key : R → ℕ) (xs : List R) → AllByRecursion (λ x. holds key (key x) xs ≡ true) xs
all_held key [] = tt
all_held key (x ∷ xs) = (or_left _ _ (eq-eqb (key x) (key x) refl), All-weaker (λ y. holds key (key y) xs ≡ true) (λ y. holds key (key y) (x ∷ xs) ≡ true) (λ y h. or_right _ _ h) xs (all_held key xs))

-- a job seen so far, if there is one, is held
abbrev Held : List Job → Option Job → Type 0
Held js None = Unit {0}
Held js (Some j) = holds id_of (id_of j) js ≡ true

held_older : (js : List Job) (seen : Option Job) (j : Job) → Held js seen → Held js (Some j) → Held js (older seen j)
held_older js None j h k = k
held_older js (Some s) j h k = cond_both (ltb j.started s.started) _ _ (Held js) (λ _. k) (λ _. h)

held_oldest : (all : List Job) (seen : Option Job) (js : List Job) → Held all seen → AllByRecursion (λ j. holds id_of (id_of j) all ≡ true) js → Held all (oldest_from seen js)
held_oldest all seen [] h a = h
held_oldest all seen (j ∷ js) h a = held_oldest all (older seen j) js (held_older all seen j h a.0) a.1

-- the notice of a held job
held_runs : (t : Jobs) (o : Option Job) → Held t.running o → names_running (args_in t) (option_map (λ j. finish_of j.args) o) ≡ true
held_runs t None h = refl
held_runs t (Some j) h = sym (holds-map (λ k. k.args) job_id (id_of j) t.running) ∙ h

pub oldest_runs : (t : Jobs) → names_running (args_in t) (oldest_notice t) ≡ true
oldest_runs t = held_runs t (oldest t.running) (held_oldest t.running None t.running tt (all_held id_of t.running))
