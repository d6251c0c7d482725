-- The argument check: what a job is started with, looked up in a manifest.
use Rattle.std.specs.Prelude.{ℕ, Bool, true, false, cond, List, [], ◌∷◌, Some, None, Option, ◌==◌}
use Rattle.compactions.specs.Entries.{Entry, Spec, tiered, drain, Source, run, view}
use Rattle.compactions.specs.Trees.{View, Run, Tree, Manifest, views_of, runs_of, tree_for}
use Rattle.compactions.specs.Jobs.{Args}

-- of equal ids the last counts
abbrev pub last_under : {A : Type 0} → (A → ℕ) → ℕ → List A → Option A → Option A
last_under key k [] seen = seen
last_under key k (x ∷ xs) seen = last_under key k xs (cond (k == key x) (Some x) seen)

-- the view that a source asks for
abbrev pub asked_view : Source → Option ℕ
asked_view (run i) = None
asked_view (view i) = Some i

-- the sorted run that a source asks for
abbrev pub asked_run : Source → Option ℕ
asked_run (run i) = Some i
asked_run (view i) = None

-- a row and then the others, if all are there
abbrev pub both : {A : Type 0} → Option A → Option (List A) → Option (List A)
both None rest = None
both (Some x) None = None
both (Some x) (Some xs) = Some (x ∷ xs)

-- what one source adds before the others: nothing if it asks for something else
abbrev pub adding : {A : Type 0} → (A → ℕ) → Option ℕ → List A → Option (List A) → Option (List A)
adding key None rows rest = rest
adding key (Some i) rows rest = both (last_under key i rows None) rest

-- the rows that the sources ask for, in the sources' order, if none is missing
abbrev pub found : {A : Type 0} → (A → ℕ) → (Source → Option ℕ) → List Source → List A → Option (List A)
found key asked [] rows = Some []
found key asked (s ∷ ss) rows = adding key (asked s) rows (found key asked ss rows)

-- no runs, or the last one is the destination
abbrev pub last_is : ℕ → List Run → Bool
last_is d [] = true
last_is d (r ∷ []) = d == r.id
last_is d (r ∷ (s ∷ rs)) = last_is d (s ∷ rs)

-- the last-run mark: the tree exists, and its last run is the destination, or it has none
abbrev pub into_last : ℕ → Option Tree → Bool
into_last d None = false
into_last d (Some t) = last_is d t.runs

-- the arguments, if all views and all runs were found
abbrev pub args_with : Entry → ℕ → Option Tree → Manifest → Option (List View) → Option (List Run) → Option Args
args_with e d t m None rs = None
args_with e d t m (Some vs) None = None
args_with e d t m (Some vs) (Some rs) = Some (record {
  id = e.id;
  destination = d;
  views = vs;
  runs = rs;
  tick = m.tick;
  last_run = into_last d t;
  retention = m.snapshot;
  context = e.context;
})

-- a drain never passes
abbrev pub args_by : Spec → Entry → Manifest → Option Args
args_by (tiered seg ss d) e m =
    let t = tree_for seg m in
    args_with e d t m (found (λ v. v.id) asked_view ss (views_of t)) (found (λ r. r.id) asked_run ss (runs_of t))
args_by (drain seg ss) e m = None

-- the argument check of an entry: what its job is started with, if it passes
abbrev pub job_args : Entry → Manifest → Option Args
job_args e m = args_by e.spec e m
