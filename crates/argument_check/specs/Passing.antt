-- The argument check in the subject's words: when an entry passes, and what its job is started with.
use Rattle.std.specs.Prelude.{◌≡◌, ℕ, ◌⊎◌, List, [], ◌∷◌, ◌++◌, Some, None, Decides, Option, ◌≢◌}
use Rattle.std.specs.List.{AllByRecursion}
use Rattle.compactions.specs.Entries.{Entry, Source, run, view, tiered}
use Rattle.compactions.specs.Trees.{View, Run, Tree, Segment, Manifest, views_of, runs_of}
use Rattle.compactions.specs.Jobs.{Args}
use Rattle.argument_check.specs.Answers.{Answer, passes, refused}

-- the item stands in the list
abbrev pub Member : {A : Type 0} → A → List A → Type 0
Member x [] = ⊥
Member x (y ∷ ys) = (x ≡ y) ⊎ Member x ys

-- the tree of a segment: the root for the empty one, else that of the segment with that very prefix; None where no segment has it
abbrev pub TreeOf : Manifest → List ℕ → Option Tree → Type 0
TreeOf m p None = (p ≢ []) × ((s : Segment) → Member s m.segments → s.prefix ≢ p)
TreeOf m p (Some t) = ((p ≡ []) × (t ≡ m.root)) ⊎ ((p ≢ []) × ((s : Segment) × Member s m.segments × (s.prefix ≡ p) × (s.tree ≡ t)))

-- what a source asks for is in the tree
abbrev pub Present : Option Tree → Source → Type 0
Present t (run i) = (r : Run) × Member r (runs_of t) × (r.id ≡ i)
Present t (view i) = (v : View) × Member v (views_of t) × (v.id ≡ i)

-- the ids of the views among the sources, in their order
abbrev pub asked_views : List Source → List ℕ
asked_views [] = []
asked_views (run i ∷ ss) = asked_views ss
asked_views (view i ∷ ss) = i ∷ asked_views ss

-- the ids of the runs
abbrev pub asked_runs : List Source → List ℕ
asked_runs [] = []
asked_runs (run i ∷ ss) = i ∷ asked_runs ss
asked_runs (view i ∷ ss) = asked_runs ss

-- the row has the id, and no row after it has
abbrev pub LastWith : {A : Type 0} → (A → ℕ) → ℕ → List A → A → Type 0
LastWith {A} key i rows x = (front : List A) × (back : List A) × (rows ≡ front ++ (x ∷ back)) × (key x ≡ i) × AllByRecursion (λ y. key y ≢ i) back

-- one row for each id, in the ids' order: the last with that id
abbrev pub LastEach : {A : Type 0} → (A → ℕ) → List A → List ℕ → List A → Type 0
LastEach key rows [] [] = Unit {0}
LastEach key rows [] (x ∷ xs) = ⊥
LastEach key rows (i ∷ is) [] = ⊥
LastEach key rows (i ∷ is) (x ∷ xs) = LastWith key i rows x × LastEach key rows is xs

-- the tree exists, and has no runs or the destination as its last one
abbrev pub IntoLast : ℕ → Option Tree → Type 0
IntoLast d None = ⊥
IntoLast d (Some t) = (t.runs ≡ []) ⊎ ((front : List Run) × (r : Run) × (t.runs ≡ front ++ (r ∷ [])) × (r.id ≡ d))

-- the entry merges sources ss of its segment's tree t into the run d, and all of them are there
pub record Startable (e : Entry) (m : Manifest) (seg : List ℕ) (ss : List Source) (d : ℕ) (t : Option Tree) : Type 0 where
  pub spec : e.spec ≡ tiered seg ss d
  pub tree : TreeOf m seg t
  pub sources : AllByRecursion (Present t) ss

-- what the job is started with
pub record StartedWith (e : Entry) (m : Manifest) (ss : List Source) (d : ℕ) (t : Option Tree) (a : Args) : Type 0 where
  pub id : a.id ≡ e.id
  pub destination : a.destination ≡ d
  pub views : LastEach (λ v. v.id) (views_of t) (asked_views ss) a.views
  pub runs : LastEach (λ r. r.id) (runs_of t) (asked_runs ss) a.runs
  pub tick : a.tick ≡ m.tick
  pub last_run : Decides a.last_run (IntoLast d t)
  pub retention : a.retention ≡ m.snapshot
  pub context : a.context ≡ e.context

-- an entry passes exactly if it is startable; otherwise the refusal is 10
abbrev pub Passing : Entry → Manifest → Answer → Type 0
Passing e m (passes a) = (seg : List ℕ) × (ss : List Source) × (d : ℕ) × (t : Option Tree) × Startable e m seg ss d t × StartedWith e m ss d t a
Passing e m (refused n) = (n ≡ 10) × ((seg : List ℕ) (ss : List Source) (d : ℕ) (t : Option Tree) → Startable e m seg ss d t → ⊥)
