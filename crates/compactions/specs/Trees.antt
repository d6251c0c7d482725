-- A manifest by its meaning: trees of views and sorted runs, the root and those of named segments.
use Rattle.std.specs.Prelude.{ℕ, cond, List, [], ◌∷◌, ◌++◌, ℤ, Some, None, Option}
use Rattle.std.specs.Str.{bytes_eq}

-- a view of an SST
pub record View : Type 0 where
  pub id : ℕ
  pub sst : ℕ

-- a sorted run
pub record Run : Type 0 where
  pub id : ℕ
  pub views : List View

-- views and sorted runs
pub record Tree : Type 0 where
  pub views : List View
  pub runs : List Run

-- the tree of the segment with a prefix
pub record Segment : Type 0 where
  pub prefix : List ℕ
  pub tree : Tree

-- the root tree, the segments' trees, the tick and the snapshot number
pub record Manifest : Type 0 where
  pub root : Tree
  pub segments : List Segment
  pub tick : ℤ
  pub snapshot : ℕ

-- a tree's views; a missing tree has none
abbrev pub views_of : Option Tree → List View
views_of None = []
views_of (Some t) = t.views

-- a tree's runs; a missing tree has none
abbrev pub runs_of : Option Tree → List Run
runs_of None = []
runs_of (Some t) = t.runs

-- a run with one view more
abbrev pub more_views : View → Run → Run
more_views v r = record { id = r.id; views = r.views ++ (v ∷ []) }

-- a tree with one view more
abbrev pub more_tree_views : View → Tree → Tree
more_tree_views v t = record { views = t.views ++ (v ∷ []); runs = t.runs }

-- a tree with one run more
abbrev pub more_tree_runs : Run → Tree → Tree
more_tree_runs r t = record { views = t.views; runs = t.runs ++ (r ∷ []) }

-- a manifest with one segment more
abbrev pub more_segments : Segment → Manifest → Manifest
more_segments b m = record { root = m.root; segments = m.segments ++ (b ∷ []); tick = m.tick; snapshot = m.snapshot }

-- the tree of the segment with that prefix
abbrev pub named : List ℕ → List Segment → Option Tree
named p [] = None
named p (s ∷ ss) = cond (bytes_eq p s.prefix) (Some s.tree) (named p ss)

-- the root for the empty segment, else the segment with that very prefix
abbrev pub tree_for : List ℕ → Manifest → Option Tree
tree_for [] m = Some m.root
tree_for (b ∷ bs) m = named (b ∷ bs) m.segments
