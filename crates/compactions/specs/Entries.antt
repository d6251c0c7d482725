-- A compaction by its meaning: ids are numbers, counted rows are lists.
use Rattle.std.specs.Prelude.{ℕ, List, [], ◌∷◌, ◌++◌, Some, None, Option}

-- an entry's status
pub data Status : Type 0 where
  submitted : Status
  scheduled : Status
  running : Status
  compacted : Status
  completed : Status
  failed : Status

-- a sorted run or a view, by its id
pub data Source : Type 0 where
  run : ℕ → Source
  view : ℕ → Source

-- segment, sources and, unless it is a drain, the destination
pub data Spec : Type 0 where
  tiered : List ℕ → List Source → ℕ → Spec
  drain : List ℕ → List Source → Spec

-- the worker in an entry: its number and its stamp
pub record Owner : Type 0 where
  pub number : ℕ
  pub stamp : ℕ

-- a subcompaction: its range number and its outputs
pub record Sub : Type 0 where
  pub range : ℕ
  pub outputs : List ℕ

-- how far a job has come
pub record Context : Type 0 where
  pub retention : Option ℕ
  pub subs : List Sub

-- one compaction
pub record Entry : Type 0 where
  pub id : ℕ
  pub spec : Spec
  pub status : Status
  pub outputs : List ℕ
  pub worker : Option Owner
  pub context : Option Context

-- the segment that a spec names
abbrev pub spec_segment : Spec → List ℕ
spec_segment (tiered seg ss d) = seg
spec_segment (drain seg ss) = seg

-- its sources
abbrev pub spec_sources : Spec → List Source
spec_sources (tiered seg ss d) = ss
spec_sources (drain seg ss) = ss

-- its destination; a drain has none
abbrev pub spec_destination : Spec → Option ℕ
spec_destination (tiered seg ss d) = Some d
spec_destination (drain seg ss) = None

-- a spec with one source more
abbrev pub more_sources : Source → Spec → Spec
more_sources s (tiered seg ss d) = tiered seg (ss ++ (s ∷ [])) d
more_sources s (drain seg ss) = drain seg (ss ++ (s ∷ []))

-- a subcompaction with one output more
abbrev pub more_sub_outputs : ℕ → Sub → Sub
more_sub_outputs o s = record { range = s.range; outputs = s.outputs ++ (o ∷ []) }

-- a context with one subcompaction more
abbrev pub more_subs : Sub → Context → Context
more_subs s c = record { retention = c.retention; subs = c.subs ++ (s ∷ []) }

-- an entry with one output more
abbrev pub more_outputs : ℕ → Entry → Entry
more_outputs o e = record {
  id = e.id;
  spec = e.spec;
  status = e.status;
  outputs = e.outputs ++ (o ∷ []);
  worker = e.worker;
  context = e.context;
}
