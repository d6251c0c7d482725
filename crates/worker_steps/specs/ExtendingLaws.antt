-- What it comes to that a context extends another, by the places of its subcompactions and outputs.
use Rattle.std.specs.Prelude.{◌≡◌, ℕ, true, length, Some, Decides}
use Rattle.std.specs.List.{slice_get}
use Rattle.compactions.specs.Entries.{Sub, Context}
use Rattle.worker_steps.specs.Extending.{context_extends}

-- a subcompaction keeps its range, and each recorded output at its place
pub record SubKept (old new : Sub) : Type 0 where
  pub range : new.range ≡ old.range
  pub outputs : (i sst : ℕ) → slice_get old.outputs i ≡ Some sst → slice_get new.outputs i ≡ Some sst

-- a context keeps its retention, present or absent, the number of its subcompactions, and each of them at its place
pub record ContextKept (old new : Context) : Type 0 where
  pub retention : new.retention ≡ old.retention
  pub count : length new.subs ≡ length old.subs
  pub subs : (k : ℕ) (s t : Sub) → slice_get old.subs k ≡ Some s → slice_get new.subs k ≡ Some t → SubKept s t

-- a context extends exactly those that it keeps, itself among them, and what they extend
pub record ExtendingLaws : Type 0 where
  pub exactly : (old new : Context) → Decides (context_extends old new) (ContextKept old new)
  pub itself : (c : Context) → context_extends c c ≡ true
  pub transitive : (a b c : Context) → context_extends a b ≡ true → context_extends b c ≡ true → context_extends a c ≡ true
