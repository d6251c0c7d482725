-- A test that a caller gives.
use Rattle.std.specs.Prelude.{◌≡◌, Bool}
use Rattle.std.specs.Fn.{Shared, FnReturnsAt}
use denote.Ref.{Bor}

-- whatever it answers of an item is what p says of it
abbrev pub Answers : {F X : Type 0} → Shared F (Bor X × Unit {0}) Bool → F → (X → Bool) → Type 0
Answers {F} {X} test keep p = (x : X) (answer : Bool) → FnReturnsAt test keep x answer → answer ≡ p x
