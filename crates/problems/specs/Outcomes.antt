-- What reading a line gives.
use Rattle.std.specs.Prelude.{ℕ, Bool, true, false, List, Some, None, Ok, Err, Option, Result}

-- a result by the meaning of its value
abbrev pub read_as : {X Y E : Type 0} → (X → Y) → Result X E → Result Y E
read_as f (Ok x) = Ok (f x)
read_as f (Err e) = Err e

-- the next step, on a value that was read
abbrev pub then : {X Y E : Type 0} → Result X E → (X → Result Y E) → Result Y E
then (Ok x) f = f x
then (Err e) f = Err e

-- a value, or what was expected
abbrev pub or_else : {X E : Type 0} → Option X → E → Result X E
or_else None e = Err e
or_else (Some x) e = Ok x

-- what a word writes, where there is a word
abbrev pub with_word : {X : Type 0} → (List ℕ → Option X) → Option (List ℕ) → Option X
with_word f None = None
with_word f (Some w) = f w

-- a part that is said once: `again` where it was said before, `wrong` where nothing was read
abbrev pub once : {X E : Type 0} → Bool → Option X → E → E → Result X E
once true read again wrong = Err again
once false read again wrong = or_else read wrong
