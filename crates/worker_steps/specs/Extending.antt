-- Whether a job's context extends another: nothing that the other says is lost or changed.
use Rattle.std.specs.Prelude.{ℕ, Bool, true, false, ◌&&◌, List, [], ◌∷◌, Some, None, Option, ◌==◌}
use Rattle.compactions.specs.Entries.{Sub, Context}

-- the first list begins the second
abbrev pub starts_with : List ℕ → List ℕ → Bool
starts_with [] ys = true
starts_with (x ∷ xs) [] = false
starts_with (x ∷ xs) (y ∷ ys) = x == y && starts_with xs ys

-- the same range, and outputs at most added
abbrev pub sub_extends : Sub → Sub → Bool
sub_extends old new = old.range == new.range && starts_with old.outputs new.outputs

-- as many subcompactions, each of which extends the one at its place
abbrev pub subs_extend : List Sub → List Sub → Bool
subs_extend [] [] = true
subs_extend [] (y ∷ ys) = false
subs_extend (x ∷ xs) [] = false
subs_extend (x ∷ xs) (y ∷ ys) = sub_extends x y && subs_extend xs ys

-- both absent, or equal
abbrev pub same_retention : Option ℕ → Option ℕ → Bool
same_retention None None = true
same_retention None (Some b) = false
same_retention (Some a) None = false
same_retention (Some a) (Some b) = a == b

-- the new context extends the old
abbrev pub context_extends : Context → Context → Bool
context_extends old new = same_retention old.retention new.retention && subs_extend old.subs new.subs

-- the context of a row may stand over that of its entry: an absent one always, and any over an absent one
abbrev pub extends : Option Context → Option Context → Bool
extends old None = true
extends None (Some new) = true
extends (Some old) (Some new) = context_extends old new
