-- A part that is said once, by its meaning.
use Rattle.std.proofs.Common.{◌≡◌, cond, is_some, Some, None, Err, Option, Result}
use Rattle.std.specs.Option.{option_map}
use Rattle.problems.specs.Outcomes.{then, or_else, once}
use Rattle.problems.specs.declared.error.Problem.{Problem}
use Rattle.problems.specs.declared.error.Problem.TheVariants.{Entry}
use Rattle.problems.specs.declared.expected.InEntry.{InEntry}

-- the problem of one that was said before, or that nothing was read of
pub once_err : {X Y Z W : Type 0} (f : X → Y) (said read : Option X) (again wrong e : InEntry) (next : Y → Result Z Problem) (after : Z → Result W Problem) → once (is_some said) read again wrong ≡ Err e → Err (Entry e) ≡ then (cond (is_some (option_map f said)) (Err (Entry again)) (then (or_else (option_map f read) (Entry wrong)) next)) after
once_err f (Some x) read again wrong e next after p = cc
once_err f None None again wrong e next after p = cc
once_err f None (Some x) again wrong e next after p = cc
