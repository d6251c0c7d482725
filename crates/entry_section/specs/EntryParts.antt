-- The parts of an entry, as the words of a line write them.
use Rattle.std.specs.Prelude.{ℕ, cond, List, [], ◌∷◌, length, Some, None, Ok, Err, codes, Option, Result, nat_lt}
use Rattle.std.specs.Option.{option_map}
use Rattle.std.specs.Str.{bytes_eq}
use Rattle.compactions.specs.Entries.{Source, run, view, Spec, tiered, drain, Status, submitted, scheduled, running, compacted, completed, failed, Owner, Sub, Context, more_sub_outputs}
use Rattle.compactions.specs.declared.refusal.Refusal.TheVariants.{Count}
use Rattle.paper_text.specs.Words.{only_word}
use Rattle.paper_text.specs.Numbers.{u32_of, u64_of, id_of}
use Rattle.problems.specs.declared.error.Limit.TheVariants.{SubcompactionOutputs}
use Rattle.problems.specs.declared.error.Problem.{Problem}
use Rattle.problems.specs.declared.error.Problem.TheVariants as problems
use Rattle.problems.specs.declared.expected.InEntry.TheVariants as expected
use Rattle.problems.specs.Outcomes.{then, or_else, with_word}

-- a drain, alone on its line
abbrev pub drain_in : List (List ℕ) → Result Spec Problem
drain_in [] = Ok (drain [] [])
drain_in (w ∷ ws) = Err (problems.Entry expected.DrainAlone)

-- a merge into a destination
abbrev pub tiered_in : List (List ℕ) → Result Spec Problem
tiered_in ws = or_else (option_map (tiered [] []) (with_word u32_of (only_word ws))) (problems.Entry expected.Destination)

-- the kind of an entry
abbrev pub kind_in : List ℕ → List (List ℕ) → Result Spec Problem
kind_in k ws =
    cond (bytes_eq k (codes "tiered")) (tiered_in ws)
    (cond (bytes_eq k (codes "drain")) (drain_in ws)
    (Err (problems.Entry expected.Kind)))

-- a view by its id, or a run by its number
abbrev pub source_by : List ℕ → List ℕ → Option Source
source_by kind w =
    cond (bytes_eq kind (codes "view")) (option_map view (id_of w))
    (cond (bytes_eq kind (codes "run")) (option_map run (u32_of w)) None)

abbrev pub source_in : List (List ℕ) → Option Source
source_in [] = None
source_in (kind ∷ ws) = with_word (source_by kind) (only_word ws)

abbrev pub status_in : List ℕ → Option Status
status_in w =
    cond (bytes_eq w (codes "submitted")) (Some submitted)
    (cond (bytes_eq w (codes "scheduled")) (Some scheduled)
    (cond (bytes_eq w (codes "running")) (Some running)
    (cond (bytes_eq w (codes "compacted")) (Some compacted)
    (cond (bytes_eq w (codes "completed")) (Some completed)
    (cond (bytes_eq w (codes "failed")) (Some failed) None)))))

-- a worker's number and its stamp
abbrev pub worker_by : Option ℕ → Option ℕ → Option Owner
worker_by None s = None
worker_by (Some n) None = None
worker_by (Some n) (Some s) = Some (record { number = n; stamp = s })

abbrev pub worker_in : List (List ℕ) → Option Owner
worker_in [] = None
worker_in (n ∷ ws) = with_word (λ w. worker_by (u32_of n) (u64_of w)) (only_word ws)

-- a context with its retention number, or without one
abbrev pub context_by : List ℕ → Option Context
context_by w =
    cond (bytes_eq w (codes "none")) (Some (record { retention = None; subs = [] }))
    (option_map (λ n. record { retention = Some n; subs = [] }) (u64_of w))

-- one output more in a subcompaction
abbrev pub sub_output_added : ℕ → Sub → Result Sub Problem
sub_output_added o s = cond (nat_lt (length s.outputs) 4) (Ok (more_sub_outputs o s)) (Err (problems.Refused Count SubcompactionOutputs))

-- the same, as a word writes it
abbrev pub with_output : List ℕ → Sub → Result Sub Problem
with_output w s = then (or_else (id_of w) (problems.Entry expected.Output)) (λ o. sub_output_added o s)

-- the outputs of a subcompaction
abbrev pub with_outputs : List (List ℕ) → Sub → Result Sub Problem
with_outputs [] s = Ok s
with_outputs (w ∷ ws) s = then (with_output w s) (with_outputs ws)

-- a range's number, then its outputs
abbrev pub sub_in : List (List ℕ) → Result Sub Problem
sub_in [] = Err (problems.Entry expected.Subcompaction)
sub_in (r ∷ ws) = then (or_else (u32_of r) (problems.Entry expected.Subcompaction)) (λ n. with_outputs ws (record { range = n; outputs = [] }))
