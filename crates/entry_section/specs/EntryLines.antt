-- The lines of an entry, each as a step on what was read.
use Rattle.std.specs.Prelude.{ℕ, Bool, true, false, cond, ◌||◌, List, [], length, is_some, Some, None, Ok, Err, codes, Option, Result, ◌==◌, nat_lt}
use Rattle.std.specs.Option.{option_map, unwrap_or}
use Rattle.std.specs.Str.{bytes_eq}
use Rattle.table.specs.Ids.{number}
use Rattle.compactions.specs.Entries.{Source, Spec, tiered, drain, spec_sources, Status, scheduled, Owner, Sub, Context, Entry, more_sources, more_subs, more_outputs}
use Rattle.table.specs.Counted.{items_of}
use Rattle.compactions.specs.Meanings.{status_of, entry_of}
use Rattle.compactions.specs.declared.refusal.Refusal.TheVariants.{Count}
use Rattle.paper_text.specs.Words.{only_word}
use Rattle.paper_text.specs.Numbers.{id_of, segment_of, held}
use Rattle.entry_section.specs.declared.draft.EntryDraft.{EntryDraft}
use Rattle.entry_section.specs.declared.draft.EntryDraft.TheVariants as drafts
use Rattle.entry_section.specs.declared.draft.Parts.{Parts}
use Rattle.problems.specs.declared.error.Limit.{Limit}
use Rattle.problems.specs.declared.error.Limit.TheVariants.{Sources, Outputs, Subcompactions, EntrySegment}
use Rattle.problems.specs.declared.error.Problem.{Problem}
use Rattle.problems.specs.declared.error.Problem.TheVariants as problems
use Rattle.problems.specs.declared.expected.InEntry.TheVariants as expected
use Rattle.problems.specs.Limits.{refusal_of}
use Rattle.problems.specs.Outcomes.{then, or_else, with_word}
use Rattle.entry_section.specs.EntryParts.{kind_in, source_in, status_in, worker_in, context_by, sub_in}

-- an entry as far as it was read; none before the line that says its kind
pub record Draft : Type 0 where
  pub id : ℕ
  pub entry : Option Entry
  pub has_segment : Bool
  pub has_status : Bool

-- an entry with another part
abbrev pub with_spec : Entry → Spec → Entry
with_spec e s = record { id = e.id; spec = s; status = e.status; outputs = e.outputs; worker = e.worker; context = e.context }

abbrev pub with_status : Entry → Status → Entry
with_status e s = record { id = e.id; spec = e.spec; status = s; outputs = e.outputs; worker = e.worker; context = e.context }

abbrev pub with_worker : Entry → Owner → Entry
with_worker e w = record { id = e.id; spec = e.spec; status = e.status; outputs = e.outputs; worker = Some w; context = e.context }

abbrev pub with_context : Entry → Context → Entry
with_context e c = record { id = e.id; spec = e.spec; status = e.status; outputs = e.outputs; worker = e.worker; context = Some c }

-- a line that changes the entry alone
abbrev pub kept : Draft → Entry → Draft
kept d e = record { id = d.id; entry = Some e; has_segment = d.has_segment; has_status = d.has_status }

-- the first line: an entry of that kind, Scheduled
abbrev pub begun : Draft → Spec → Draft
begun d s = kept d (record { id = d.id; spec = s; status = scheduled; outputs = []; worker = None; context = None })

-- the spec in a segment
abbrev pub moved : List ℕ → Spec → Spec
moved bs (tiered seg ss n) = tiered bs ss n
moved bs (drain seg ss) = drain bs ss

-- the spec in the segment that a line said, where one did
abbrev pub moved_to : Option (List ℕ) → Spec → Spec
moved_to None s = s
moved_to (Some bs) s = moved bs s

-- an entry with the segment and the status that lines said
abbrev pub completed : Option (List ℕ) → Option Status → Entry → Entry
completed seg st e = record { id = e.id; spec = moved_to seg e.spec; status = unwrap_or st e.status; outputs = e.outputs; worker = e.worker; context = e.context }

abbrev pub entry_in : Parts → Entry
entry_in p = completed (option_map items_of p.segment) (option_map status_of p.status) (entry_of p.entry)

abbrev pub parts_of : Parts → Draft
parts_of p = record { id = number p.entry.id; entry = Some (entry_in p); has_segment = is_some p.segment; has_status = is_some p.status }

abbrev pub draft_of : EntryDraft → Draft
draft_of (drafts.Named i) = record { id = number i; entry = None; has_segment = false; has_status = false }
draft_of (drafts.Begun p) = parts_of p

-- the segment that a line writes, if it has at most 16 bytes
abbrev pub moved_by : Option (Result (List ℕ) Limit) → Spec → Result Spec Problem
moved_by None s = Err (problems.Entry expected.Segment)
moved_by (Some (Err l)) s = Err (problems.Refused (refusal_of l) l)
moved_by (Some (Ok bs)) s = Ok (moved bs s)

-- once, before the sources
abbrev pub segment_line : List (List ℕ) → Draft → Entry → Result Draft Problem
segment_line ws d e =
    cond d.has_segment (Err (problems.Entry expected.OneSegment))
    (cond (length (spec_sources e.spec) == 0)
    (then (moved_by (option_map (held EntrySegment) (segment_of ws)) e.spec) (λ s.
    Ok (record { id = d.id; entry = Some (with_spec e s); has_segment = true; has_status = d.has_status })))
    (Err (problems.Entry expected.SegmentFirst)))

abbrev pub source_added : Entry → Source → Result Entry Problem
source_added e s = cond (nat_lt (length (spec_sources e.spec)) 8) (Ok (with_spec e (more_sources s e.spec))) (Err (problems.Refused Count Sources))

abbrev pub source_line : List (List ℕ) → Entry → Result Entry Problem
source_line ws e = then (or_else (source_in ws) (problems.Entry expected.Source)) (source_added e)

abbrev pub status_line : List (List ℕ) → Draft → Entry → Result Draft Problem
status_line ws d e =
    cond d.has_status (Err (problems.Entry expected.OneStatus))
    (then (or_else (with_word status_in (only_word ws)) (problems.Entry expected.Status)) (λ s.
    Ok (record { id = d.id; entry = Some (with_status e s); has_segment = d.has_segment; has_status = true })))

abbrev pub output_added : Entry → ℕ → Result Entry Problem
output_added e o = cond (nat_lt (length e.outputs) 8) (Ok (more_outputs o e)) (Err (problems.Refused Count Outputs))

abbrev pub output_line : List (List ℕ) → Entry → Result Entry Problem
output_line ws e = then (or_else (with_word id_of (only_word ws)) (problems.Entry expected.Output)) (output_added e)

abbrev pub worker_line : List (List ℕ) → Entry → Result Entry Problem
worker_line ws e =
    cond (is_some e.worker) (Err (problems.Entry expected.OneWorker))
    (then (or_else (worker_in ws) (problems.Entry expected.Worker)) (λ w. Ok (with_worker e w)))

abbrev pub context_line : List (List ℕ) → Entry → Result Entry Problem
context_line ws e =
    cond (is_some e.context) (Err (problems.Entry expected.OneContext))
    (then (or_else (with_word context_by (only_word ws)) (problems.Entry expected.Context)) (λ c. Ok (with_context e c)))

-- one subcompaction more in a context
abbrev pub sub_added : Entry → Context → Sub → Result Entry Problem
sub_added e c s = cond (nat_lt (length c.subs) 4) (Ok (with_context e (more_subs s c))) (Err (problems.Refused Count Subcompactions))

abbrev pub sub_line : List (List ℕ) → Entry → Result Entry Problem
sub_line ws e = then (or_else e.context (problems.Entry expected.ContextFirst)) (λ c. then (sub_in ws) (sub_added e c))

-- a line below the first, by its keyword; none where it is not of an entry
abbrev pub part_line : List ℕ → List (List ℕ) → Draft → Entry → Option (Result Draft Problem)
part_line k ws d e =
    cond (bytes_eq k (codes "tiered") || bytes_eq k (codes "drain")) (Some (Err (problems.Entry expected.OneKind)))
    (cond (bytes_eq k (codes "segment")) (Some (segment_line ws d e))
    (cond (bytes_eq k (codes "source")) (Some (then (source_line ws e) (λ x. Ok (kept d x))))
    (cond (bytes_eq k (codes "status")) (Some (status_line ws d e))
    (cond (bytes_eq k (codes "output")) (Some (then (output_line ws e) (λ x. Ok (kept d x))))
    (cond (bytes_eq k (codes "worker")) (Some (then (worker_line ws e) (λ x. Ok (kept d x))))
    (cond (bytes_eq k (codes "context")) (Some (then (context_line ws e) (λ x. Ok (kept d x))))
    (cond (bytes_eq k (codes "subcompaction")) (Some (then (sub_line ws e) (λ x. Ok (kept d x))))
    None)))))))

-- a line of an entry
abbrev pub entry_line : List ℕ → List (List ℕ) → Draft → Option (Result Draft Problem)
entry_line k ws d = elim d.entry [ None ↦ Some (then (kind_in k ws) (λ s. Ok (begun d s))) | Some e ↦ part_line k ws d e ]

-- the entry, if its kind was said
abbrev pub entry_read : Draft → Result Entry Problem
entry_read d = or_else d.entry (problems.Entry expected.Kind)
