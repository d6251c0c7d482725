-- What a record of the code means.
use Rattle.std.specs.Prelude.{List, map, Some, None, Ok, Err, Option, Result}
use Rattle.table.specs.Fixed.{rows_in}
use Rattle.table.specs.Ids.{number}
use Rattle.compactions.specs.Meanings.{entry_of}
use Rattle.compactions.specs.declared.compactor_state.Compaction.{Compaction}
use Rattle.stores.specs.declared.record.Compactions.{Compactions}
use Rattle.stores.specs.declared.draft.Draft.{Draft}
use Rattle.stores.specs.declared.compactions_store.Step as step-type
use Rattle.stores.specs.declared.compactions_store.Step.TheVariants as steps
use Rattle.stores.specs.declared.compactions_store.StoreFault.{StoreFault}
use Rattle.stores.specs.declared.compactions_store.Updated.{Updated}
use Rattle.stores.specs.declared.compactions_store.Updated.TheVariants.{Landed, Conflict}
use Rattle.stores.specs.declared.interference.Edit as edit-type
use Rattle.stores.specs.declared.interference.Edit.TheVariants as edits
use Rattle.stores.specs.declared.interference.Outcome as outcome-type
use Rattle.stores.specs.declared.interference.Outcome.TheVariants as outcomes
use Rattle.stores.specs.Records.{Record}
use Rattle.stores.specs.Stores.{Edit, create, puts, removes, Outcome, clear, down, lost, Step, reading, updating, Fault, ReadAnswer, got, absent, unread, UpdateAnswer, landed, conflict, unwritten}

-- the entries that count
abbrev pub entries_of : Compactions → List Compaction
entries_of c = rows_in c.entries

abbrev pub record_of : Compactions → Record
record_of c = record { version = c.version; entries = map entry_of (entries_of c) }

-- a draft: the version that was read, and the entries to hand in
abbrev pub draft_of : Draft → Record
draft_of d = record_of d.record

abbrev pub step_of : step-type.Step → Step
step_of steps.Read = reading
step_of steps.Update = updating

abbrev pub fault_of : StoreFault → Fault
fault_of f = record { step = step_of f.step; cause = f.cause }

abbrev pub read_answer_of : Result (Option Draft) StoreFault → ReadAnswer
read_answer_of (Ok None) = absent
read_answer_of (Ok (Some d)) = got (draft_of d)
read_answer_of (Err f) = unread (fault_of f)

abbrev pub update_answer_of : Result Updated StoreFault → UpdateAnswer
update_answer_of (Ok Landed) = landed
update_answer_of (Ok Conflict) = conflict
update_answer_of (Err f) = unwritten (fault_of f)

abbrev pub edit_of : edit-type.Edit → Edit
edit_of edits.Create = create
edit_of (edits.Put c) = puts (entry_of c)
edit_of (edits.Remove u) = removes (number u)

abbrev pub outcome_of : outcome-type.Outcome → Outcome
outcome_of outcomes.Clear = clear
outcome_of (outcomes.Down k) = down k
outcome_of (outcomes.Lost k) = lost k
