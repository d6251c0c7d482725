-- Drafts: their entries are in order and few, and an entry that takes the place of another is never refused.
use Rattle.std.proofs.Common.{◌≡◌, ℕ, ◌≤◌, true, cond, List, ◌∷◌, length, is_ok, Result, sym, ap, ◌∙◌, arith}
use Rattle.std.specs.List.{AllByRecursion}
use Rattle.std.proofs.lemmas.List.{length-map, length-take-le}
use Rattle.std.proofs.lemmas.Bool.{le-leb}
use Rattle.table.specs.Tables.{Ascending, holds, put, admits}
use Rattle.table.proofs.Order.{ascending_from}
use Rattle.table.proofs.Mapped.{ascends-map}
use Rattle.compactions.specs.Entries.{Entry}
use Rattle.compactions.specs.Meanings.{entry_of}
use Rattle.compactions.specs.Refusals.{refused_with, unless}
use Rattle.compactions.specs.declared.compactor_state.Compaction.{Compaction}
use Rattle.compactions.specs.declared.refusal.Refusal.{Refusal}
use Rattle.stores.specs.Records.{Record, entry_id, with_entries}
use Rattle.stores.specs.Meanings.{entries_of, draft_of}
use Rattle.stores.specs.declared.draft.Draft.{Draft}
use Rattle.worker_steps.specs.Claims.{claimed_as, claim_draft}
use Rattle.worker_steps.proofs.Rows.{length-put_held}
use Rattle.worker_steps.proofs.Walks.{still_held}
use Rattle.worker.proofs.Pushes.{taken}

pub draft_ascends : (d : Draft) → Ascending entry_id (draft_of d).entries
draft_ascends d = ascending_from entry_id (draft_of d).entries (sym (ascends-map entry_of entry_id (entries_of d.record)) ∙ d.record.entries.ascending)

pub draft_few : (d : Draft) → length (draft_of d).entries ≤ 32
draft_few d =
    let rows = d.record.entries.rows in
    let n = length-map (entries_of d.record) entry_of in
    let l : rows.len ≤ length rows.items = omega (arith, rows.within, rows.whole) in
    omega (arith, n, length-take-le rows.len rows.items l, rows.within)

pub inserted : (d d' : Draft) (c : Compaction) (r : Result (Unit {0}) Refusal) → holds entry_id (entry_of c).id (draft_of d).entries ≡ true → refused_with r ≡ unless (admits entry_id 32 (entry_of c) (draft_of d).entries) 1 → draft_of d' ≡ cond (is_ok r) (with_entries (draft_of d) (put entry_id (entry_of c) (draft_of d).entries)) (draft_of d) → draft_of d' ≡ with_entries (draft_of d) (put entry_id (entry_of c) (draft_of d).entries)
inserted d d' c r h said e =
    let same = length-put_held entry_id (entry_of c) (draft_of d).entries (draft_ascends d) h in
    let few : length (put entry_id (entry_of c) (draft_of d).entries) ≤ 32 = omega (arith, same, draft_few d) in
    let ok = taken r _ 1 said (le-leb _ 32 few) in
    e ∙ ap (λ b. cond b (with_entries (draft_of d) (put entry_id (entry_of c) (draft_of d).entries)) (draft_of d)) ok

-- a draft that has got to the entries `rest`
pub record Marking (n stamp : ℕ) (cs : List Entry) (r₀ : Record) (rest : List Entry) (r : Record) : Type 0 where
  pub whole : claim_draft n stamp rest r ≡ claim_draft n stamp cs r₀
  pub held : AllByRecursion (λ c. holds entry_id c.id r.entries ≡ true) rest

pub marking_more : {n stamp : ℕ} {cs : List Entry} {r₀ : Record} {e : Entry} {rest : List Entry} {r : Record} (r' : Record) → Marking n stamp cs r₀ (e ∷ rest) r → r' ≡ with_entries r (put entry_id (claimed_as n stamp e) r.entries) → Marking n stamp cs r₀ rest r'
marking_more {n} {stamp} {cs} {r₀} {e} {rest} {r} r' m q = record {
  whole = rw q m.whole;
  held = rw q (still_held (claimed_as n stamp e) r.entries rest m.held.1);
}
