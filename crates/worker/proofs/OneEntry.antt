-- Works on one entry: what an attempt comes to by its entry and by the answer to its update.
use Rattle.std.proofs.Common.{◌≡◌, ℕ, Bool, true, false, List, Some, None, Option, Result, sym, ap, ◌∙◌}
use Rattle.table.specs.Tables.{lookup, holds}
use Rattle.table.proofs.Proved.{lawful}
use Rattle.compactions.specs.Entries.{Entry}
use Rattle.compactions.specs.Trees.{Manifest}
use Rattle.executors.specs.Clocks.{Readings}
use Rattle.stores.specs.Records.{Record, entry_id}
use Rattle.stores.specs.Stores.{Store, read, got, UpdateAnswer, update}
use Rattle.worker_steps.specs.States.{Settings, Held, State, state}
use Rattle.worker_steps.specs.Owning.{under}
use Rattle.worker_steps.specs.Effects.{Effect, effect_free, Turn, ends, on_update}
use Rattle.worker_steps.specs.Looks.{held_after, on_read}
use Rattle.worker_steps.specs.Releases.{Settled, written, dropped, stuck, entry_write, if_under}
use Rattle.worker_steps.proofs.Rows.{held}
use Rattle.worker.specs.Settling.{if_own}
use Rattle.worker.specs.EntryWorks.{EntryWork, entry_read, entry_attempt}

-- an own entry is the one that was looked up
pub own_found : (n : ℕ) (o : Option Entry) (e : Entry) → Some e ≡ if_own n o → o ≡ Some e
own_found n None e p = cc
own_found n (Some x) e p = by (under n x) p
  where
    by : (b : Bool) → Some e ≡ elim b [ true ↦ Some x | false ↦ None ] → Some x ≡ Some e
    by true q = sym q
    by false q = cc

pub own_held : (n i : ℕ) (es : List Entry) (e : Entry) → Some e ≡ if_own n (lookup entry_id i es) → holds entry_id i es ≡ true
own_held n i es e p = held entry_id i e es (own_found n (lookup entry_id i es) e p)

pub own_id : (n i : ℕ) (es : List Entry) (e : Entry) → Some e ≡ if_own n (lookup entry_id i es) → e.id ≡ i
own_id n i es e p = ((lawful entry_id).lookup_has i es e (own_found n (lookup entry_id i es) e p)).1

-- an attempt on an own entry
pub if_own_some : (n : ℕ) (o : Option Entry) (e : Entry) (w : State) (next : Entry → State → Effect (Turn Settled)) → Some e ≡ if_own n o → if_under n o w next ≡ next e w
if_own_some n None e w next p = cc
if_own_some n (Some x) e w next p = by (under n x) p
  where
    by : (b : Bool) → Some e ≡ elim b [ true ↦ Some x | false ↦ None ] → elim b [ true ↦ next x w | false ↦ effect_free (ends dropped) w ] ≡ next e w
    by true q = let z : x ≡ e = cc in ap (λ y. next y w) z
    by false q = cc

-- the draft that was handed in
pub handed : (d d' : Record) (st : Store) (ua : UpdateAnswer) (bad : _ → Settled) → d' ≡ d → ua ≡ (update d' st).answer → on_update ua written bad ≡ on_update (update d st).answer written bad
handed d d' st ua bad e p = ap (λ x. on_update x written bad) (p ∙ ap (λ x. (update x st).answer) e)

-- an attempt that read the record and found the entry
module _ (x : EntryWork) (s : Settings) (i a : ℕ) (h : Held) (st : Store) (c : Readings) (ms : List (Result Manifest ℕ)) (h₁ : Held) (st₁ : Store) (looked : h₁ ≡ held_after s.number (read st).answer h) (after : st₁ ≡ (read st).after) (r : Record) (found : (read st).answer ≡ got r) where
  pub entry_found : (e : Entry) → Some e ≡ if_own s.number (lookup entry_id i r.entries) → entry_attempt x s i a (state h st c ms) ≡ entry_write x.work i a r (x.changed s.number c e) (state h₁ st₁ (x.clock c) ms)
  entry_found e own =
      ap (λ y. on_read stuck x.work (Some i) a y (state (held_after s.number (read st).answer h) (read st).after c ms) (entry_read x s.number i a)) found
      ∙ ap (λ y. entry_read x s.number i a r (state y (read st).after c ms)) (sym looked)
      ∙ ap (λ y. entry_read x s.number i a r (state h₁ y c ms)) (sym after)
      ∙ if_own_some s.number (lookup entry_id i r.entries) e (state h₁ st₁ c ms) _ own
