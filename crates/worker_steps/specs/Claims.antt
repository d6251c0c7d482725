-- A claim: which entries a poll chooses, and the update that makes them Running under the worker's number.
use Rattle.std.specs.Prelude.{ℕ, ◌+◌, ◌-◌, true, false, List, [], ◌∷◌, map, Some, None, nat_lt}
use Rattle.table.specs.Tables.{holds, put, strike}
use Rattle.compactions.specs.Entries.{running, Entry}
use Rattle.compactions.specs.Jobs.{Args}
use Rattle.stores.specs.Records.{Record, entry_id, with_entries}
use Rattle.stores.specs.Stores.{read, UpdateAnswer, landed, conflict, unwritten, update}
use Rattle.executors.specs.Executors.{job_id}
use Rattle.executors.specs.Clocks.{reading, passed, stamped}
use Rattle.worker_steps.specs.Faults.{claim, Fault, fault, store_failed, not_landed}
use Rattle.worker_steps.specs.States.{Settings, JobRow, row_id, self_id, Held, with_left, with_jobs, State, state, holding}
use Rattle.worker_steps.specs.Owning.{unclaimed}
use Rattle.worker_steps.specs.Effects.{claims, noted, Effect, Turn, ends, on_update, retry}
use Rattle.worker_steps.specs.Looks.{looked, on_read}

-- what a walk over the entries leaves: table and jobs, the chosen entries, and how many jobs it stopped
pub record Walked : Type 0 where
  pub table : List JobRow
  pub jobs : List Args
  pub chosen : List Entry
  pub stopped : ℕ

-- one more stopped
abbrev pub and_stopped : Walked → Walked
and_stopped x = record { table = x.table; jobs = x.jobs; chosen = x.chosen; stopped = x.stopped + 1 }

-- one more chosen
abbrev pub and_chosen : Entry → Walked → Walked
and_chosen e x = record { table = x.table; jobs = x.jobs; chosen = e ∷ x.chosen; stopped = x.stopped }

-- of the entries that nobody has taken, one that has a row is stopped, and any other chosen while there is room
abbrev pub walked : List Entry → ℕ → List JobRow → List Args → Walked
walked [] room t j = record { table = t; jobs = j; chosen = []; stopped = 0 }
walked (e ∷ es) room t j = elim (unclaimed e) [
  | true ↦ elim (holds row_id e.id t) [
    | true ↦ and_stopped (walked es room (strike row_id e.id t) (strike job_id e.id j))
    | false ↦ elim (nat_lt 0 room) [ true ↦ and_chosen e (walked es (room - 1) t j) | false ↦ walked es room t j ]
  ]
  | false ↦ walked es room t j
]

-- the entry Running under a number, with a stamp
abbrev pub claimed_as : ℕ → ℕ → Entry → Entry
claimed_as n stamp e = record {
  id = e.id;
  spec = e.spec;
  status = running;
  outputs = e.outputs;
  worker = Some (record { number = n; stamp = stamp });
  context = e.context;
}

-- all of them put in
abbrev pub put_all : List Entry → List Entry → List Entry
put_all [] es = es
put_all (c ∷ cs) es = put_all cs (put entry_id c es)

-- the draft of a claim
abbrev pub claim_draft : ℕ → ℕ → List Entry → Record → Record
claim_draft n stamp cs r = with_entries r (put_all (map (claimed_as n stamp) cs) r.entries)

-- the list with the ids of these entries
abbrev pub joined : List Entry → List ℕ → List ℕ
joined [] l = l
joined (e ∷ es) l = joined es (put self_id e.id l)

-- what a claim comes to: none chosen, landed at an attempt, or a fault with the entries of its update
pub data Claimed : Type 0 where
  none_chosen : Claimed
  landed_at : ℕ → List Entry → Claimed
  broken : Fault → List Entry → Claimed

-- a fault before any update
abbrev pub broken_bare : Fault → Claimed
broken_bare f = broken f []

-- a fault of the update lists the chosen
abbrev pub list_if_faulted : UpdateAnswer → List Entry → Held → Held
list_if_faulted landed cs h = h
list_if_faulted conflict cs h = h
list_if_faulted (unwritten f) cs h = with_left h (joined cs h.left)

-- the update of a claim, after a reading of the clock
abbrev pub claim_write : Settings → ℕ → ℕ → List JobRow → Record → List Entry → ℕ → State → Effect (Turn Claimed)
claim_write s room a t r cs stops w =
    let x = update (claim_draft s.number (stamped (reading w.clock)) cs r) w.store in
    record {
      result = on_update x.answer (landed_at a cs) (λ f. broken (fault (store_failed f) claim None a) cs);
      state = state (list_if_faulted x.answer cs w.held) x.after (passed w.clock) w.manifests;
      writes = noted (claims room t) x.wrote;
      stopped = stops;
    }

-- none chosen ends the claim
abbrev pub claim_chosen : Settings → ℕ → ℕ → List JobRow → Record → List Entry → ℕ → State → Effect (Turn Claimed)
claim_chosen s room a t r [] stops w = record { result = ends none_chosen; state = w; writes = []; stopped = stops }
claim_chosen s room a t r (e ∷ es) stops w = claim_write s room a t r (e ∷ es) stops w

-- the walk, then the update
abbrev pub claim_walk : Settings → ℕ → ℕ → Record → State → Effect (Turn Claimed)
claim_walk s room a r w =
    let x = walked r.entries room w.held.table w.held.jobs in
    claim_chosen s room a w.held.table r x.chosen x.stopped (holding (with_jobs w.held x.table x.jobs) w)

-- one attempt to claim
abbrev pub claim_attempt : Settings → ℕ → ℕ → State → Effect (Turn Claimed)
claim_attempt s room a w = on_read broken_bare claim None a (read w.store).answer (looked s.number w) (claim_walk s room a)

-- the claim, attempt after attempt
abbrev pub claiming : Settings → ℕ → State → Effect Claimed
claiming s room w = retry s.limit 1 (claim_attempt s room) (broken_bare (fault not_landed claim None s.limit)) w
