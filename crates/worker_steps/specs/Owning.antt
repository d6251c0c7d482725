-- Whose an entry is, and which entries nobody has taken yet.
use Rattle.std.specs.Prelude.{ℕ, Bool, true, false, ◌&&◌, List, Some, None, filter, Option, ◌==◌}
use Rattle.table.specs.Tables.{lookup}
use Rattle.compactions.specs.Entries.{Status, submitted, scheduled, running, compacted, completed, failed, Spec, tiered, drain, Owner, Entry}
use Rattle.stores.specs.Records.{entry_id}

-- there is an owner, and it has the number
abbrev pub owned_by : ℕ → Option Owner → Bool
owned_by n None = false
owned_by n (Some o) = n == o.number

-- no owner
abbrev pub unowned : Option Owner → Bool
unowned None = true
unowned (Some o) = false

-- Running
abbrev pub is_running : Status → Bool
is_running submitted = false
is_running scheduled = false
is_running running = true
is_running compacted = false
is_running completed = false
is_running failed = false

-- Scheduled
abbrev pub is_scheduled : Status → Bool
is_scheduled submitted = false
is_scheduled scheduled = true
is_scheduled running = false
is_scheduled compacted = false
is_scheduled completed = false
is_scheduled failed = false

-- not a drain
abbrev pub is_tiered : Spec → Bool
is_tiered (tiered g ss d) = true
is_tiered (drain g ss) = false

-- the entry is under the number, whatever its status
abbrev pub under : ℕ → Entry → Bool
under n e = owned_by n e.worker

-- the entry is Running under the number
abbrev pub running_under : ℕ → Entry → Bool
running_under n e = is_running e.status && owned_by n e.worker

-- the entry is Scheduled, tiered and without worker
abbrev pub unclaimed : Entry → Bool
unclaimed e = is_scheduled e.status && (is_tiered e.spec && unowned e.worker)

-- there is an entry, and it is Running under the number
abbrev pub some_running_under : ℕ → Option Entry → Bool
some_running_under n None = false
some_running_under n (Some e) = running_under n e

-- the id has an entry Running under the number
abbrev pub runs_at : ℕ → List Entry → ℕ → Bool
runs_at n es i = some_running_under n (lookup entry_id i es)

-- the listed ids that have an entry Running under the number
abbrev pub still_left : ℕ → List Entry → List ℕ → List ℕ
still_left n es l = filter (runs_at n es) l
