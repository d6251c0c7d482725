-- The invariant of the job table and the left-behind list, as a test.
use Rattle.std.specs.Prelude.{ℕ, ◌+◌, Bool, true, false, cond, ◌&&◌, List, [], ◌∷◌, length, nat_le}
use Rattle.table.specs.Tables.{holds}
use Rattle.worker_steps.specs.States.{JobRow, self_id}

-- no row's id is on the list
abbrev pub apart : List JobRow → List ℕ → Bool
apart [] l = true
apart (r ∷ rs) l = cond (holds self_id r.id l) false (apart rs l)

-- at most eight rows, no more than the maximum; table and list apart, and together at most 40
abbrev pub tracks : ℕ → List JobRow → List ℕ → Bool
tracks max t l = nat_le max 8 && (nat_le (length t) max && (nat_le (length l + length t) 40 && apart t l))
