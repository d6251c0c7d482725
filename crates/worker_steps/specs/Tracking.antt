-- What the worker keeps beside the store: its table, its left-behind list, and the ids that are pending, which is to say
-- claimed, or struck from the table, and not yet started, released or listed.
use Rattle.std.specs.Prelude.{◌≡◌, ℕ, ◌+◌, ◌≤◌, true, false, List, length}
use Rattle.table.specs.Tables.{Ascending, holds}
use Rattle.worker_steps.specs.States.{JobRow, row_id, self_id}

-- in order, apart from one another, no more rows than the maximum, and a place on the list for each id
pub record Tracked (max : ℕ) (P : List ℕ) (t : List JobRow) (l : List ℕ) : Type 0 where
  pub table_ascending : Ascending row_id t
  pub left_ascending : Ascending self_id l
  pub pending_ascending : Ascending self_id P
  pub table_left : (i : ℕ) → holds row_id i t ≡ true → holds self_id i l ≡ false
  pub table_pending : (i : ℕ) → holds row_id i t ≡ true → holds self_id i P ≡ false
  pub left_pending : (i : ℕ) → holds self_id i l ≡ true → holds self_id i P ≡ false
  pub room : length t + length P ≤ max
  pub fits : length l + (length t + length P) ≤ 40
