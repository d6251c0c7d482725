-- One claim that joins the left-behind list, before those that wait.
use Rattle.std.proofs.Common.{◌≡◌, ℕ, List, ◌∷◌, map}
use Rattle.table.specs.Tables.{put}
use Rattle.compactions.specs.Entries.{Entry}
use Rattle.stores.specs.Records.{entry_id}
use Rattle.worker_steps.specs.States.{self_id, Held, with_left}
use Rattle.worker_steps.specs.Tracking.{Tracked}
use Rattle.worker_steps.specs.Claims.{joined}
use Rattle.worker_steps.proofs.Tracking.{list_id}

module _ (h h' : Held) (e : Entry) (es es' : List Entry) (i : ℕ) (first : es ≡ e ∷ es') (same : i ≡ e.id) (left : h' ≡ with_left h (put self_id i h.left)) where
  pub left_one : (whole : Held) → with_left h (joined es h.left) ≡ whole → with_left h' (joined es' h'.left) ≡ whole
  left_one whole w = rw (left, same) (rw first at w)

  pub left_tracked : {max : ℕ} → Tracked max (map entry_id es) h.table h.left → Tracked max (map entry_id es') h'.table h'.left
  left_tracked b = rw (left, same) (list_id (rw first at b))
