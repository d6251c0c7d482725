-- A poll whose claim landed.
use Rattle.std.proofs.Common.{◌≡◌, ℕ, List, ap, ◌∙◌}
use Rattle.compactions.specs.Entries.{Entry}
use Rattle.worker_steps.specs.Claims.{Claimed, none_chosen, landed_at, broken}
use Rattle.worker.specs.Polls.{Counts, claim_end, landed, left_count, counted_claim}

pub was_landed : (x : Claimed) (a : ℕ) (cs : List Entry) → landed a cs ≡ claim_end x → x ≡ landed_at a cs
was_landed none_chosen a cs e = cc
was_landed (landed_at b ds) a cs e = cc
was_landed (broken f ds) a cs e = cc

-- nothing was started, let go or left when the claim had landed
pub landed_counts : (c₀ c : Counts) (x : Claimed) (n a : ℕ) (cs : List Entry) → c ≡ counted_claim c₀ x n → landed a cs ≡ claim_end x → c₀.started ≡ 0 → c₀.let_go ≡ 0 → (c.started ≡ 0) × (c.let_go ≡ 0) × (c.left ≡ 0)
landed_counts c₀ c x n a cs e l p q = (ap (λ y. y.started) e ∙ p, ap (λ y. y.let_go) e ∙ q, ap (λ y. y.left) e ∙ ap left_count (was_landed x a cs l))
