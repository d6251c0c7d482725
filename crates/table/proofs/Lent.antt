-- Lent tables that are equal by their parts.
use Rattle.std.proofs.Common.{◌≡◌, ◌∙◌, ℕ, List, ap}
use Rattle.table.specs.Meaning.{Lent}

abbrev lent : {R : Type 0} → List R → ℕ → Lent R
lent xs n = record { rows = xs; room = n }

pub same_lent : {R : Type 0} {xs ys : List R} {m n : ℕ} → xs ≡ ys → m ≡ n → lent xs m ≡ lent ys n
same_lent {R} {xs} {ys} {m} {n} p q = ap (λ zs. lent zs m) p ∙ ap (lent ys) q
