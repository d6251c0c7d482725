-- An id as one number: the order of ids is the order of their numbers.
use Rattle.std.specs.Prelude.{◌≡◌, ℕ, ◌+◌, ◌*◌, ◌^◌, ◌<◌, Bool, Option, Decides, ◌==◌, nat_lt}
use Rattle.std.specs.Ordering.{partial_lt}
use Rattle.std.specs.declared.cmp.Ordering.{Ordering}
use Rattle.table.specs.declared.ulid.Ulid.{Ulid}

-- the high half counts 2^64 times
abbrev pub number : Ulid → ℕ
number u = u.high * 2 ^ 64 + u.low

-- the key of a row, by the id that it names
abbrev pub by : {R : Type 0} → (R → Ulid) → R → ℕ
by named r = number (named r)

-- what equality and order of ids are: by their numbers, and equal ids are the same
pub record ByNumber (eq : Ulid → Ulid → Bool) (cmp : Ulid → Ulid → Option Ordering) : Type 0 where
  pub same : (a b : Ulid) → Decides (eq a b) (a ≡ b)
  pub equal : (a b : Ulid) → a.low < 2 ^ 64 → b.low < 2 ^ 64 → eq a b ≡ (number a == number b)
  pub less : (a b : Ulid) → a.low < 2 ^ 64 → b.low < 2 ^ 64 → partial_lt cmp a b ≡ nat_lt (number a) (number b)
