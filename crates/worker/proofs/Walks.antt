-- One entry of the walk, by what becomes of it.
use Rattle.std.proofs.Common.{◌≡◌, ℕ, ◌+◌, ◌-◌, ◌≤◌, Bool, true, false, List, length, refl}
use Rattle.std.proofs.lemmas.Bool.{true≢false, false≢true}
use Rattle.compactions.specs.Entries.{Entry}
use Rattle.worker_steps.specs.States.{Held, with_jobs}
use Rattle.worker_steps.specs.Claims.{walked}
use Rattle.worker.specs.Claims.{going_on}

pub at_true : {X : Type 0} (b : Bool) (x y : X) → b ≡ true → elim b [ true ↦ x | false ↦ y ] ≡ x
at_true true x y e = refl
at_true false x y e = absurd (false≢true e)

pub at_false : {X : Type 0} (b : Bool) (x y : X) → b ≡ false → elim b [ true ↦ x | false ↦ y ] ≡ y
at_false true x y e = absurd (true≢false e)
at_false false x y e = refl

-- a walk that has come to the entries `rest`
pub record Walking (room : ℕ) (es : List Entry) (h₀ : Held) (cs : List Entry) (n : ℕ) (rest : List Entry) (h : Held) : Type 0 where
  pub whole : going_on cs n (walked rest (room - length cs) h.table h.jobs) ≡ walked es room h₀.table h₀.jobs
  pub held : h ≡ with_jobs h₀ h.table h.jobs
  pub within : length cs ≤ room
  pub few : n + length rest ≤ 32
