-- A first look does not touch the running jobs.
use Rattle.std.proofs.Common.{◌≡◌, ℕ, Bool, true, false, refl}
use Rattle.stores.specs.Stores.{read}
use Rattle.worker_steps.specs.States.{with_loaded, State, holding}
use Rattle.worker_steps.specs.Looks.{Opening, opened, open_by, is_record, looked, first_look}

pub look_jobs : (n : ℕ) (w : State) → (first_look n w).state.held.jobs ≡ w.held.jobs
look_jobs n w = by w.held.loaded
  where
    by : (b : Bool) → (elim b as (λ _. Opening) [ true ↦ record { found = opened; state = w } | false ↦ record { found = open_by (read w.store).answer; state = holding (with_loaded (looked n w).held (is_record (read w.store).answer)) (looked n w) } ]).state.held.jobs ≡ w.held.jobs
    by true = refl
    by false = refl
