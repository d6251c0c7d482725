-- The making of a worker.
use Rattle.std.specs.Prelude.{◌≡◌, ℕ, false, ◌&&◌, List, [], Some, None, Ok, Err, Option, Result, nat_le}
use Rattle.compactions.specs.Jobs.{Args}
use Rattle.compactions.specs.Refusals.{number_of, unless_either}
use Rattle.worker_steps.specs.States.{Settings}
use Rattle.worker.specs.Worker.{held_of, settings_of}
use Rattle.worker.specs.declared.compaction_worker.CompactionWorker.{CompactionWorker}
use Rattle.worker.specs.declared.making.Unmade.{Unmade}

-- the number that the settings are refused with: 4 for the maximum, then 5 for the attempt limit
abbrev pub settings_refused : ℕ → ℕ → Option ℕ
settings_refused maximum limit = unless_either (nat_le maximum 8) 4 (nat_le 1 limit && nat_le limit 64) 5

-- the number that a making answers, if it refuses
abbrev pub making_refused : {E : Type 0} → Result (CompactionWorker E) (Unmade E) → Option ℕ
making_refused (Ok w) = None
making_refused (Err u) = Some (number_of u.refusal)

-- a worker that was just made holds nothing; a refused making hands the executor back as it was
abbrev pub Made : {E : Type 0} → (E → List Args) → Settings → E → Result (CompactionWorker E) (Unmade E) → Type 0
Made jobs s e (Ok w) = (settings_of s.places w ≡ s) × (held_of (jobs w.executor) w ≡ record { loaded = false; table = []; left = []; jobs = [] })
Made jobs s e (Err u) = u.executor ≡ e
