-- What a piece of work comes to, and attempts that are tried again after a conflict.
use Rattle.std.specs.Prelude.{ℕ, zero, suc, ◌+◌, List, [], ◌∷◌, ◌++◌, Some, None, Option}
use Rattle.stores.specs.Stores.{Write, UpdateAnswer, landed, conflict, unwritten, Fault}
use Rattle.worker_steps.specs.States.{JobRow, State}

-- why a write was made: a claim has its poll's capacity and the table that its attempt began with
pub data Cause : Type 0 where
  claims : ℕ → List JobRow → Cause
  keeps : Cause

-- a write and why it was made
pub record Written : Type 0 where
  pub cause : Cause
  pub write : Write

-- the write, if there was one
abbrev pub noted : Cause → Option Write → List Written
noted c None = []
noted c (Some x) = record { cause = c; write = x } ∷ []

-- the result of a piece of work, the state after it, the writes that it made and how many jobs it stopped
pub record Effect (X : Type 0) : Type 0 where
  pub result : X
  pub state : State
  pub writes : List Written
  pub stopped : ℕ

-- a result without write and stop
abbrev pub effect_free : {X : Type 0} → X → State → Effect X
effect_free x w = record { result = x; state = w; writes = []; stopped = 0 }

-- after these writes and stops
abbrev pub after_log : {X : Type 0} → List Written → ℕ → Effect X → Effect X
after_log ws n x = record { result = x.result; state = x.state; writes = ws ++ x.writes; stopped = n + x.stopped }

-- one attempt: it ends the work, or met a conflict
pub data Turn (X : Type 0) : Type 0 where
  ends : X → Turn X
  again : Turn X

-- an attempt that met a conflict is followed by the next
abbrev pub turned : {X : Type 0} → Turn X → Effect (Turn X) → (State → Effect X) → Effect X
turned (ends r) x next = record { result = r; state = x.state; writes = x.writes; stopped = x.stopped }
turned again x next = after_log x.writes x.stopped (next x.state)

-- attempt after attempt, from number a on, until one ends the work or none is left
abbrev pub retry : {X : Type 0} → ℕ → ℕ → (ℕ → State → Effect (Turn X)) → X → State → Effect X
retry zero a attempt over w = record { result = over; state = w; writes = []; stopped = 0 }
retry (suc k) a attempt over w = turned (attempt a w).result (attempt a w) (retry k (a + 1) attempt over)

-- how an attempt ends by the answer to its update
abbrev pub on_update : {X : Type 0} → UpdateAnswer → X → (Fault → X) → Turn X
on_update landed x bad = ends x
on_update conflict x bad = again
on_update (unwritten f) x bad = ends (bad f)
