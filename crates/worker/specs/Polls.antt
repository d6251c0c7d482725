-- What the answers of a poll and of its parts mean.
use Rattle.std.specs.Prelude.{ℕ, ◌+◌, List, [], map, length, Some, None, Ok, Err, Option, Result}
use Rattle.compactions.specs.Entries.{Entry}
use Rattle.stores.specs.Records.{entry_id}
use Rattle.worker_steps.specs.Faults.{Fault, fault_of}
use Rattle.worker_steps.specs.States.{Held}
use Rattle.worker_steps.specs.Tracking.{Tracked}
use Rattle.worker_steps.specs.Effects.{Turn, ends, again}
use Rattle.worker_steps.specs.Claims as steps
use Rattle.worker_steps.specs.Polls as polls
use Rattle.worker_steps.specs.declared.fault.WorkerFault.{WorkerFault}
use Rattle.worker.specs.Claims.{waiting}
use Rattle.worker.specs.declared.polls.PollCounts.{PollCounts}
use Rattle.worker.specs.declared.polls.PollEnd.{PollEnd}
use Rattle.worker.specs.declared.polls.PollEnd.TheVariants.{NothingYet, Done}
use Rattle.worker.specs.declared.polls.PollAnswer.{PollAnswer}
use Rattle.worker.specs.declared.polls.LandedClaims.{LandedClaims}
use Rattle.worker.specs.declared.polls.ClaimTurn.{ClaimTurn}
use Rattle.worker.specs.declared.polls.ClaimTurn.TheVariants.{NoneChosen, Landed, Conflict}

-- the five counts of a poll
pub record Counts : Type 0 where
  pub claimed : ℕ
  pub started : ℕ
  pub let_go : ℕ
  pub left : ℕ
  pub stopped : ℕ

abbrev pub counts_of : PollCounts → Counts
counts_of c = record { claimed = c.claimed; started = c.started; let_go = c.let_go; left = c.left; stopped = c.stopped }

-- how a claim, or an attempt at one, ends: none chosen, landed at an attempt, a fault, or a conflict
pub data ClaimEnd : Type 0 where
  none : ClaimEnd
  landed : ℕ → List Entry → ClaimEnd
  faulted : Fault → ClaimEnd
  conflict : ClaimEnd

-- an attempt, by its answer
abbrev pub turn_of : ℕ → Result ClaimTurn WorkerFault → ClaimEnd
turn_of a (Ok NoneChosen) = none
turn_of a (Ok (Landed c)) = landed a (waiting c)
turn_of a (Ok Conflict) = conflict
turn_of a (Err f) = faulted (fault_of f)

-- a claim, by its answer
abbrev pub claim_of : Result (Option LandedClaims) WorkerFault → ClaimEnd
claim_of (Ok None) = none
claim_of (Ok (Some l)) = landed l.attempt (waiting l.claims)
claim_of (Err f) = faulted (fault_of f)

-- a claim as it is defined
abbrev pub claim_end : steps.Claimed → ClaimEnd
claim_end steps.none_chosen = none
claim_end (steps.landed_at a cs) = landed a cs
claim_end (steps.broken f cs) = faulted f

-- how many ids its update claimed, if a conflict was not the answer
abbrev pub claim_count : steps.Claimed → ℕ
claim_count steps.none_chosen = 0
claim_count (steps.landed_at a cs) = length cs
claim_count (steps.broken f cs) = length cs

-- how many of them it left behind
abbrev pub left_count : steps.Claimed → ℕ
left_count steps.none_chosen = 0
left_count (steps.landed_at a cs) = 0
left_count (steps.broken f cs) = length cs

-- the same of an attempt
abbrev pub turn_end : Turn steps.Claimed → ClaimEnd
turn_end (ends x) = claim_end x
turn_end again = conflict

abbrev pub turn_claimed : Turn steps.Claimed → ℕ
turn_claimed (ends x) = claim_count x
turn_claimed again = 0

abbrev pub turn_left : Turn steps.Claimed → ℕ
turn_left (ends x) = left_count x
turn_left again = 0

-- the counts after an attempt, where none was claimed before
abbrev pub counted_turn : Counts → Turn steps.Claimed → ℕ → Counts
counted_turn c t n = record { claimed = turn_claimed t; started = c.started; let_go = c.let_go; left = turn_left t; stopped = c.stopped + n }

-- the counts after a claim
abbrev pub counted_claim : Counts → steps.Claimed → ℕ → Counts
counted_claim c x n = record { claimed = claim_count x; started = c.started; let_go = c.let_go; left = left_count x; stopped = n }

-- a landed claim is pending, beside the table and the list; after a conflict nothing is
abbrev pub PendingTurn : ℕ → Held → Result ClaimTurn WorkerFault → Type 0
PendingTurn max h (Ok NoneChosen) = Unit {0}
PendingTurn max h (Ok (Landed c)) = Tracked max (map entry_id (waiting c)) h.table h.left
PendingTurn max h (Ok Conflict) = Tracked max [] h.table h.left
PendingTurn max h (Err f) = Unit {0}

abbrev pub PendingClaim : ℕ → Held → Result (Option LandedClaims) WorkerFault → Type 0
PendingClaim max h (Ok None) = Unit {0}
PendingClaim max h (Ok (Some l)) = Tracked max (map entry_id (waiting l.claims)) h.table h.left
PendingClaim max h (Err f) = Unit {0}

-- how a poll ended
abbrev pub ended_of : Result PollEnd WorkerFault → polls.Ended
ended_of (Ok NothingYet) = polls.not_yet
ended_of (Ok Done) = polls.done
ended_of (Err f) = polls.faulted (fault_of f)

-- the answer of a poll, by how it ended and its counts
abbrev pub poll_answer_by : polls.Ended → Counts → polls.PollAnswer
poll_answer_by e c = polls.poll_answer e c.claimed c.started c.let_go c.left c.stopped

abbrev pub poll_answer_of : PollAnswer → polls.PollAnswer
poll_answer_of a = poll_answer_by (ended_of a.end) (counts_of a.counts)
