-- A candidate's answer by its meaning.
use Rattle.std.specs.Prelude.{ℕ, Bool, List, map, ℤ, vec_items}
use Rattle.compactions.specs.Meanings.{view_of}
use Rattle.compactions.specs.Trees.{View}
use Rattle.marking.specs.declared.answer.Claim.{Claim}
use Rattle.marking.specs.declared.answer.Claim.TheVariants as claims
use Rattle.marking.specs.declared.answer.Part.{Part}
use Rattle.marking.specs.declared.answer.Part.TheVariants as parts
use Rattle.marking.specs.declared.answer.Answer.{Answer}
use Rattle.marking.specs.declared.answer.Answer.TheVariants as answers

-- one thing that a candidate says of the arguments
pub data Said : Type 0 where
  destination : ℕ → Said
  views : List View → Said
  runs : List ℕ → Said
  tick : ℤ → Said
  last_run : Bool → Said
  retention : ℕ → Said
  context : Bool → Said

-- an answer
pub data Answered : Type 0 where
  passes : List Said → Answered
  refused : Answered

abbrev pub said_of : Claim → Said
said_of (claims.Destination d) = destination d
said_of (claims.Views vs) = views (map view_of (vec_items vs))
said_of (claims.Runs ids) = runs (vec_items ids)
said_of (claims.Tick t) = tick t
said_of (claims.LastRun b) = last_run b
said_of (claims.Retention n) = retention n
said_of (claims.Context b) = context b

abbrev pub answer_of : Answer → Answered
answer_of (answers.Passes cs) = passes (map said_of (vec_items cs))
answer_of answers.Refused = refused

-- what a candidate speaks of, by its place among the kinds
abbrev pub kind : Said → ℕ
kind (destination d) = 0
kind (views vs) = 1
kind (runs ids) = 2
kind (tick t) = 3
kind (last_run b) = 4
kind (retention n) = 5
kind (context b) = 6

-- the place of a part among the kinds
abbrev pub place : Part → ℕ
place parts.Destination = 0
place parts.Views = 1
place parts.Runs = 2
place parts.Tick = 3
place parts.LastRun = 4
place parts.Retention = 5
place parts.Context = 6
