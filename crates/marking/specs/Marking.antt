-- When an answer agrees with the argument check.
use Rattle.std.specs.Prelude.{◌≡◌, Bool, true, false, cond, ◌&&◌, List, [], ◌∷◌, ℤ, pos, negsuc, is_some, Some, None, vec_items, Option, ◌==◌, nat_eq}
use Rattle.std.specs.Fn.{Shared, FnReturns}
use Rattle.std.specs.Option.{option_map}
use Rattle.std.specs.Result.{result_ok}
use denote.Ref.{Bor}
use Rattle.compactions.specs.Meanings.{view_of}
use Rattle.compactions.specs.Trees.{View}
use Rattle.compactions.specs.Jobs.{Args, args_of}
use Rattle.marking.specs.declared.answer.Claim.{Claim}
use Rattle.marking.specs.declared.answer.Claim.TheVariants.{Destination, Views, Runs, Tick, LastRun, Retention, Context}
use Rattle.marking.specs.declared.answer.Answer.{Answer}
use Rattle.marking.specs.declared.answer.Answer.TheVariants as answers
use Rattle.marking.specs.declared.answer.Verdict.{Verdict}
use Rattle.marking.specs.declared.answer.Part.{Part}
use Rattle.marking.specs.declared.answer.Part.TheVariants as parts
use Rattle.marking.specs.declared.answer.Mark.{Mark}
use Rattle.marking.specs.declared.answer.Mark.TheVariants.{Right, WrongVerdict, WrongPart}

-- what the check says of an entry: the arguments, or none where it refuses
abbrev pub verdict_args : Verdict → Option Args
verdict_args v = option_map args_of (result_ok v.0)

-- whatever it answers of two items is what e says of them
abbrev pub AnswersPairs : {F X Y : Type 0} → Shared F (Bor X × (Bor Y × Unit {0})) Bool → F → (X → Y → Bool) → Type 0
AnswersPairs {F} {X} {Y} test f e = (x : Bor X) (y : Bor Y) (answer : Bool) → FnReturns test f (x, (y, tt)) answer → answer ≡ e x.now y.now

-- two lists of one length whose items agree place by place
abbrev pub alike : {X Y : Type 0} → (X → Y → Bool) → List X → List Y → Bool
alike e [] [] = true
alike e [] (y ∷ ys) = false
alike e (x ∷ xs) [] = false
alike e (x ∷ xs) (y ∷ ys) = e x y && alike e xs ys

-- the same id and the same SST
abbrev pub same_view : View → View → Bool
same_view v w = v.id == w.id && v.sst == w.sst

-- both set or both not
abbrev pub same_mark : Bool → Bool → Bool
same_mark true b = b
same_mark false true = false
same_mark false false = true

-- equal signed numbers
abbrev pub same_tick : ℤ → ℤ → Bool
same_tick (pos m) (pos n) = m == n
same_tick (pos m) (negsuc n) = false
same_tick (negsuc m) (pos n) = false
same_tick (negsuc m) (negsuc n) = m == n

-- whether the arguments are as a claim says
abbrev pub claim_holds : Claim → Args → Bool
claim_holds (Destination d) a = d == a.destination
claim_holds (Views vs) a = alike (λ v w. same_view (view_of v) w) (vec_items vs) a.views
claim_holds (Runs ids) a = alike (λ n r. nat_eq n r.id) (vec_items ids) a.runs
claim_holds (Tick t) a = same_tick t a.tick
claim_holds (LastRun b) a = same_mark b a.last_run
claim_holds (Retention n) a = n == a.retention
claim_holds (Context b) a = same_mark b (is_some a.context)

abbrev pub all_hold : List Claim → Args → Bool
all_hold [] a = true
all_hold (c ∷ cs) a = claim_holds c a && all_hold cs a

-- an answer agrees if it has the same verdict and, for a pass, every claim holds
abbrev pub agrees : Answer → Option Args → Bool
agrees (answers.Passes cs) (Some a) = all_hold (vec_items cs) a
agrees (answers.Passes cs) None = false
agrees answers.Refused (Some a) = false
agrees answers.Refused None = true

-- what a claim is about
abbrev pub part_of : Claim → Part
part_of (Destination d) = parts.Destination
part_of (Views vs) = parts.Views
part_of (Runs ids) = parts.Runs
part_of (Tick t) = parts.Tick
part_of (LastRun b) = parts.LastRun
part_of (Retention n) = parts.Retention
part_of (Context b) = parts.Context

-- the first claim that does not hold
abbrev pub first_wrong : List Claim → Args → Option Part
first_wrong [] a = None
first_wrong (c ∷ cs) a = cond (claim_holds c a) (first_wrong cs a) (Some (part_of c))

abbrev pub mark_by : Option Part → Mark
mark_by None = Right
mark_by (Some p) = WrongPart p

-- the mark of an answer
abbrev pub mark_of : Answer → Option Args → Mark
mark_of (answers.Passes cs) (Some a) = mark_by (first_wrong (vec_items cs) a)
mark_of (answers.Passes cs) None = WrongVerdict
mark_of answers.Refused (Some a) = WrongVerdict
mark_of answers.Refused None = Right

abbrev pub is_right : Mark → Bool
is_right Right = true
is_right WrongVerdict = false
is_right (WrongPart p) = false
