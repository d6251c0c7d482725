-- The refusals' numbers: every contract that speaks of a refusal cites `number_of`.
use Rattle.std.specs.Prelude.{ℕ, Bool, cond, Some, None, Ok, Err, Option, Result}
use Rattle.compactions.specs.declared.refusal.Refusal.{Refusal}
use Rattle.compactions.specs.declared.refusal.Refusal.TheVariants.{Count, ManifestCount, Prefix, Maximum, AttemptLimit, InvalidCompaction}

-- the number of a refusal
abbrev pub number_of : Refusal → ℕ
number_of Count = 1
number_of ManifestCount = 2
number_of Prefix = 3
number_of Maximum = 4
number_of AttemptLimit = 5
number_of InvalidCompaction = 10

-- the number that an answer refuses with, if it refuses
abbrev pub refused_with : {X : Type 0} → Result X Refusal → Option ℕ
refused_with (Ok x) = None
refused_with (Err e) = Some (number_of e)

-- no refusal where the test holds, else this number
abbrev pub unless : Bool → ℕ → Option ℕ
unless b n = cond b None (Some n)

-- two questions: the first no answers
abbrev pub unless_either : Bool → ℕ → Bool → ℕ → Option ℕ
unless_either b m c n = cond b (unless c n) (Some m)
