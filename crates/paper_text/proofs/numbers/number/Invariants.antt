use Rattle.std.proofs.Common.{◌≡◌, drop, Some}
use Rattle.paper_text.specs.Digits.{number_after}
use Rattle.paper_text.proofs.numbers.number.Given as goal

-- the value so far and the digits that are left give the number
abbrev pub invariant-loop-b : goal.invariant-loop-b
invariant-loop-b l = number_after l.base (Some l.value) (drop l.b-index l.word) ≡ number_after l.base (Some 0) l.word
