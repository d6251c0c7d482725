-- Bytes that are no text.
use Rattle.std.specs.Prelude.{◌≡◌, ℕ, List, take, IsUtf8}
use Rattle.std.specs.Str.{IsValidUpTo}
use Rattle.paper_text.specs.Lines.{line_after}
use Rattle.problems.specs.declared.error.PaperError.{PaperError}
use Rattle.problems.specs.declared.error.Problem.TheVariants.{Paper}
use Rattle.problems.specs.declared.expected.InPaper.TheVariants as expected

-- the bytes are not UTF-8: the problem stands at the line where their longest beginning in UTF-8 ends
pub record NotText (bs : List ℕ) (e : PaperError) : Type 0 where
  pub wrong : IsUtf8 bs → ⊥
  pub valid : ℕ
  pub longest : IsValidUpTo bs valid
  pub told : e ≡ record { line = line_after (take valid bs); problem = Paper expected.Utf8 }
