use Rattle.std.proofs.Common.{not, ◌∙◌, rules, tests}
use mathlib.Core.Bool.{beq}
use Rattle.std.proofs.lemmas.Iterator.{YieldsList-from_slice}
use Rattle.std.proofs.lemmas.Iterator.Search.{position_from_yields_List}
use Rattle.paper_text.specs.Words.{is_blank}
use Rattle.paper_text.proofs.Scans.{leading_found}
use Rattle.paper_text.proofs.words.leading.Goals as goal

pub returns-clause-value : goal.returns-clause-value
returns-clause-value c =
    let found = position_from_yields_List (λ b. not (beq (is_blank b) c.args.blank)) _ _ c.position.result c.position.ensures.ran (YieldsList-from_slice c.args.line.now cc) (λ x b q k. search (rules, tests)) in
    c.unwrap_or.ensures ∙ leading_found _ _ _ found
