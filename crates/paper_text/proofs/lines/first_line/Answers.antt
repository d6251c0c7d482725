use Rattle.std.proofs.Common.{◌∷◌, sym, refl, ap, ◌∙◌}
use Rattle.paper_text.specs.Lines.{lines}
use Rattle.paper_text.proofs.LineCuts.{lines_one, lines_more, parts_shorter}
use Rattle.paper_text.proofs.lines.first_line.Goals as goal

pub returns-in-Some : goal.returns-in-Some
returns-in-Some c =
    record {
      value = lines_more c.args.text.now _ _ c.in-Some.ensures ∙ ap (λ l. l ∷ lines c.in-Some.below.now) (sym c.without_return.ensures);
      shorter = parts_shorter 10 c.args.text.now _ _ c.in-Some.ensures;
    }

pub returns-in-None : goal.returns-in-None
returns-in-None c = record { value = lines_one c.args.text.now c.in-None.ensures; shorter = refl }
