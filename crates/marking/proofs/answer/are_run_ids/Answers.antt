use Rattle.std.proofs.Common.{eqb, ◌∙◌, rules}
use borrow.Author.Tests.{tests}
use Rattle.compactions.specs.Meanings.{run_of}
use Rattle.marking.proofs.Alike.{alike-map}
use Rattle.marking.proofs.answer.are_run_ids.Goals as goal

pub returns : goal.returns
returns c =
    c.are_alike.ensures (λ n r. eqb n (run_of r).id) (λ x y b h. search (rules, tests))
    ∙ alike-map (λ n r. eqb n r.id) run_of c.args.claimed.now c.args.runs.now
