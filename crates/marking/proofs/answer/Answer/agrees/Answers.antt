use Rattle.std.proofs.Common.{ap, ◌∙◌}
use Rattle.marking.specs.Marking.{is_right, verdict_args}
use Rattle.marking.proofs.Claims.{right_agrees}
use Rattle.marking.proofs.answer.Answer.agrees.Goals as goal

pub returns : goal.returns
returns c =
    c.is_right.ensures ∙ ap is_right c.mark.ensures ∙ right_agrees c.args.self.now (verdict_args c.args.verdict.now)
