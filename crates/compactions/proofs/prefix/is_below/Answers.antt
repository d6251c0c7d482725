use Rattle.std.proofs.Common.{◌∙◌}
use Rattle.compactions.proofs.Walks.{before_from_lt}
use Rattle.compactions.proofs.prefix.is_below.Goals as goal

pub returns : goal.returns
returns c = c.lt.ensures ∙ before_from_lt c.args.a.now c.args.b.now
