use Rattle.std.proofs.lemmas.Bool.{ltb-true, ltb-false}
use Rattle.std.proofs.Common.{arith}
use Rattle.paper_text.proofs.LineCuts.{return_cut_at, return_none_at}
use Rattle.paper_text.proofs.lines.without_return.Goals as goal

pub returns-in-13 : goal.returns-in-13
returns-in-13 c = return_cut_at c.args.line.now (omega (arith, ltb-true, ltb-false)) (omega arith)

pub returns-in_default-2 : goal.returns-in_default-2
returns-in_default-2 c = return_none_at c.args.line.now (omega (arith, ltb-true, ltb-false)) (λ e. omega arith)
