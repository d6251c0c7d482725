use Rattle.paper_text.proofs.LineCuts.{comment_cut, comment_none}
use Rattle.paper_text.proofs.lines.before_comment.Goals as goal

pub returns-in-Some : goal.returns-in-Some
returns-in-Some c = comment_cut c.args.line.now _ _ c.in-Some.ensures

pub returns-in-None : goal.returns-in-None
returns-in-None c = comment_none c.args.line.now c.in-None.ensures
