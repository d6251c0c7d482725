use Rattle.std.proofs.lemmas.Slice.Eq.{strip_prefix_is}
use Rattle.paper_text.proofs.Beginnings.{behind_found}
use Rattle.paper_text.proofs.numbers.behind.Goals as goal
use Rattle.std.proofs.lemmas.Bool.Decides.{Decides-eqb}

pub returns : goal.returns
returns c = behind_found c.args.beginning.now c.args.word.now _ (strip_prefix_is Decides-eqb _ _ _ c.strip_prefix.ensures.cases)
