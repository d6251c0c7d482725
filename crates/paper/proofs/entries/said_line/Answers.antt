use Rattle.std.proofs.Common.{◌≡◌, codes, rules, arith}
use Rattle.std.proofs.lemmas.Slice.Eq.{text_from_reads}
use Rattle.paper.proofs.entries.said_line.Goals as goal

pub returns-in-answer : goal.returns-in-answer
returns-in-answer c =
    let k : c.args.line.keyword.now ≡ codes "answer" = text_from_reads _ (codes "answer") (omega arith) (search rules) in
    λ _. rw (k, ← c.words-in-answer.ensures, c.read_answer.ensures)
