use Rattle.std.proofs.Common.{◌≡◌, codes, rules, arith}
use Rattle.std.proofs.lemmas.Slice.Eq.{text_from_reads}
use Rattle.paper.proofs.answer_lines.part_named.Goals as goal

pub returns-in-destination : goal.returns-in-destination
returns-in-destination c =
    let k : c.args.word.now ≡ codes "destination" = text_from_reads _ (codes "destination") (omega arith) (search rules) in
    rw k

pub returns-in-retention : goal.returns-in-retention
returns-in-retention c =
    let k : c.args.word.now ≡ codes "retention" = text_from_reads _ (codes "retention") (omega arith) (search rules) in
    rw k

pub returns-in-context : goal.returns-in-context
returns-in-context c =
    let k : c.args.word.now ≡ codes "context" = text_from_reads _ (codes "context") (omega arith) (search rules) in
    rw k

pub returns-in-views : goal.returns-in-views
returns-in-views c =
    let k : c.args.word.now ≡ codes "views" = text_from_reads _ (codes "views") (omega arith) (search rules) in
    rw k

pub returns-in-108 : goal.returns-in-108
returns-in-108 c =
    let k : c.args.word.now ≡ codes "last-run" = text_from_reads _ (codes "last-run") (omega arith) (search rules) in
    rw k
