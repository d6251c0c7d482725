use Rattle.std.proofs.Common.{◌≡◌, codes, rules, arith}
use Rattle.std.proofs.lemmas.Slice.Eq.{text_from_reads}
use Rattle.entry_section.proofs.parts.status_in.Goals as goal

pub returns-in-submitted : goal.returns-in-submitted
returns-in-submitted c =
    let k : c.args.word.now ≡ codes "submitted" = text_from_reads _ (codes "submitted") (omega arith) (search rules) in
    rw k

pub returns-in-scheduled : goal.returns-in-scheduled
returns-in-scheduled c =
    let k : c.args.word.now ≡ codes "scheduled" = text_from_reads _ (codes "scheduled") (omega arith) (search rules) in
    rw k

pub returns-in-running : goal.returns-in-running
returns-in-running c =
    let k : c.args.word.now ≡ codes "running" = text_from_reads _ (codes "running") (omega arith) (search rules) in
    rw k

pub returns-in-compacted : goal.returns-in-compacted
returns-in-compacted c =
    let k : c.args.word.now ≡ codes "compacted" = text_from_reads _ (codes "compacted") (omega arith) (search rules) in
    rw k

pub returns-in-completed : goal.returns-in-completed
returns-in-completed c =
    let k : c.args.word.now ≡ codes "completed" = text_from_reads _ (codes "completed") (omega arith) (search rules) in
    rw k

pub returns-in-failed : goal.returns-in-failed
returns-in-failed c =
    let k : c.args.word.now ≡ codes "failed" = text_from_reads _ (codes "failed") (omega arith) (search rules) in
    rw k
