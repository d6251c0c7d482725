use Rattle.std.proofs.Common.{◌≡◌, codes, rules, arith}
use Rattle.std.proofs.lemmas.Bool.{ltb-true, ltb-false}
use Rattle.std.proofs.lemmas.Slice.Eq.{text_from_reads}
use Rattle.entry_section.proofs.draft.Parts.read.Goals as goal
use Rattle.entry_section.proofs.draft.Parts.read.Goals.{then-this-lt6+in-100+in-114+in-97+in-105+in-110-1, else-this-lt6+then-this-lt7+in-116+in-105+in-101+in-114+in-101-this-10+in-100-1}

pub returns-in-segment : goal.returns-in-segment
returns-in-segment c =
    let k : c.args.line.keyword.now ≡ codes "segment" = text_from_reads _ (codes "segment") (omega arith) (search rules) in
    rw (k, ← c.words-words.ensures, c.read_segment.ensures)

pub returns-in-source : goal.returns-in-source
returns-in-source c =
    let k : c.args.line.keyword.now ≡ codes "source" = text_from_reads _ (codes "source") (omega arith) (search rules) in
    rw (k, ← c.words-words.ensures, c.read_source.ensures)

pub returns-in-status : goal.returns-in-status
returns-in-status c =
    let k : c.args.line.keyword.now ≡ codes "status" = text_from_reads _ (codes "status") (omega arith) (search rules) in
    rw (k, ← c.words-words.ensures, c.read_status.ensures)

pub returns-in-output : goal.returns-in-output
returns-in-output c =
    let k : c.args.line.keyword.now ≡ codes "output" = text_from_reads _ (codes "output") (omega arith) (search rules) in
    rw (k, ← c.words-words.ensures, c.read_output.ensures)

pub returns-in-worker : goal.returns-in-worker
returns-in-worker c =
    let k : c.args.line.keyword.now ≡ codes "worker" = text_from_reads _ (codes "worker") (omega arith) (search rules) in
    rw (k, ← c.words-words.ensures, c.read_worker.ensures)

pub returns-in-context : goal.returns-in-context
returns-in-context c =
    let k : c.args.line.keyword.now ≡ codes "context" = text_from_reads _ (codes "context") (omega arith) (search rules) in
    rw (k, ← c.words-words.ensures, c.read_context.ensures)

pub returns-in-subcompaction : goal.returns-in-subcompaction
returns-in-subcompaction c =
    let k : c.args.line.keyword.now ≡ codes "subcompaction" = text_from_reads _ (codes "subcompaction") (omega arith) (search rules) in
    rw (k, ← c.words-words.ensures, c.read_subcompaction.ensures)

pub returns-in-tiered : goal.returns-in-tiered
returns-in-tiered c =
    elim c.in-tiered-1.branch [
      | then-this-lt6+in-100+in-114+in-97+in-105+in-110-1 w ↦
          let k : c.args.line.keyword.now ≡ codes "drain" = text_from_reads _ (codes "drain") (omega (arith, ltb-true, ltb-false)) (search rules) in
          rw (k, c.into.ensures)
      | else-this-lt6+then-this-lt7+in-116+in-105+in-101+in-114+in-101-this-10+in-100-1 w ↦
          let k : c.args.line.keyword.now ≡ codes "tiered" = text_from_reads _ (codes "tiered") (omega (arith, ltb-true, ltb-false)) (search rules) in
          rw (k, c.into.ensures)
    ]
