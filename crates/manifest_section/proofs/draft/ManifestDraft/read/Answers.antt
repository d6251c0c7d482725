use Rattle.std.proofs.Common.{◌≡◌, codes, rules, arith}
use Rattle.std.proofs.lemmas.Slice.Eq.{text_from_reads}
use Rattle.manifest_section.proofs.draft.ManifestDraft.read.Goals as goal

pub returns-in-segment : goal.returns-in-segment
returns-in-segment c =
    let k : c.args.line.keyword.now ≡ codes "segment" = text_from_reads _ (codes "segment") (omega arith) (search rules) in
    rw (k, ← c.words-in-segment.ensures, c.read_segment.ensures)

pub returns-in-snapshot : goal.returns-in-snapshot
returns-in-snapshot c =
    let k : c.args.line.keyword.now ≡ codes "snapshot" = text_from_reads _ (codes "snapshot") (omega arith) (search rules) in
    rw (k, ← c.words-in-snapshot.ensures, c.read_snapshot.ensures)
