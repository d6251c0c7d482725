use Rattle.std.proofs.Common.{◌≡◌, codes, rules, arith}
use Rattle.std.proofs.lemmas.Slice.Eq.{text_from_reads}
use Rattle.entry_section.proofs.parts.kind_in.Goals as goal

pub returns-in-tiered : goal.returns-in-tiered
returns-in-tiered c =
    let k : c.args.line.keyword.now ≡ codes "tiered" = text_from_reads _ (codes "tiered") (omega arith) (search rules) in
    rw (k, ← c.words-in-tiered.ensures) c.tiered_in.ensures
