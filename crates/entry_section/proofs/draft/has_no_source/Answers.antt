use Rattle.std.proofs.Common.{eqb, length, sym, ap, ◌∙◌}
use Rattle.std.proofs.lemmas.List.{length-map}
use Rattle.compactions.specs.Meanings.{source_of}
use Rattle.entry_section.proofs.draft.has_no_source.Goals as goal

pub returns : goal.returns
returns c =
    c.is_empty.ensures ∙ ap (λ n. eqb n 0) (sym (length-map c.sources.result.now source_of) ∙ ap length c.sources.ensures.value)
