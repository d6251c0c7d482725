use Rattle.std.proofs.Common.{◌≡◌, Err, rules, sym, ap, ◌∙◌}
use Rattle.std.proofs.lemmas.Result.{err_from_is_err_and}
use Rattle.problems.specs.Outcomes.{read_as, with_word}
use Rattle.std.specs.Option.{option_map}
use Rattle.paper_text.specs.Words.{only_word}
use Rattle.entry_section.specs.EntryParts.{context_by}
use Rattle.compactions.specs.Meanings.{context_of}
use Rattle.entry_section.specs.EntryLines.{parts_of}
use Rattle.entry_section.proofs.Once.{once_err}
use Rattle.entry_section.proofs.draft.Parts.read_context.Goals as goal

pub returns-in_err-context : goal.returns-in_err-context
returns-in_err-context c =
    let p = err_from_is_err_and c.from_residual.result c.from_residual.ensures.1 in
    let r : option_map context_of c.and_then-read.result ≡ with_word context_by (only_word c.args.words) = search rules in
    ap (read_as parts_of) p.1 ∙ ap Err p.2
    ∙ rw (← r) (once_err context_of c.args.self.entry.ctx c.and_then-read.result _ _ _ _ _ (sym c.once.ensures ∙ c.in_err-context.was))
