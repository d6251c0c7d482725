use Rattle.std.proofs.Common.{Err, sym, ap, ◌∙◌}
use Rattle.std.proofs.lemmas.Result.{err_from_is_err_and}
use Rattle.problems.specs.Outcomes.{read_as}
use Rattle.compactions.specs.Meanings.{worker_of}
use Rattle.entry_section.specs.EntryLines.{parts_of}
use Rattle.entry_section.proofs.Once.{once_err}
use Rattle.entry_section.proofs.draft.Parts.read_worker.Goals as goal

pub returns-in_err-worker : goal.returns-in_err-worker
returns-in_err-worker c =
    let p = err_from_is_err_and c.from_residual.result c.from_residual.ensures.1 in
    ap (read_as parts_of) p.1 ∙ ap Err p.2
    ∙ rw (← c.worker_in-read.ensures) (once_err worker_of c.args.self.entry.worker c.worker_in-read.result _ _ _ _ _ (sym c.once.ensures ∙ c.in_err-worker.was))
