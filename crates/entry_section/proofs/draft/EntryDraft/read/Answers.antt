use Rattle.std.proofs.Common.{◌≡◌, Some, ap, ◌∙◌, rules}
use Rattle.problems.specs.Outcomes.{read_as}
use Rattle.entry_section.specs.EntryLines.{draft_of, parts_of}
use Rattle.entry_section.proofs.draft.EntryDraft.read.Goals as goal

pub returns-in-Named : goal.returns-in-Named
returns-in-Named c =
    let same : read_as draft_of c.map.result ≡ read_as parts_of c.begin.result = search rules in
    simp c.in-Named.is (ap Some (same ∙ c.begin.ensures))
