use Rattle.std.proofs.Common.{map, ap, ◌∙◌, rules}
use Rattle.std.specs.Option.{option_map}
use Rattle.executors.specs.Jobs.{oldest}
use Rattle.executors.specs.Tables.{job_of}
use Rattle.executors.proofs.Oldest.{oldest_picked}
use Rattle.executors.proofs.job_table.JobTable.oldest.Goals as goal

pub returns : goal.returns
returns c =
    ap (option_map job_of) c.copied.ensures
    ∙ oldest_picked job_of _ _ (λ x k q h. search rules) _ _ c.min_by_key.ensures.ran
    ∙ ap (λ xs. oldest (map job_of xs)) (c.iter.ensures.rest ∙ c.as_slice.ensures)
