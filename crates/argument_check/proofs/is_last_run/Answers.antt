use Rattle.std.proofs.Common.{map, sym, ap, ◌∙◌, rules}
use Rattle.std.specs.Option.{option_map}
use Rattle.argument_check.specs.Check.{into_last, last_is}
use Rattle.compactions.specs.Meanings.{run_of, tree_of}
use Rattle.argument_check.proofs.Checks.{last_is_from}
use Rattle.argument_check.proofs.is_last_run.Goals as goal

pub returns : goal.returns
returns c =
    let d = c.args.destination in
    last_is_from run_of d c.as_slice.result.now c.last-last.result c.map_or.result _ c.last-last.ensures.value c.map_or.ensures (λ x h. search rules)
    ∙ ap (λ rows. last_is d (map run_of rows)) c.as_slice.ensures
    ∙ ap (λ t. into_last d (option_map (λ x. tree_of x.now) t)) (sym c.in-Some.is)
