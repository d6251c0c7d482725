use Rattle.std.proofs.Common.{◌≡◌, [], sym, ap, ◌∙◌, w64, SFits, rules}
use mathlib.Core.List.{map-map}
use Rattle.std.specs.Option.{option_map}
use Rattle.std.proofs.lemmas.List.{map-id}
use Rattle.std.proofs.lemmas.Int.{to_z-of_z}
use Rattle.std.proofs.lemmas.Result.{err_from_is_err_and}
use Rattle.compactions.specs.declared.compactor_state.Compaction.{Compaction}
use Rattle.compactions.specs.declared.manifest.Manifest as manifests
use Rattle.argument_check.specs.Answers.{Answer, checked}
use Rattle.argument_check.specs.Check.{job_args}
use Rattle.table.specs.Counted.{items_of}
use Rattle.compactions.specs.Meanings.{view_of, run_of, segment_of, entry_of, manifest_of}
use Rattle.argument_check.specs.Passing.{Passing}
use Rattle.compactions.specs.Prefixes.{rises}
use Rattle.argument_check.proofs.Checks.{view_missing, run_missing, all_found, refused_invalid}
use Rattle.argument_check.proofs.Passes.{check_passes}
use Rattle.argument_check.proofs.build_job_args.Goals as goal

-- a manifest's prefixes rise, so what equals the check obeys the law
lawful : (x : Compaction) (m : manifests.Manifest) (a : Answer) → a ≡ checked (job_args (entry_of x) (manifest_of m)) → Passing (entry_of x) (manifest_of m) a
lawful x m a v = check_passes (entry_of x) (manifest_of m) (ap (rises []) (map-map (λ s. s.prefix) segment_of (items_of m.segments)) ∙ m.ascending) a v

pub returns-in_err-l0_sst_views : goal.returns-in_err-l0_sst_views
returns-in_err-l0_sst_views c =
    let none = c.in_err-l0_sst_views.ensures.ok_part in
    let missing = ap (option_map items_of) (sym none) ∙ c.look_up.ensures in
    let p = err_from_is_err_and c.from_residual-in_err-l0_sst_views.result c.from_residual-in_err-l0_sst_views.ensures.1 in
    let said = refused_invalid c.look_up.result c.from_residual-in_err-l0_sst_views.result _ _ c.in_err-l0_sst_views.ensures.value none p.1 p.2 in
    let v = said ∙ view_missing view_of (λ r. r) (entry_of c.args.compaction.now) (manifest_of c.args.db_state.now) _ _ _ _ _ _ (sym c.in_ok-destination.ensures.ok_part ∙ c.destination.ensures) c.tree_for_segment-tree.ensures c.segment.ensures c.sources-sources.ensures.value c.l0_of.ensures (map-id _) missing in
    record { value = v; law = lawful c.args.compaction.now c.args.db_state.now _ v }

pub returns-in_err-sorted_runs : goal.returns-in_err-sorted_runs
returns-in_err-sorted_runs c =
    let none = c.in_err-sorted_runs.ensures.ok_part in
    let there = ap (option_map items_of) (sym c.in_ok-l0_sst_views.ensures.ok_part) ∙ c.look_up.ensures in
    let missing = ap (option_map items_of) (sym none) ∙ c.look_up-2.ensures in
    let p = err_from_is_err_and c.from_residual-in_err-sorted_runs.result c.from_residual-in_err-sorted_runs.ensures.1 in
    let said = refused_invalid c.look_up-2.result c.from_residual-in_err-sorted_runs.result _ _ c.in_err-sorted_runs.ensures.value none p.1 p.2 in
    let v = said ∙ run_missing view_of run_of (entry_of c.args.compaction.now) (manifest_of c.args.db_state.now) _ _ _ _ _ _ (sym c.in_ok-destination.ensures.ok_part ∙ c.destination.ensures) c.tree_for_segment-tree.ensures c.segment.ensures c.sources-sources.ensures.value c.l0_of.ensures c.compacted_of.ensures _ there missing in
    record { value = v; law = lawful c.args.compaction.now c.args.db_state.now _ v }

pub returns : goal.returns
returns c =
    let fits : SFits w64 c.args.db_state.now.last_l0_clock_tick = search rules in
    let views = ap (option_map items_of) (sym c.in_ok-l0_sst_views.ensures.ok_part) ∙ c.look_up.ensures in
    let runs = ap (option_map items_of) (sym c.in_ok-sorted_runs.ensures.ok_part) ∙ c.look_up-2.ensures in
    let v = all_found view_of run_of (entry_of c.args.compaction.now) (manifest_of c.args.db_state.now) _ _ _ _ _ _ (sym c.in_ok-destination.ensures.ok_part ∙ c.destination.ensures) c.tree_for_segment-tree.ensures c.segment.ensures c.sources-sources.ensures.value c.l0_of.ensures c.compacted_of.ensures _ _ _ _ views runs (to_z-of_z w64 _ fits) c.is_last_run.ensures in
    record { value = v; law = lawful c.args.compaction.now c.args.db_state.now _ v }
