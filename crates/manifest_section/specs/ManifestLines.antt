-- The lines of a manifest, each as a step on what was read.
use Rattle.std.specs.Prelude.{ℕ, Bool, true, false, cond, ◌&&◌, List, [], ◌∷◌, map, length, ℤ, pos, is_some, Some, None, Ok, Err, codes, Option, Result, nat_le, nat_lt}
use Rattle.std.specs.Option.{option_map, unwrap_or}
use Rattle.std.specs.Str.{bytes_eq}
use Rattle.table.specs.Counted.{items_of}
use Rattle.compactions.specs.Meanings.{tree_of, manifest_of}
use Rattle.compactions.specs.Prefixes.{before, latest}
use Rattle.compactions.specs.Trees.{View, Run, Tree, Manifest, more_views, more_tree_views, more_tree_runs, more_segments}
use Rattle.compactions.specs.declared.refusal.Refusal.TheVariants as refusals
use Rattle.paper_text.specs.Words.{only_word}
use Rattle.paper_text.specs.Numbers.{u32_of, u64_of, signed_of, view_in, segment_of, held}
use Rattle.manifest_section.specs.declared.draft.ManifestDraft.{ManifestDraft}
use Rattle.problems.specs.declared.error.Limit.{Limit}
use Rattle.problems.specs.declared.error.Limit.TheVariants.{RunViews, TreeViews, TreeRuns, PrefixLength, Segments, PrefixOrder}
use Rattle.problems.specs.declared.error.Problem.{Problem}
use Rattle.problems.specs.declared.error.Problem.TheVariants as problems
use Rattle.problems.specs.declared.expected.InManifest.TheVariants as expected
use Rattle.problems.specs.Limits.{refusal_of}
use Rattle.problems.specs.Outcomes.{then, or_else, with_word}

-- a manifest as far as it was read: the trees that are complete, the tree at hand, which is the
-- root's or that of the segment with the prefix, and whether the two numbers were given
pub record Begun : Type 0 where
  pub done : Manifest
  pub tree : Tree
  pub prefix : Option (List ℕ)
  pub has_tick : Bool
  pub has_snapshot : Bool

-- a manifest with the numbers that were given, and 0 for one that was not
abbrev pub numbered : Manifest → Option ℤ → Option ℕ → Manifest
numbered m t n = record { root = m.root; segments = m.segments; tick = unwrap_or t (pos 0); snapshot = unwrap_or n 0 }

abbrev pub begun_of : ManifestDraft → Begun
begun_of d = record { done = numbered (manifest_of d.manifest) d.tick d.snapshot; tree = tree_of d.tree; prefix = option_map items_of d.prefix; has_tick = is_some d.tick; has_snapshot = is_some d.snapshot }

-- a tree without views and runs
abbrev pub bare : Tree
bare = record { views = []; runs = [] }

-- nothing but the line `manifest`
abbrev pub nothing_read : Begun
nothing_read = record { done = record { root = bare; segments = []; tick = pos 0; snapshot = 0 }; tree = bare; prefix = None; has_tick = false; has_snapshot = false }

-- with another tree at hand
abbrev pub with_tree : Begun → Tree → Begun
with_tree d t = record { done = d.done; tree = t; prefix = d.prefix; has_tick = d.has_tick; has_snapshot = d.has_snapshot }

-- with another tick, and with another snapshot number
abbrev pub with_tick : Begun → ℤ → Begun
with_tick d t = record { done = record { root = d.done.root; segments = d.done.segments; tick = t; snapshot = d.done.snapshot }; tree = d.tree; prefix = d.prefix; has_tick = true; has_snapshot = d.has_snapshot }

abbrev pub with_snapshot : Begun → ℕ → Begun
with_snapshot d n = record { done = record { root = d.done.root; segments = d.done.segments; tick = d.done.tick; snapshot = n }; tree = d.tree; prefix = d.prefix; has_tick = d.has_tick; has_snapshot = true }

abbrev pub tick_line : List (List ℕ) → Begun → Result Begun Problem
tick_line ws d =
    cond d.has_tick (Err (problems.Manifest expected.OneTick))
    (then (or_else (with_word signed_of (only_word ws)) (problems.Manifest expected.Tick)) (λ t. Ok (with_tick d t)))

abbrev pub snapshot_line : List (List ℕ) → Begun → Result Begun Problem
snapshot_line ws d =
    cond d.has_snapshot (Err (problems.Manifest expected.OneSnapshot))
    (then (or_else (with_word u64_of (only_word ws)) (problems.Manifest expected.Snapshot)) (λ n. Ok (with_snapshot d n)))

-- one view more in a tree
abbrev pub view_added : Tree → View → Result Tree Problem
view_added t v = cond (nat_lt (length t.views) 16) (Ok (more_tree_views v t)) (Err (problems.Refused refusals.ManifestCount TreeViews))

abbrev pub view_line : List (List ℕ) → Tree → Result Tree Problem
view_line ws t = then (or_else (with_word view_in (only_word ws)) (problems.Manifest expected.View)) (view_added t)

-- one view more in a run
abbrev pub run_view_added : Run → View → Result Run Problem
run_view_added r v = cond (nat_lt (length r.views) 8) (Ok (more_views v r)) (Err (problems.Refused refusals.Count RunViews))

-- the same, as a word writes it
abbrev pub with_view : List ℕ → Run → Result Run Problem
with_view w r = then (or_else (view_in w) (problems.Manifest expected.View)) (run_view_added r)

abbrev pub with_views : List (List ℕ) → Run → Result Run Problem
with_views [] r = Ok r
with_views (w ∷ ws) r = then (with_view w r) (with_views ws)

-- a run's number, then its views
abbrev pub run_in : List (List ℕ) → Result Run Problem
run_in [] = Err (problems.Manifest expected.Run)
run_in (n ∷ ws) = then (or_else (u32_of n) (problems.Manifest expected.Run)) (λ i. with_views ws (record { id = i; views = [] }))

-- one run more in a tree
abbrev pub run_added : Tree → Run → Result Tree Problem
run_added t r = cond (nat_lt (length t.runs) 8) (Ok (more_tree_runs r t)) (Err (problems.Refused refusals.ManifestCount TreeRuns))

abbrev pub run_line : List (List ℕ) → Tree → Result Tree Problem
run_line ws t = then (run_in ws) (run_added t)

-- one segment more, whose prefix stands above the last one
abbrev pub segment_added : Manifest → List ℕ → Tree → Result Manifest Problem
segment_added m p t =
    cond (nat_le (length p) 16 && nat_lt (length m.segments) 8)
    (cond (before (latest [] (map (λ s. s.prefix) m.segments)) p) (Ok (more_segments (record { prefix = p; tree = t }) m)) (Err (problems.Refused refusals.Prefix PrefixOrder)))
    (Err (problems.Refused refusals.ManifestCount Segments))

-- the manifest with another root
abbrev pub with_root : Manifest → Tree → Manifest
with_root m t = record { root = t; segments = m.segments; tick = m.tick; snapshot = m.snapshot }

-- the manifest with the tree at hand
abbrev pub manifest_read : Begun → Result Manifest Problem
manifest_read d = elim d.prefix [ None ↦ Ok (with_root d.done d.tree) | Some p ↦ segment_added d.done p d.tree ]

-- the tree of a segment begins
abbrev pub segment_begun : Begun → List ℕ → Manifest → Begun
segment_begun d p m = record { done = m; tree = bare; prefix = Some p; has_tick = d.has_tick; has_snapshot = d.has_snapshot }

-- the tree at hand is complete, and the next prefix must be one that a segment can have
abbrev pub segment_tried : Begun → List ℕ → Result Begun Problem
segment_tried d p = then (manifest_read d) (λ m. then (segment_added m p bare) (λ tried. Ok (segment_begun d p m)))

-- the prefix that a line writes, if it has at most 16 bytes
abbrev pub prefix_by : Option (Result (List ℕ) Limit) → Result (List ℕ) Problem
prefix_by None = Err (problems.Manifest expected.Segment)
prefix_by (Some (Err l)) = Err (problems.Refused (refusal_of l) l)
prefix_by (Some (Ok bs)) = Ok bs

abbrev pub segment_line : List (List ℕ) → Begun → Result Begun Problem
segment_line ws d = then (prefix_by (option_map (held PrefixLength) (segment_of ws))) (segment_tried d)

-- a line of a manifest, by its keyword; none where it is not of a manifest
abbrev pub manifest_line : List ℕ → List (List ℕ) → Begun → Option (Result Begun Problem)
manifest_line k ws d =
    cond (bytes_eq k (codes "tick")) (Some (tick_line ws d))
    (cond (bytes_eq k (codes "snapshot")) (Some (snapshot_line ws d))
    (cond (bytes_eq k (codes "view")) (Some (then (view_line ws d.tree) (λ t. Ok (with_tree d t))))
    (cond (bytes_eq k (codes "run")) (Some (then (run_line ws d.tree) (λ t. Ok (with_tree d t))))
    (cond (bytes_eq k (codes "segment")) (Some (segment_line ws d)) None))))
