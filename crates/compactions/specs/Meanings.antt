-- What the code's values mean.
use Rattle.std.specs.Prelude.{ℕ, map}
use Rattle.std.specs.Option.{option_map}
use Rattle.compactions.specs.declared.compactor_state.SourceId.{SourceId}
use Rattle.compactions.specs.declared.compactor_state.SourceId.TheVariants as sources
use Rattle.compactions.specs.declared.compactor_state.CompactionSpec.{CompactionSpec}
use Rattle.compactions.specs.declared.compactor_state.CompactionSpec.TheVariants.{Tiered, DrainSegment}
use Rattle.compactions.specs.declared.compactor_state.CompactionStatus.{CompactionStatus}
use Rattle.compactions.specs.declared.compactor_state.CompactionStatus.TheVariants.{Submitted, Scheduled, Running, Compacted, Completed, Failed}
use Rattle.compactions.specs.declared.compactor_state.WorkerSpec.{WorkerSpec}
use Rattle.compactions.specs.declared.compactor_state.Subcompaction.{Subcompaction}
use Rattle.compactions.specs.declared.compactor_state.CompactionContext.{CompactionContext}
use Rattle.compactions.specs.declared.compactor_state.Compaction.{Compaction}
use Rattle.compactions.specs.declared.db_state.SsTableId.{SsTableId}
use Rattle.compactions.specs.declared.db_state.SsTableView.{SsTableView}
use Rattle.compactions.specs.declared.db_state.SortedRun.{SortedRun}
use Rattle.compactions.specs.declared.manifest.LsmTreeState.{LsmTreeState}
use Rattle.compactions.specs.declared.manifest.Segment as segments
use Rattle.compactions.specs.declared.manifest.Manifest as manifests
use Rattle.table.specs.Counted.{items_of}
use Rattle.table.specs.Ids.{number}
use Rattle.compactions.specs.Entries.{Source, run, view, Spec, tiered, drain, Status, submitted, scheduled, running, compacted, completed, failed, Owner, Sub, Context, Entry}
use Rattle.compactions.specs.Trees.{View, Run, Tree, Segment, Manifest}

abbrev pub source_of : SourceId → Source
source_of (sources.SortedRun i) = run i
source_of (sources.SstView u) = view (number u)

abbrev pub spec_of : CompactionSpec → Spec
spec_of (Tiered s) = tiered (items_of s.segment) (map source_of (items_of s.sources)) s.destination
spec_of (DrainSegment s) = drain (items_of s.segment) (map source_of (items_of s.sources))

abbrev pub status_of : CompactionStatus → Status
status_of Submitted = submitted
status_of Scheduled = scheduled
status_of Running = running
status_of Compacted = compacted
status_of Completed = completed
status_of Failed = failed

abbrev pub worker_of : WorkerSpec → Owner
worker_of w = record { number = w.worker_id; stamp = w.last_heartbeat_ms }

-- an SST by its id
abbrev pub sst_of : SsTableId → ℕ
sst_of s = number s.0

abbrev pub sub_of : Subcompaction → Sub
sub_of s = record { range = s.range; outputs = map sst_of (items_of s.output_ssts) }

abbrev pub context_of : CompactionContext → Context
context_of c = record { retention = c.retention_min_seq; subs = map sub_of (items_of c.subcompactions) }

abbrev pub entry_of : Compaction → Entry
entry_of c = record {
  id = number c.id;
  spec = spec_of c.spec;
  status = status_of c.status;
  outputs = map sst_of (items_of c.output_ssts);
  worker = option_map worker_of c.worker;
  context = option_map context_of c.ctx;
}

abbrev pub view_of : SsTableView → View
view_of v = record { id = number v.id; sst = sst_of v.sst }

abbrev pub run_of : SortedRun → Run
run_of r = record { id = r.id; views = map view_of (items_of r.sst_views) }

abbrev pub tree_of : LsmTreeState → Tree
tree_of t = record { views = map view_of (items_of t.l0); runs = map run_of (items_of t.compacted) }

abbrev pub segment_of : segments.Segment → Segment
segment_of s = record { prefix = items_of s.prefix; tree = tree_of s.tree }

abbrev pub manifest_of : manifests.Manifest → Manifest
manifest_of m = record {
  root = tree_of m.tree;
  segments = map segment_of (items_of m.segments);
  tick = m.last_l0_clock_tick;
  snapshot = m.recent_snapshot_min_seq;
}
