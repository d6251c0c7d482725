-- A job's arguments by their meaning.
use Rattle.std.specs.Prelude.{ℕ, Bool, List, map, ℤ, Option}
use Rattle.std.specs.Option.{option_map}
use Rattle.table.specs.Ids.{number}
use Rattle.compactions.specs.declared.job_args.StartCompactionJobArgs.{StartCompactionJobArgs}
use Rattle.table.specs.Counted.{items_of}
use Rattle.compactions.specs.Entries.{Context}
use Rattle.compactions.specs.Meanings.{view_of, run_of, context_of}
use Rattle.compactions.specs.Trees.{View, Run}

-- a job's arguments
pub record Args : Type 0 where
  pub id : ℕ
  pub destination : ℕ
  pub views : List View
  pub runs : List Run
  pub tick : ℤ
  pub last_run : Bool
  pub retention : ℕ
  pub context : Option Context

abbrev pub args_of : StartCompactionJobArgs → Args
args_of a = record {
  id = number a.id;
  destination = a.destination;
  views = map view_of (items_of a.l0_sst_views);
  runs = map run_of (items_of a.sorted_runs);
  tick = a.compaction_clock_tick;
  last_run = a.is_dest_last_run;
  retention = a.retention_min_seq;
  context = option_map context_of a.ctx;
}
