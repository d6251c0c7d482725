use Rattle.std.proofs.Common.{rules}
use Rattle.executors.specs.Notices.{notice_of}
use Rattle.executors.specs.Jobs.{args_in}
use Rattle.executors.specs.Tables.{table_of}
use Rattle.executors.proofs.Finds.{found}
use Rattle.executors.proofs.list_executor.ListNoticesNextNotice.next_notice.Goals as goal

pub returns : goal.returns
returns c =
    let p = found notice_of (args_in (table_of c.args.jobs.now)) _ _ (λ x b q k. search rules) _ _ _ c.find.ensures.ran in
    rw (c.copied.ensures, ← c.self.view_is) (record { notice = p.0; behind = p.1 })
