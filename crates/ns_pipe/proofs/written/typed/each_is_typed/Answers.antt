use Rattle.ns_pipe.proofs.Entries.{typed_more}
use Rattle.ns_pipe.proofs.written.typed.each_is_typed.Goals as goal

pub loop-entry-preserved : goal.loop-entry-preserved
loop-entry-preserved c =
    typed_more c.args.entries.now c.loop-entry.entry-index c.entry-item.result c.loop-entry-test.true c.entry-item.is c.loop-entry.invariant
    c.is_typed.ensures
