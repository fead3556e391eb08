use Rattle.std.proofs.Common.{sym, ◌∙◌}
use Rattle.ns_tables.specs.World.{world_of}
use Rattle.ns_counters.proofs.Last.{no_waking_passes}
use Rattle.ns_counters.proofs.full.wakings_pass.Goals as goal

pub returns-else-wakes_may_pass : goal.returns-else-wakes_may_pass
returns-else-wakes_may_pass c = c.if-wakes_may_pass.false
    ∙ sym (no_waking_passes (world_of c.args.tables.now) (c.wakes_may_pass.ensures c.if-wakes_may_pass.false) c.args.change.now)
