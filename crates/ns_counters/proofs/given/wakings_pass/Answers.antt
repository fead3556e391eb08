use Rattle.std.proofs.Common.{sym, ◌∙◌}
use Rattle.ns_counters.specs.Given.{given_waking_passes}
use Rattle.ns_tables.specs.World.{world_of}
use Rattle.ns_counters.proofs.Entries.{any_entry}
use Rattle.ns_counters.proofs.Last.{none_given_passes}
use Rattle.ns_counters.proofs.given.wakings_pass.Goals as goal

pub returns-then-wakes_may_pass : goal.returns-then-wakes_may_pass
returns-then-wakes_may_pass g c = c.any_waking_passes.ensures ∙ any_entry c.args.tables.now
    (given_waking_passes (world_of c.args.tables.now) (g.G.Given.rooms c.args.given.now) (g.G.Given.quotas c.args.given.now)) c.slots.result.now c.slots.ensures

pub returns-else-wakes_may_pass : goal.returns-else-wakes_may_pass
returns-else-wakes_may_pass g c = c.if-wakes_may_pass.false
    ∙ sym (none_given_passes (world_of c.args.tables.now) (c.wakes_may_pass.ensures c.if-wakes_may_pass.false)
    (g.G.Given.rooms c.args.given.now) (g.G.Given.quotas c.args.given.now))
