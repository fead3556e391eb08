use Rattle.std.proofs.Common.{ap, not, ◌∙◌}
use Rattle.ns_types.specs.Working.Queue.{priority_at}
use Rattle.ns_broker.proofs.Preferred.{some_is_served}
use Rattle.ns_broker.proofs.looking.has_served.Goals as goal
use Rattle.ns_tables.specs.World.{world_of}

pub returns : goal.returns
unfolding world_of
returns c = let w = world_of c.args.tables.now in
    ap not c.is_empty.ensures ∙ some_is_served (priority_at w) w.ready
