use Rattle.std.proofs.Common.{ap, ◌∙◌}
use Rattle.ns_types.specs.Working.Queue.{served}
use Rattle.ns_broker.proofs.looking.first_plan.Goals as goal
use Rattle.ns_tables.specs.World.{world_of}

pub returns : goal.returns
unfolding world_of
returns c = c.served.ensures
