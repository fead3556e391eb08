use Rattle.std.proofs.Common.{ap, sym, ◌∙◌}
use Rattle.ns_types.specs.Working.Queue.{served}
use Rattle.ns_broker.proofs.looking.served_ready.Goals as goal
use Rattle.ns_tables.specs.World.{world_of}

pub returns-then-is_known : goal.returns-then-is_known
returns-then-is_known c = c.served.ensures (world_of c.args.tables.now) (c.requires (sym c.is_known.ensures ∙ c.if-is_known.true))

pub returns-else-is_known : goal.returns-else-is_known
unfolding world_of
returns-else-is_known c = c.served-else-is_known.ensures
