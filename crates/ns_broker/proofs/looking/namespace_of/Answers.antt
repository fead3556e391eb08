use Rattle.std.proofs.Common.{sym, ◌∙◌}
use Rattle.ns_broker.proofs.looking.namespace_of.Goals as goal
use Rattle.ns_tables.specs.World.{world_of}

pub returns-then-is_known : goal.returns-then-is_known
returns-then-is_known c = c.namespace_of.ensures (world_of c.args.tables.now) (c.requires (sym c.is_known.ensures ∙ c.if-is_known.true))
