use Rattle.std.proofs.Common.{ap, sym, ◌∙◌}
use Rattle.std.specs.Option.{option_copied}
use Rattle.ns_broker.proofs.Dequeued.{served_it, served_none, served_other}
use Rattle.ns_broker.proofs.taking.served_as.Goals as goal
use Rattle.ns_tables.specs.World.{world_of}

pub returns-in_default : goal.returns-in_default
returns-in_default c = served_none (world_of c.args.tables.now) (world_of c.args.tables.now).ready (c.args.namespace.now, c.args.number)
    (sym c.served_ready.ensures ∙ ap option_copied c.in_default.is)

pub returns-then-is_key : goal.returns-then-is_key
returns-then-is_key c = served_it (world_of c.args.tables.now) (world_of c.args.tables.now).ready (c.args.namespace.now, c.args.number) c.in-Some.next.now
    (sym c.served_ready.ensures ∙ ap option_copied c.in-Some.is) (sym c.is_key.ensures ∙ c.if-is_key.true)

pub returns-else-is_key : goal.returns-else-is_key
returns-else-is_key c = served_other (world_of c.args.tables.now) (world_of c.args.tables.now).ready (c.args.namespace.now, c.args.number) c.in-Some.next.now
    (sym c.served_ready.ensures ∙ ap option_copied c.in-Some.is) (sym c.is_key.ensures ∙ c.if-is_key.false)
