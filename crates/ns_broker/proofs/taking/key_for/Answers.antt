use Rattle.std.specs.Prelude.{Some, None, cond}
use Rattle.std.proofs.Common.{sym, ◌∙◌, ◌&&◌}
use Rattle.ns_broker.proofs.taking.key_for.Goals as goal
use Rattle.ns_types.specs.Working.Queue.{is_served}
use Rattle.ns_tables.specs.World.{world_of}

pub returns : goal.returns
returns c = c.served_as.ensures
    ∙ (λ i. cond (sym (sym c.is_worker.ensures ∙ c.if-not-is_worker.false) i && sym (sym c.is_idle.ensures ∙ c.if-not-is_idle.false) i &&
    is_served (world_of c.args.tables.now) (world_of c.args.tables.now).ready (c.args.namespace.now, c.args.evaluation))
    (Some (c.args.namespace.now, c.args.evaluation)) None)
