use Rattle.std.proofs.Common.{ap, sym, ◌∙◌, Some, None}
use Rattle.std.specs.Option.{option_copied}
use Rattle.keyed.specs.Table.{row_at}
use Rattle.ns_counters.specs.Bounds.{waking_passes_in}
use Rattle.ns_counters.proofs.Passing.{at_tenant}
use Rattle.ns_counters.proofs.full.waking_passes.Goals as goal
use Rattle.ns_tables.specs.World.{world_of}

pub returns-in-Some : goal.returns-in-Some
returns-in-Some c = c.waking_passes_in.ensures ∙ sym (at_tenant c.args.tables.now c.args.key.now.0
    (waking_passes_in (world_of c.args.tables.now) c.args.change.now c.args.key.now) (Some c.in-Some.tenant.now)
    (ap (row_at c.args.tables.now.tenants) (sym c.namespace.ensures) ∙ sym c.get.ensures ∙ ap option_copied c.in-Some.is))

pub returns-in-None : goal.returns-in-None
returns-in-None c = sym (at_tenant c.args.tables.now c.args.key.now.0
    (waking_passes_in (world_of c.args.tables.now) c.args.change.now c.args.key.now) None
    (ap (row_at c.args.tables.now.tenants) (sym c.namespace.ensures) ∙ sym c.get.ensures ∙ ap option_copied c.in-None.is))
