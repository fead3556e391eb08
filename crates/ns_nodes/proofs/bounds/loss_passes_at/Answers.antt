use Rattle.std.proofs.Common.{ap, sym, false, ◌∙◌}
use Rattle.std.specs.FinMap.{entries}
use Rattle.std.specs.Option.{option_copied, option_map_or}
use Rattle.std.specs.Prelude.{option_map}
use Rattle.ns_nodes.specs.Losing.{loss_passes_at, tenant_passes_at}
use Rattle.ns_nodes.proofs.bounds.loss_passes_at.Goals as goal
use Rattle.ns_tables.specs.World.{tenant_of, world_of}
use Rattle.ns_tables.proofs.World.{tenant_at}

pub returns-in-Some-get : goal.returns-in-Some-get
returns-in-Some-get c =
    let w = world_of c.args.tables.now in
    let pool = c.args.pool.now in
    let node = c.args.node.now in
    let ns = c.args.slot.now.0 in
    c.tenant_passes.ensures ∙ ap (tenant_passes_at w pool node (tenant_of c.in-Some-get.tenant.now)) c.as_slice.ensures
    ∙ sym (ap (λ o. option_map_or (λ t. tenant_passes_at w pool node t (entries c.in-Some.numbers)) o false)
    (tenant_at c.args.tables.now ns ∙ ap (option_map tenant_of) (sym c.get.ensures ∙ ap option_copied c.in-Some-get.is)))
    ∙ sym (ap (λ slot. loss_passes_at w pool node (ns, slot)) c.in-Some.is)

pub returns-in-None : goal.returns-in-None
returns-in-None c =
    let w = world_of c.args.tables.now in
    let pool = c.args.pool.now in
    let node = c.args.node.now in
    let ns = c.args.slot.now.0 in
    sym (ap (λ slot. loss_passes_at w pool node (ns, slot)) c.in-Some.is
    ∙ ap (λ o. option_map_or (λ t. tenant_passes_at w pool node t (entries c.in-Some.numbers)) o false)
    (tenant_at c.args.tables.now ns ∙ ap (option_map tenant_of) (sym c.get.ensures ∙ ap option_copied c.in-None.is)))
