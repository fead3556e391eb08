use Rattle.std.proofs.Common.{append-nil, ap, subst, sym, ◌≡◌, ◌++◌, ◌∙◌}
use Rattle.std.specs.FinMap.{entries}
use Rattle.std.specs.Option.{option_copied, option_map_or}
use Rattle.std.specs.Prelude.{[], OnOk, flat_map, option_map}
use Rattle.ns_nodes.specs.Losing.{job_keys_at, key_at, losing_keys_at}
use Rattle.ns_nodes.proofs.losing.add_keys_at.Goals as goal
use Rattle.ns_tables.specs.World.{tenant_of, world_of}
use Rattle.ns_tables.proofs.World.{tenant_at}

pub returns-in_default-get : goal.returns-in_default-get
returns-in_default-get c =
    let pool = c.args.pool.now in
    let node = c.args.node.now in
    let ns = c.args.slot.now.0 in
    let w = world_of c.args.tables.now in
    sym (ap (λ l. c.args.keys.now ++ l) (ap (λ slot. losing_keys_at w pool node (ns, slot)) c.in-Some.is
    ∙ ap (λ o. option_map_or (λ t. job_keys_at pool node ns t (entries c.in-Some.numbers)) o [])
    (tenant_at c.args.tables.now ns ∙ ap (option_map tenant_of) (sym c.get.ensures ∙ ap option_copied c.in_default-get.is)))
    ∙ append-nil c.args.keys.now)

pub returns : goal.returns
returns c =
    let pool = c.args.pool.now in
    let node = c.args.node.now in
    let ns = c.args.slot.now.0 in
    let w = world_of c.args.tables.now in
    let t = tenant_of c.in-Some-get.tenant.now in
    subst (λ l. OnOk c.add_keys.result (c.add_keys.new.keys ≡ c.args.keys.now ++ l))
    (ap (flat_map (key_at ns)) (c.as_slice-2.ensures ∙ ap entries c.in_ok-losing.ensures)
    ∙ ap (job_keys_at pool node ns t) c.as_slice.ensures
    ∙ sym (ap (λ slot. losing_keys_at w pool node (ns, slot)) c.in-Some.is
    ∙ ap (λ o. option_map_or (λ t. job_keys_at pool node ns t (entries c.in-Some.numbers)) o [])
    (tenant_at c.args.tables.now ns ∙ ap (option_map tenant_of) (sym c.get.ensures ∙ ap option_copied c.in-Some-get.is))))
    c.add_keys.ensures
