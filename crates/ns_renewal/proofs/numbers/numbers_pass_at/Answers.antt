use Rattle.std.proofs.Common.{sym, ◌∙◌, ap, false}
use Rattle.std.specs.Option.{option_copied, option_map, option_map_or}
use Rattle.ns_renewal.specs.Losing.{numbers_pass_in, victims_at}
use Rattle.ns_renewal.proofs.Counting.{enough}
use Rattle.ns_renewal.proofs.numbers.numbers_pass_at.Goals as goal
use Rattle.ns_tables.proofs.World.{tenant_at}
use Rattle.ns_tables.specs.World.{tenant_of, world_of}

pub returns-in_default : goal.returns-in_default
returns-in_default g c =
    let victims = victims_at (world_of c.args.tables.now) (g.E.Evictions.list c.args.evictions) in
    sym (ap (λ o. option_map_or (numbers_pass_in victims c.args.namespace.now) o false) (tenant_at c.args.tables.now c.args.namespace.now
    ∙ ap (option_map tenant_of) (sym c.get.ensures ∙ ap option_copied c.in_default.is)))

pub returns-then-has_numbers : goal.returns-then-has_numbers
returns-then-has_numbers g c =
    let victims = victims_at (world_of c.args.tables.now) (g.E.Evictions.list c.args.evictions) in
    enough (world_of c.args.tables.now) (g.E.Evictions.list c.args.evictions) c.args.namespace.now (tenant_of c.in-Some.tenant.now) c.args.count c.requires
    (c.has_numbers.ensures c.if-has_numbers.true)
    ∙ sym (ap (λ o. option_map_or (numbers_pass_in victims c.args.namespace.now) o false) (tenant_at c.args.tables.now c.args.namespace.now
    ∙ ap (option_map tenant_of) (sym c.get.ensures ∙ ap option_copied c.in-Some.is)))

pub returns : goal.returns
returns g c =
    let victims = victims_at (world_of c.args.tables.now) (g.E.Evictions.list c.args.evictions) in
    c.numbers_pass_in.ensures
    ∙ sym (ap (λ o. option_map_or (numbers_pass_in victims c.args.namespace.now) o false) (tenant_at c.args.tables.now c.args.namespace.now
    ∙ ap (option_map tenant_of) (sym c.get.ensures ∙ ap option_copied c.in-Some.is)))
