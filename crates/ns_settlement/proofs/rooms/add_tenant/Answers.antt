use Rattle.std.proofs.Common.{[], ap, sym, ◌∙◌, ◌++◌}
use Rattle.std.proofs.lemmas.List.{append-nil}
use Rattle.std.specs.Option.{option_map_or}
use Rattle.std.specs.Prelude.{flat_map}
use Rattle.ns_release.specs.Released.{ended_among, ended_one, rooms_left}
use Rattle.ns_tables.specs.World.{tenant_of}
use Rattle.ns_change.specs.Changed.{view}
use Rattle.ns_release.proofs.Released.{flat_flat}
use Rattle.ns_settlement.proofs.rooms.add_tenant.Goals as goal

pub returns-in_ok-add_all_ended : goal.returns-in_ok-add_all_ended
returns-in_ok-add_all_ended c =
    let f = rooms_left (view c.args.tables.now c.args.change.now) in
    c.in_ok-add_all_ended.ensures
    ∙ ap (λ l. c.args.rooms.now ++ l) (flat_flat f (λ s. ended_one (tenant_of c.in-Some.tenant.now) s.0 s.1) c.in-Some.slots.now
    ∙ ap (flat_map f) (sym (c.changed_allocations.ensures
    ∙ ap (λ r. option_map_or (λ x. ended_among (tenant_of x.0.now) x.1.now) r []) c.in-Some.is)))

pub returns-in_default : goal.returns-in_default
returns-in_default c = sym (ap (λ l. c.args.rooms.now ++ flat_map (rooms_left (view c.args.tables.now c.args.change.now)) l)
    (c.changed_allocations.ensures ∙ ap (λ r. option_map_or (λ x. ended_among (tenant_of x.0.now) x.1.now) r []) c.in_default.is) ∙
    append-nil c.args.rooms.now)
