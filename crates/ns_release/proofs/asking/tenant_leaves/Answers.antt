use Rattle.std.proofs.Common.{[], ap, sym, ◌∙◌}
use Rattle.std.specs.List.{list_any}
use Rattle.std.specs.Option.{option_map_or}
use Rattle.std.specs.Prelude.{flat_map}
use Rattle.ns_types.proofs.Elements.{any_flat}
use Rattle.ns_change.specs.Changed.{view}
use Rattle.ns_release.specs.Released.{ended_among, ended_one, rooms_ended, rooms_left}
use Rattle.ns_tables.specs.World.{tenant_of}
use Rattle.ns_release.proofs.Released.{flat_flat}
use Rattle.ns_release.proofs.asking.tenant_leaves.Goals as goal

pub returns-in-Some : goal.returns-in-Some
returns-in-Some g c =
    let p = g.Q.Question.of_room c.args.question.now in
    let after = view c.args.tables.now c.args.change.now in
    let t = tenant_of c.in-Some.tenant.now in
    let slots = c.in-Some.slots.now in
    c.any_leaves.ensures ∙ sym (any_flat p (rooms_ended after t) slots)
    ∙ ap (list_any p) (flat_flat (rooms_left after) (λ s. ended_one t s.0 s.1) slots ∙ ap (flat_map (rooms_left after))
    (sym (c.changed_allocations.ensures ∙ ap (λ r. option_map_or (λ x. ended_among (tenant_of x.0.now) x.1.now) r []) c.in-Some.is)))

pub returns-in-None : goal.returns-in-None
returns-in-None g c = sym (ap (λ l. list_any (g.Q.Question.of_room c.args.question.now)
    (flat_map (rooms_left (view c.args.tables.now c.args.change.now)) l))
    (c.changed_allocations.ensures ∙ ap (λ r. option_map_or (λ x. ended_among (tenant_of x.0.now) x.1.now) r []) c.in-None.is))
