use Rattle.std.proofs.Common.{ap, sym, ◌∙◌}
use Rattle.std.specs.List.{list_any}
use Rattle.std.specs.Option.{option_copied}
use Rattle.std.specs.FinMap.{entries}
use Rattle.ns_types.proofs.Elements.{any_flat}
use Rattle.ns_release.specs.Released.{changed_classes, in_pool, rooms_at}
use Rattle.ns_tables.specs.World.{pool_of, world_of}
use Rattle.ns_release.proofs.Offered.{changed_nowhere, changed_there}
use Rattle.ns_release.proofs.asking.pool_gives.Goals as goal

pub returns-in-Some-get : goal.returns-in-Some-get
returns-in-Some-get g c =
    let p = g.Q.Question.of_room c.args.question.now in
    let name = c.args.slot.now.0 in
    let rows = pool_of c.in-Some-get.rows.now in
    c.any_gives.ensures ∙ ap (list_any (λ slot. list_any p (rooms_at name rows slot))) c.as_slice.ensures
    ∙ sym (any_flat p (rooms_at name rows) (entries c.in-Some.change.nodes))
    ∙ ap (list_any p) (sym (ap (λ x. in_pool name (changed_classes (world_of c.args.tables.now) name x)) c.in-Some.is
    ∙ changed_there c.args.tables.now name c.in-Some-get.rows.now c.in-Some.change (sym c.get.ensures ∙ ap option_copied c.in-Some-get.is)))

pub returns-in-None : goal.returns-in-None
returns-in-None g c = sym (ap (list_any (g.Q.Question.of_room c.args.question.now))
    (changed_nowhere c.args.tables.now c.args.slot.now.0 c.args.slot.now.1 (sym c.get.ensures ∙ ap option_copied c.in-None.is)))
