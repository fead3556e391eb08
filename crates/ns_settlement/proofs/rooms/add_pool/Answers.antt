use Rattle.std.proofs.Common.{ap, sym, ◌∙◌, ◌++◌}
use Rattle.std.proofs.lemmas.List.{append-nil}
use Rattle.std.specs.Option.{option_copied}
use Rattle.std.specs.Prelude.{flat_map}
use Rattle.ns_release.specs.Released.{changed_classes, in_pool, rooms_at}
use Rattle.ns_tables.specs.World.{pool_of, world_of}
use Rattle.ns_release.proofs.Offered.{changed_nowhere, changed_there}
use Rattle.ns_settlement.proofs.rooms.add_pool.Goals as goal

pub returns-in_ok-add_all_changed : goal.returns-in_ok-add_all_changed
returns-in_ok-add_all_changed c = c.in_ok-add_all_changed.ensures
    ∙ ap (λ slots. c.args.rooms.now ++ flat_map (rooms_at c.args.slot.now.0 (pool_of c.in-Some-get.rows.now)) slots) c.as_slice.ensures
    ∙ ap (λ l. c.args.rooms.now ++ l) (sym (ap (λ x. in_pool c.args.slot.now.0 (changed_classes (world_of c.args.tables.now) c.args.slot.now.0 x)) c.in-Some.is
    ∙ changed_there c.args.tables.now c.args.slot.now.0 c.in-Some-get.rows.now c.in-Some.change (sym c.get.ensures ∙ ap option_copied c.in-Some-get.is)))

pub returns-in_default-get : goal.returns-in_default-get
returns-in_default-get c = sym (ap (λ l. c.args.rooms.now ++ l)
    (changed_nowhere c.args.tables.now c.args.slot.now.0 c.args.slot.now.1 (sym c.get.ensures ∙ ap option_copied c.in_default-get.is)) ∙
    append-nil c.args.rooms.now)
