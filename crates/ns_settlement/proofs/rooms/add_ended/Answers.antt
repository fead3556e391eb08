use Rattle.std.proofs.Common.{ap, sym, ◌∙◌, ◌++◌}
use Rattle.std.proofs.lemmas.List.{append-nil}
use Rattle.std.specs.Option.{option_copied}
use Rattle.std.specs.Prelude.{flat_map}
use Rattle.ns_release.specs.Released.{ended_list, rooms_left}
use Rattle.ns_tables.specs.World.{tenant_of}
use Rattle.ns_change.specs.Changed.{view}
use Rattle.ns_settlement.proofs.rooms.add_ended.Goals as goal

pub returns-in_ok-add_left : goal.returns-in_ok-add_left
returns-in_ok-add_left c =
    let f = rooms_left (view c.args.tables.now c.args.change.now) in
    c.in_ok-add_left.ensures
    ∙ ap (λ l. c.args.rooms.now ++ l) (sym (append-nil (f (c.args.tenant.now.namespace, c.in-Some.allocation.now))) ∙
    sym (ap (flat_map f) (c.ended.ensures ∙ ap (ended_list (tenant_of c.args.tenant.now)) (ap option_copied c.in-Some.is))))
