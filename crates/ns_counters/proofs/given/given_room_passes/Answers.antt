use Rattle.std.proofs.Common.{ap, sym, ◌∙◌, ◌||◌, ◌∷◌, []}
use Rattle.std.specs.List.{list_any}
use Rattle.ns_types.specs.State.Rows.{offered_class}
use Rattle.ns_counters.specs.Given.{given_waking_passes}
use Rattle.ns_counters.proofs.given.given_room_passes.Goals as goal
use Rattle.ns_tables.specs.World.{world_of}

pub returns-else-is_room : goal.returns-else-is_room
returns-else-is_room c =
    let w = world_of c.args.tables.now in
    let passes = given_waking_passes w ((c.args.pool.now, offered_class c.args.offer.now) ∷ []) [] in
    c.wakings_pass.ensures ∙ ap (λ b. b || list_any passes w.blocked) (sym (sym c.is_room.ensures ∙ c.if-is_room.false))
