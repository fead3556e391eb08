use Rattle.std.proofs.Common.{[], ◌∷◌, sym, ◌∙◌}
use Rattle.ns_counters.proofs.Last.{no_room_passes}
use Rattle.ns_tables.specs.World.{world_of}
use Rattle.ns_types.proofs.Lists.{left_none}
use Rattle.ns_applier.proofs.Sleeping.{room_alone}
use Rattle.ns_applier.proofs.headroom.ending.rooms_may_pass.Goals as goal

pub returns-else-wakes : goal.returns-else-wakes
returns-else-wakes c none room = sym (room_alone (world_of c.args.tables.now) (c.requires c.if-wakes.false) room)
    ∙ left_none _ _ (no_room_passes c.args.tables.now (c.may_be_at_bound.ensures none) (room ∷ []))
