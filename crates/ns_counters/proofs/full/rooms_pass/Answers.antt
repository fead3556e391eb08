use Rattle.std.proofs.Common.{sym, ◌∙◌}
use Rattle.ns_release.specs.Released.{released_rooms}
use Rattle.ns_tables.specs.World.{world_of}
use Rattle.ns_counters.proofs.Last.{no_room_passes}
use Rattle.ns_counters.proofs.full.rooms_pass.Goals as goal

pub returns-else-may_be_at_bound : goal.returns-else-may_be_at_bound
returns-else-may_be_at_bound c = c.if-may_be_at_bound.false ∙ sym (no_room_passes c.args.tables.now
    (c.may_be_at_bound.ensures c.if-may_be_at_bound.false) (released_rooms (world_of c.args.tables.now) c.args.change.now))
