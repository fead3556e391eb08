use Rattle.std.proofs.Common.{ap, ◌∙◌}
use Rattle.ns_types.specs.State.Rows.{offered_class}
use Rattle.ns_counters.specs.Given.{given_room_passes}
use Rattle.ns_tables.specs.World.{world_of}
use Rattle.ns_applier.proofs.Sleeping.{room_alone}
use Rattle.ns_applier.proofs.headroom.ending.Headroom.room_passes.Goals as goal

pub returns-else-self : goal.returns-else-self
returns-else-self c = c.is_last_release.ensures (offered_class c.args.offer.now)
    ∙ room_alone (world_of c.self.inside.tables.now) (c.self.invariant.0 c.if-self.false) (c.args.pool.now, offered_class c.args.offer.now)
    ∙ ap (λ w. given_room_passes w (c.args.pool.now, offered_class c.args.offer.now)) c.self.view_is
