use Rattle.std.proofs.Common.{ap, ◌∙◌, ◌++◌}
use Rattle.std.specs.Prelude.{flat_map}
use Rattle.std.specs.FinMap.{entries}
use Rattle.ns_release.specs.Released.{changed_classes, ended_of, in_pool, rooms_left}
use Rattle.ns_change.specs.Changed.{view}
use Rattle.ns_tables.specs.World.{world_of}
use Rattle.ns_release.proofs.Released.{flat_flat}
use Rattle.ns_settlement.proofs.rooms.released_rooms.Goals as goal

pub returns : goal.returns
returns c =
    let f = rooms_left (view c.args.tables.now c.args.change.now) in
    let w = world_of c.args.tables.now in
    c.in_ok-add_tenants.ensures
    ∙ (λ i. (c.in_ok-add_pools.ensures ∙ (λ j. c.new-rooms.ensures j ++ flat_map (λ e. in_pool e.0 (changed_classes w e.0 e.1)) (c.as_slice.ensures j))) i
    ++ (ap (flat_map (λ s. flat_map f (ended_of w s.0 s.1))) c.as_slice-2.ensures ∙ flat_flat f (λ s. ended_of w s.0 s.1) (entries c.args.change.now.tenants))
    i)
