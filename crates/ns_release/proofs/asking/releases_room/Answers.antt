use Rattle.std.proofs.Common.{ap, ◌∙◌}
use Rattle.std.specs.List.{list_any}
use Rattle.ns_change.proofs.Any.{or_else, or_then}
use Rattle.ns_change.specs.Changed.{view}
use Rattle.ns_release.specs.Released.{rooms_ended_in, rooms_of_pool}
use Rattle.ns_tables.specs.World.{world_of}
use Rattle.ns_release.proofs.Asked.{rooms_asked}
use Rattle.ns_release.proofs.asking.releases_room.Goals as goal

pub returns-then-any_pool_gives : goal.returns-then-any_pool_gives
returns-then-any_pool_gives g c =
    let p = g.Q.Question.of_room c.args.question.now in
    let w = world_of c.args.tables.now in
    or_then _ _ _ c.if-any_pool_gives.true (c.any_pool_gives.ensures ∙ ap (list_any (λ slot. list_any p (rooms_of_pool w slot))) c.as_slice.ensures)
    ∙ rooms_asked w c.args.change.now p

pub returns-else-any_pool_gives : goal.returns-else-any_pool_gives
returns-else-any_pool_gives g c =
    let p = g.Q.Question.of_room c.args.question.now in
    let w = world_of c.args.tables.now in
    let after = view c.args.tables.now c.args.change.now in
    or_else _ _ _ _ c.if-any_pool_gives.false (c.any_pool_gives.ensures ∙ ap (list_any (λ slot. list_any p (rooms_of_pool w slot))) c.as_slice.ensures)
    (c.any_tenant_leaves.ensures ∙ ap (list_any (λ slot. list_any p (rooms_ended_in w after slot))) c.as_slice-else-any_pool_gives.ensures)
    ∙ rooms_asked w c.args.change.now p
