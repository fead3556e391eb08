use Rattle.std.proofs.Common.{sym, ◌∙◌}
use Rattle.ns_types.proofs.Lists.{left_none, right_none}
use Rattle.ns_counters.specs.Bounds.{waking_passes}
use Rattle.ns_release.specs.Released.{released_quotas, released_rooms}
use Rattle.ns_tables.specs.World.{world_of}
use Rattle.ns_counters.proofs.Entries.{any_entry}
use Rattle.ns_counters.proofs.Passing.{empty_by_any, none_wakes}
use Rattle.ns_counters.proofs.full.released_wakings_pass.Goals as goal

pub returns-then-releases : goal.returns-then-releases
returns-then-releases c = c.any_waking_passes.ensures
    ∙ any_entry c.args.tables.now (waking_passes (world_of c.args.tables.now) c.args.change.now) c.slots.result.now c.slots.ensures

pub returns-else-releases : goal.returns-else-releases
returns-else-releases c =
    let w = world_of c.args.tables.now in
    let none = sym c.releases.ensures ∙ c.if-releases.false in
    c.if-releases.false ∙ sym (none_wakes w c.args.change.now (empty_by_any (released_rooms w c.args.change.now) (left_none _ _ none))
    (empty_by_any (released_quotas w c.args.change.now) (right_none _ _ none)))
