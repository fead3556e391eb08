use Rattle.std.proofs.Common.{ap, sym, ◌∙◌, ◌++◌}
use Rattle.std.specs.Prelude.{ℕ, List, Option, flat_map}
use Rattle.std.proofs.lemmas.List.{append-nil, drop_all}
use Rattle.ns_queues.specs.Waiting.{entries_at, entries_for}
use Rattle.ns_queues.proofs.Waiting.{entries_are}
use Rattle.ns_tables.specs.World.{world_of}
use Rattle.ns_tables.proofs.World.{blocked_seen}
use Rattle.ns_types.specs.State.Names.{Key}
use Rattle.ns_queues.proofs.blocked.entries_in.Goals as goal

pub returns : goal.returns
returns c =
    let w = world_of c.args.tables.now in
    sym (ap (λ (l : List (ℕ × Option Key)). c.loop-slot.entries ++ flat_map (entries_at w) l)
    (drop_all c.loop-slot.slot-index c.slots-slot-items.result.now c.loop-slot-test.false) ∙
    append-nil c.loop-slot.entries)
    ∙ c.loop-slot.invariant ∙ entries_are w c.slots-slot-items.result.now
    ∙ ap (entries_for w) (c.slots-slot-items.ensures ∙ sym (blocked_seen c.args.tables.now))
