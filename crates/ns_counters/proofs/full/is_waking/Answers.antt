use Rattle.std.proofs.Common.{sym, ◌∙◌, ◌&&◌, ap}
use Rattle.ns_types.specs.State.Names.{Key, has_key, same_key}
use Rattle.ns_release.specs.Released.{does_wake}
use Rattle.ns_tables.specs.World.{world_of}
use Rattle.ns_tables.proofs.World.{blocked_seen}
use Rattle.ns_counters.proofs.Entries.{any_entry, none_both}
use Rattle.ns_counters.proofs.full.is_waking.Goals as goal

pub returns-then-has : goal.returns-then-has
returns-then-has c = c.any_waking_slot.ensures ∙ any_entry c.args.tables.now (λ (key : Key). same_key (c.args.namespace.now, c.args.number) key
    && does_wake (world_of c.args.tables.now) c.args.change.now key) c.slots.result.now c.slots.ensures

pub returns-else-has : goal.returns-else-has
returns-else-has c = c.if-has.false ∙ sym (none_both (same_key (c.args.namespace.now, c.args.number)) (does_wake (world_of c.args.tables.now) c.args.change.now)
    (world_of c.args.tables.now).blocked (ap (λ keys. has_key keys (c.args.namespace.now, c.args.number)) (blocked_seen c.args.tables.now)
    ∙ sym c.has.ensures ∙ c.if-has.false))
