use Rattle.std.specs.Prelude.{false, flat_map, ◌++◌}
use Rattle.std.proofs.Common.{ap, subst, sym, ◌∙◌}
use Rattle.std.specs.Option.{option_copied, option_map_or}
use Rattle.keyed.specs.Levels.{holds_key}
use Rattle.ns_nodes.specs.Losing.{IsLiveSet, slot_keys}
use Rattle.ns_nodes.proofs.Indexed.{live_keys_are, none_live}
use Rattle.ns_nodes.proofs.lost.live_keys.Goals as goal
use Rattle.ns_tables.specs.World.{world_of}

pub returns-in_default : goal.returns-in_default
returns-in_default c =
    let pool = c.args.pool.now in
    let node = c.args.node.now in
    let w = world_of c.args.tables.now in
    subst (IsLiveSet w pool node) (sym c.new-keys.ensures) (none_live w pool node (λ key.
    sym (c.requires.index.keys pool node key) ∙ sym (c.keys_on.ensures key)
    ∙ ap (λ o. option_map_or (λ keys. holds_key keys key) (option_copied o) false) c.in_default.is))

pub returns : goal.returns
returns c =
    let pool = c.args.pool.now in
    let node = c.args.node.now in
    let w = world_of c.args.tables.now in
    subst (IsLiveSet w pool node)
    (sym (c.in_ok-add_namespaces.ensures ∙ (λ i. c.new-keys.ensures i ++ flat_map slot_keys (c.as_slice.ensures i))))
    (live_keys_are w pool node c.in-Some.held.now (λ key.
    sym (ap (λ o. option_map_or (λ keys. holds_key keys key) (option_copied o) false) c.in-Some.is)
    ∙ c.keys_on.ensures key ∙ c.requires.index.keys pool node key))
