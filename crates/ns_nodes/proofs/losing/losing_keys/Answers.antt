use Rattle.std.specs.Prelude.{false, flat_map, ◌++◌}
use Rattle.std.proofs.Common.{ap, sym, ◌∙◌}
use Rattle.std.specs.Option.{option_copied, option_map_or}
use Rattle.keyed.specs.Levels.{holds_key}
use Rattle.ns_nodes.specs.Losing.{losing_keys_at}
use Rattle.ns_nodes.proofs.Indexed.{losing_are, none_losing}
use Rattle.ns_nodes.proofs.losing.losing_keys.Goals as goal
use Rattle.ns_tables.specs.World.{world_of}

pub returns-in_default : goal.returns-in_default
returns-in_default c = c.new-keys.ensures
    ∙ sym (none_losing (world_of c.args.tables.now) c.args.pool.now c.args.node.now (λ key.
    sym (c.requires.index.keys c.args.pool.now c.args.node.now key) ∙ sym (c.keys_on.ensures key)
    ∙ ap (λ o. option_map_or (λ keys. holds_key keys key) (option_copied o) false) c.in_default.is))

pub returns : goal.returns
returns c =
    let pool = c.args.pool.now in
    let node = c.args.node.now in
    let w = world_of c.args.tables.now in
    c.in_ok-add_all_keys.ensures
    ∙ (λ i. c.new-keys.ensures i ++ flat_map (losing_keys_at w pool node) (c.as_slice.ensures i))
    ∙ sym (losing_are w pool node c.in-Some.held.now (λ key.
    sym (ap (λ o. option_map_or (λ keys. holds_key keys key) (option_copied o) false) c.in-Some.is)
    ∙ c.keys_on.ensures key ∙ c.requires.index.keys pool node key))
