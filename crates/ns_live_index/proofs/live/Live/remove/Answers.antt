use Rattle.std.proofs.Common.{ap, refl, sym, ◌∙◌}
use Rattle.std.specs.Prelude.{Some}
use Rattle.std.specs.FinMap.{insert}
use Rattle.std.specs.Option.{option_copied_mut}
use Rattle.ns_types.specs.State.Names.{same_key}
use Rattle.ns_types.specs.State.Resources.{none}
use Rattle.ns_types.proofs.Named.{names, one_name}
use Rattle.keyed.specs.Levels.{same_at}
use Rattle.ns_live_index.specs.Levels.{has_node_room, has_room_here, holds_here, holds_on_node, load_on, stands_on}
use Rattle.ns_live_index.specs.Moving.{MovesLoad, part_on}
use Rattle.ns_live_index.specs.declared.pool_keys.PoolKeys.{PoolKeys}
use Rattle.ns_live_index.specs.declared.live.Live.{Live}
use Rattle.keyed.proofs.Levels.{drops_at, drops_all, drops_none, row_here, says_nothing}
use Rattle.keyed.proofs.Values.{gone_value, left_value, none_left}
use Rattle.ns_live_index.proofs.LoadLevels.{moves_none}
use Rattle.ns_live_index.proofs.live.Live.remove.Goals as goal

pub returns-in_default-clause-dropped : goal.returns-in_default-clause-dropped
returns-in_default-clause-dropped c = drops_none (λ (s : Live). s.pools) holds_on_node has_node_room c.args.self.now c.args.pool.now
    (c.args.node.now, (c.args.namespace.now, c.args.number)) (same_at same_key)
    (sym c.get_mut.ensures.value ∙ ap option_copied_mut c.in_default.is)

pub returns-then-is_empty-clause-dropped : goal.returns-then-is_empty-clause-dropped
returns-then-is_empty-clause-dropped c =
    let there = sym c.get_mut.ensures.value ∙ ap option_copied_mut c.in-Some.is in
    let left = drops_at (λ (s : Live). s.pools) holds_on_node has_node_room c.args.self.now
    (record c.args.self.now { pools = insert c.args.self.now.pools c.args.pool.now (Some c.remove.new.self) }) c.args.pool.now c.in-Some.nodes.now
    c.remove.new.self there refl (same_at same_key) (c.args.node.now, (c.args.namespace.now, c.args.number)) c.remove.ensures.keys in
    let empty = c.is_empty.ensures c.if-is_empty.true in
    drops_all (λ (s : Live). s.pools) holds_on_node has_node_room c.args.self.now _ _ c.args.pool.now
    (c.args.node.now, (c.args.namespace.now, c.args.number)) (same_at same_key) left
    c.remove.new.self (row_here names _ _ _ _ refl) (says_nothing (λ (s : PoolKeys). s.nodes) holds_here c.remove.new.self empty)
    (says_nothing (λ (s : PoolKeys). s.nodes) has_room_here c.remove.new.self empty) c.remove-then-is_empty.ensures

pub returns-else-is_empty-clause-dropped : goal.returns-else-is_empty-clause-dropped
returns-else-is_empty-clause-dropped c = drops_at (λ (s : Live). s.pools) holds_on_node has_node_room c.args.self.now _ c.args.pool.now c.in-Some.nodes.now
    c.remove.new.self (sym c.get_mut.ensures.value ∙ ap option_copied_mut c.in-Some.is) refl (same_at same_key)
    (c.args.node.now, (c.args.namespace.now, c.args.number)) c.remove.ensures.keys

pub returns-in_default-clause-loads : goal.returns-in_default-clause-loads
returns-in_default-clause-loads c = none_left names one_name none load_on MovesLoad moves_none stands_on
    (λ n. part_on c.args.node.now n c.args.size) c.args.self.now.pools c.args.pool.now
    (sym c.get_mut.ensures.value ∙ ap option_copied_mut c.in_default.is)

pub returns-then-is_empty-clause-loads : goal.returns-then-is_empty-clause-loads
returns-then-is_empty-clause-loads c = gone_value names one_name none load_on MovesLoad moves_none stands_on
    (λ n. part_on c.args.node.now n c.args.size) c.args.self.now.pools
    (insert c.args.self.now.pools c.args.pool.now (Some c.remove.new.self)) _ c.args.pool.now c.remove-then-is_empty.ensures
    (left_value names one_name none load_on MovesLoad moves_none stands_on (λ n. part_on c.args.node.now n c.args.size)
    c.args.self.now.pools _ c.args.pool.now c.in-Some.nodes.now c.remove.new.self
    (sym c.get_mut.ensures.value ∙ ap option_copied_mut c.in-Some.is) refl c.remove.ensures.loads)

pub returns-else-is_empty-clause-loads : goal.returns-else-is_empty-clause-loads
returns-else-is_empty-clause-loads c = left_value names one_name none load_on MovesLoad moves_none stands_on
    (λ n. part_on c.args.node.now n c.args.size) c.args.self.now.pools _ c.args.pool.now
    c.in-Some.nodes.now c.remove.new.self (sym c.get_mut.ensures.value ∙ ap option_copied_mut c.in-Some.is) refl c.remove.ensures.loads
