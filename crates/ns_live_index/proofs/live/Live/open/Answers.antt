use Rattle.std.proofs.Common.{ap, sym, ◌∙◌}
use Rattle.std.specs.FinMap.{get-empty}
use Rattle.std.specs.Option.{option_copied, option_map_or}
use Rattle.keyed.specs.Table.{flat, row_at}
use Rattle.ns_types.specs.State.Names.{name_cmp}
use Rattle.ns_types.specs.State.Resources.{none}
use Rattle.keyed.proofs.Tables.{slot_made}
use Rattle.ns_types.proofs.Named.{names, one_name}
use Rattle.ns_live_index.specs.Levels.{has_node_room, holds_here, holds_on_node, load_on}
use Rattle.ns_live_index.specs.declared.pool_keys.NodeKeys.{NodeKeys}
use Rattle.ns_live_index.specs.declared.pool_keys.PoolKeys.{PoolKeys}
use Rattle.ns_live_index.specs.declared.live.Live.{Live}
use Rattle.keyed.proofs.Levels.{begun, none_there, only_slot, row_written, says_nothing}
use Rattle.keyed.proofs.Values.{begun_value, slot_value}
use Rattle.ns_live_index.proofs.live.Live.open.Goals as goal

pub set-requires : goal.set-requires
set-requires c = slot_made names _ _ _ c.in_ok-reserve.ensures.ok

pub returns-then-is_none-clause-same : goal.returns-then-is_none-clause-same
returns-then-is_none-clause-same c = begun (λ (s : Live). s.pools) holds_on_node has_node_room c.args.self.now
    (record c.args.self.now { pools = c.reserve.new.self }) _
    c.args.pool.now _ c.in_ok-reserve.ensures.ok
    (sym c.get.ensures ∙ ap option_copied (none_there c.get.result c.if-is_none.ensures))
    (says_nothing (λ (s : PoolKeys). s.nodes) holds_here c.new.result c.new.ensures) c.set.ensures

pub returns-then-is_none-clause-loads : goal.returns-then-is_none-clause-loads
returns-then-is_none-clause-loads c p n = begun_value names one_name none load_on c.args.self.now.pools c.reserve.new.self _
    c.args.pool.now _ c.in_ok-reserve.ensures.ok
    (sym c.get.ensures ∙ ap option_copied (none_there c.get.result c.if-is_none.ensures))
    (λ n. ap (λ r. option_map_or (λ (on : NodeKeys). on.load) r none) (ap (λ m. row_at m n) c.new.ensures ∙ ap flat (get-empty name_cmp n))) c.set.ensures p n

pub returns-then-is_none-clause-ok : goal.returns-then-is_none-clause-ok
returns-then-is_none-clause-ok c = row_written names _ _ _ _ c.set.ensures

pub returns-else-is_none-clause-same : goal.returns-else-is_none-clause-same
returns-else-is_none-clause-same c = only_slot (λ (s : Live). s.pools) holds_on_node has_node_room c.args.self.now _ c.args.pool.now
    c.in_ok-reserve.ensures.ok

pub returns-else-is_none-clause-loads : goal.returns-else-is_none-clause-loads
returns-else-is_none-clause-loads c p n = slot_value names one_name none load_on c.args.self.now.pools _ c.args.pool.now c.in_ok-reserve.ensures.ok p n
