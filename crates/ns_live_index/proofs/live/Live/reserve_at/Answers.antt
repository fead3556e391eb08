use Rattle.std.proofs.Common.{ap, refl, sym, ◌∙◌}
use Rattle.std.specs.Prelude.{Some}
use Rattle.std.specs.FinMap.{insert}
use Rattle.std.specs.Option.{option_copied_mut}
use Rattle.keyed.proofs.Levels.{keeps_at, keeps_then, room_here}
use Rattle.keyed.proofs.Values.{same_value}
use Rattle.ns_types.specs.State.Resources.{none}
use Rattle.ns_types.proofs.Named.{names, one_name}
use Rattle.ns_types.proofs.Results.{on_ok}
use Rattle.ns_live_index.specs.Levels.{has_node_room, has_pool_room, holds_in_pool, holds_on_node, load_on}
use Rattle.ns_live_index.specs.declared.live.Live.{Live}
use Rattle.ns_live_index.proofs.live.Live.reserve_at.Goals as goal

pub returns-in-Some-clause-same : goal.returns-in-Some-clause-same
returns-in-Some-clause-same c = keeps_at (λ (s : Live). s.pools) holds_on_node has_node_room c.args.self.now _ c.args.pool.now c.in-Some.nodes.now
    c.reserve.new.self (sym c.get_mut.ensures.value ∙ ap option_copied_mut c.in-Some.is) refl c.reserve.ensures.same

pub returns-in-Some-clause-ok : goal.returns-in-Some-clause-ok
returns-in-Some-clause-ok c = on_ok c.reserve.result (room_here (λ (s : Live). s.pools) holds_on_node has_node_room c.args.self.now
    (record c.args.self.now { pools = insert c.args.self.now.pools c.args.pool.now (Some c.reserve.new.self) }) c.args.pool.now c.in-Some.nodes.now
    c.reserve.new.self (sym c.get_mut.ensures.value ∙ ap option_copied_mut c.in-Some.is) refl (c.args.node.now, (c.args.namespace.now, c.args.number)))
    c.reserve.ensures.ok

pub returns-in_err-reserve-clause-same : goal.returns-in_err-reserve-clause-same
returns-in_err-reserve-clause-same c = keeps_then holds_in_pool has_pool_room _ _ _ c.open.ensures.same
    (keeps_at (λ (s : Live). s.pools) holds_on_node has_node_room c.open.new.self _ c.args.pool.now c.in-Some-get_mut.nodes.now
    c.reserve-in-Some-get_mut.new.self (sym c.get_mut-2.ensures.value ∙ ap option_copied_mut c.in-Some-get_mut.is) refl
    c.reserve-in-Some-get_mut.ensures.same)

pub returns-in_ok-reserve-clause-same : goal.returns-in_ok-reserve-clause-same
returns-in_ok-reserve-clause-same c = keeps_then holds_in_pool has_pool_room _ _ _ c.open.ensures.same
    (keeps_at (λ (s : Live). s.pools) holds_on_node has_node_room c.open.new.self _ c.args.pool.now c.in-Some-get_mut.nodes.now
    c.reserve-in-Some-get_mut.new.self (sym c.get_mut-2.ensures.value ∙ ap option_copied_mut c.in-Some-get_mut.is) refl
    c.reserve-in-Some-get_mut.ensures.same)

pub returns-in_ok-reserve-clause-ok : goal.returns-in_ok-reserve-clause-ok
returns-in_ok-reserve-clause-ok c = room_here (λ (s : Live). s.pools) holds_on_node has_node_room c.open.new.self
    (record c.open.new.self { pools = insert c.open.new.self.pools c.args.pool.now (Some c.reserve-in-Some-get_mut.new.self) }) c.args.pool.now
    c.in-Some-get_mut.nodes.now c.reserve-in-Some-get_mut.new.self (sym c.get_mut-2.ensures.value ∙ ap option_copied_mut c.in-Some-get_mut.is) refl
    (c.args.node.now, (c.args.namespace.now, c.args.number)) c.in_ok-reserve.ensures.ok

pub returns-in-Some-clause-loads : goal.returns-in-Some-clause-loads
returns-in-Some-clause-loads c p n = same_value names one_name none load_on c.args.self.now.pools _ c.args.pool.now c.in-Some.nodes.now c.reserve.new.self
    (sym c.get_mut.ensures.value ∙ ap option_copied_mut c.in-Some.is) refl c.reserve.ensures.loads p n

pub returns-in_err-reserve-clause-loads : goal.returns-in_err-reserve-clause-loads
returns-in_err-reserve-clause-loads c p n = same_value names one_name none load_on c.open.new.self.pools _ c.args.pool.now c.in-Some-get_mut.nodes.now
    c.reserve-in-Some-get_mut.new.self (sym c.get_mut-2.ensures.value ∙ ap option_copied_mut c.in-Some-get_mut.is) refl
    c.reserve-in-Some-get_mut.ensures.loads p n ∙ c.open.ensures.loads p n

pub returns-in_ok-reserve-clause-loads : goal.returns-in_ok-reserve-clause-loads
returns-in_ok-reserve-clause-loads c p n = same_value names one_name none load_on c.open.new.self.pools _ c.args.pool.now c.in-Some-get_mut.nodes.now
    c.reserve-in-Some-get_mut.new.self (sym c.get_mut-2.ensures.value ∙ ap option_copied_mut c.in-Some-get_mut.is) refl
    c.reserve-in-Some-get_mut.ensures.loads p n ∙ c.open.ensures.loads p n
