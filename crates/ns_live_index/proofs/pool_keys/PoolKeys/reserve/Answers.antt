use Rattle.std.proofs.Common.{ap, refl, sym, ◌∙◌}
use Rattle.std.specs.Prelude.{Some}
use Rattle.std.specs.FinMap.{insert}
use Rattle.std.specs.Option.{option_copied_mut}
use Rattle.keyed.proofs.Levels.{keeps_at, keeps_then, room_here}
use Rattle.keyed.proofs.Values.{same_value}
use Rattle.ns_types.specs.State.Resources.{none}
use Rattle.ns_types.proofs.Named.{names, one_name}
use Rattle.ns_types.proofs.Results.{on_ok}
use Rattle.ns_live_index.specs.Levels.{has_node_room, has_room_here, holds_here, holds_on_node}
use Rattle.ns_live_index.specs.declared.pool_keys.PoolKeys.{PoolKeys}
use Rattle.ns_live_index.proofs.LoadLevels.{keeps_here, load_here}
use Rattle.ns_live_index.proofs.pool_keys.PoolKeys.reserve.Goals as goal

pub returns-in-Some-clause-same : goal.returns-in-Some-clause-same
returns-in-Some-clause-same c = keeps_at (λ (s : PoolKeys). s.nodes) holds_here has_room_here c.args.self.now _ c.args.node.now c.in-Some.on.now
    (record c.in-Some.on.now { keys = c.reserve.new.self }) (sym c.get_mut.ensures.value ∙ ap option_copied_mut c.in-Some.is) refl
    (keeps_here (c.args.namespace.now, c.args.number) _ _ c.reserve.ensures.same)

pub returns-in-Some-clause-loads : goal.returns-in-Some-clause-loads
returns-in-Some-clause-loads c name = same_value names one_name none load_here c.args.self.now.nodes _ c.args.node.now c.in-Some.on.now
    (record c.in-Some.on.now { keys = c.reserve.new.self }) (sym c.get_mut.ensures.value ∙ ap option_copied_mut c.in-Some.is) refl (λ _. refl) name tt

pub returns-in-Some-clause-ok : goal.returns-in-Some-clause-ok
returns-in-Some-clause-ok c = on_ok c.reserve.result (room_here (λ (s : PoolKeys). s.nodes) holds_here has_room_here c.args.self.now
    (record { nodes = insert c.args.self.now.nodes c.args.node.now (Some (record c.in-Some.on.now { keys = c.reserve.new.self })) }) c.args.node.now
    c.in-Some.on.now (record c.in-Some.on.now { keys = c.reserve.new.self }) (sym c.get_mut.ensures.value ∙ ap option_copied_mut c.in-Some.is) refl
    (c.args.namespace.now, c.args.number)) c.reserve.ensures.ok

pub returns-in_err-reserve-clause-same : goal.returns-in_err-reserve-clause-same
returns-in_err-reserve-clause-same c = keeps_then holds_on_node has_node_room _ _ _ c.open.ensures.same
    (keeps_at (λ (s : PoolKeys). s.nodes) holds_here has_room_here c.open.new.self _ c.args.node.now c.in-Some-get_mut.on.now
    (record c.in-Some-get_mut.on.now { keys = c.reserve-in-Some-get_mut.new.self })
    (sym c.get_mut-2.ensures.value ∙ ap option_copied_mut c.in-Some-get_mut.is) refl
    (keeps_here (c.args.namespace.now, c.args.number) _ _ c.reserve-in-Some-get_mut.ensures.same))

pub returns-in_err-reserve-clause-loads : goal.returns-in_err-reserve-clause-loads
returns-in_err-reserve-clause-loads c name = same_value names one_name none load_here c.open.new.self.nodes _ c.args.node.now
    c.in-Some-get_mut.on.now (record c.in-Some-get_mut.on.now { keys = c.reserve-in-Some-get_mut.new.self })
    (sym c.get_mut-2.ensures.value ∙ ap option_copied_mut c.in-Some-get_mut.is) refl (λ _. refl) name tt ∙ c.open.ensures.loads name

pub returns-in_ok-reserve-clause-same : goal.returns-in_ok-reserve-clause-same
returns-in_ok-reserve-clause-same c = keeps_then holds_on_node has_node_room _ _ _ c.open.ensures.same
    (keeps_at (λ (s : PoolKeys). s.nodes) holds_here has_room_here c.open.new.self _ c.args.node.now c.in-Some-get_mut.on.now
    (record c.in-Some-get_mut.on.now { keys = c.reserve-in-Some-get_mut.new.self })
    (sym c.get_mut-2.ensures.value ∙ ap option_copied_mut c.in-Some-get_mut.is) refl
    (keeps_here (c.args.namespace.now, c.args.number) _ _ c.reserve-in-Some-get_mut.ensures.same))

pub returns-in_ok-reserve-clause-loads : goal.returns-in_ok-reserve-clause-loads
returns-in_ok-reserve-clause-loads c name = same_value names one_name none load_here c.open.new.self.nodes _ c.args.node.now
    c.in-Some-get_mut.on.now (record c.in-Some-get_mut.on.now { keys = c.reserve-in-Some-get_mut.new.self })
    (sym c.get_mut-2.ensures.value ∙ ap option_copied_mut c.in-Some-get_mut.is) refl (λ _. refl) name tt ∙ c.open.ensures.loads name

pub returns-in_ok-reserve-clause-ok : goal.returns-in_ok-reserve-clause-ok
returns-in_ok-reserve-clause-ok c = room_here (λ (s : PoolKeys). s.nodes) holds_here has_room_here c.open.new.self
    (record {
      nodes = insert c.open.new.self.nodes c.args.node.now
          (Some (record c.in-Some-get_mut.on.now { keys = c.reserve-in-Some-get_mut.new.self }));
    }) c.args.node.now c.in-Some-get_mut.on.now
    (record c.in-Some-get_mut.on.now { keys = c.reserve-in-Some-get_mut.new.self })
    (sym c.get_mut-2.ensures.value ∙ ap option_copied_mut c.in-Some-get_mut.is) refl (c.args.namespace.now, c.args.number) c.in_ok-reserve.ensures.ok
