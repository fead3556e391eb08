use Rattle.std.proofs.Common.{ap, refl, sym, ◌∙◌}
use Rattle.std.specs.Prelude.{Some, true}
use Rattle.std.specs.FinMap.{insert}
use Rattle.std.specs.Option.{option_copied_mut}
use Rattle.keyed.specs.Table.{has_slot, row_at}
use Rattle.keyed.specs.Levels.{holds_number}
use Rattle.keyed.specs.declared.key_set.KeySet.{KeySet}
use Rattle.keyed.proofs.Levels.{drops_all, drops_at, drops_none, row_here, says_nothing}
use Rattle.ns_types.specs.State.Names.{same_key}
use Rattle.ns_types.specs.State.Resources.{none}
use Rattle.ns_types.proofs.Named.{names, one_name}
use Rattle.ns_live_index.specs.Levels.{has_room_here, holds_here}
use Rattle.ns_live_index.specs.declared.pool_keys.PoolKeys.{PoolKeys}
use Rattle.keyed.proofs.Values.{gone_value, left_value, none_left, row_there}
use Rattle.ns_live_index.specs.Moving.{MovesLoad}
use Rattle.ns_live_index.proofs.LoadLevels.{drops_here, load_here, moves_none}
use Rattle.ns_live_index.proofs.pool_keys.PoolKeys.remove.Goals as goal

pub returns-in_default-clause-keys : goal.returns-in_default-clause-keys
returns-in_default-clause-keys c = drops_none (λ (s : PoolKeys). s.nodes) holds_here has_room_here c.args.self.now c.args.node.now
    (c.args.namespace.now, c.args.number) same_key (sym c.get_mut.ensures.value ∙ ap option_copied_mut c.in_default.is)

pub returns-in_default-clause-loads : goal.returns-in_default-clause-loads
returns-in_default-clause-loads c name still = none_left names one_name none load_here MovesLoad moves_none (λ _ _. true)
    (λ _. c.args.size) c.args.self.now.nodes c.args.node.now (sym c.get_mut.ensures.value ∙ ap option_copied_mut c.in_default.is) name tt
    (row_there (row_at c.args.self.now.nodes name) ∙ still)

pub returns-then-is_empty-clause-keys : goal.returns-then-is_empty-clause-keys
returns-then-is_empty-clause-keys c =
    let there = sym c.get_mut.ensures.value ∙ ap option_copied_mut c.in-Some.is in
    let left = drops_at (λ (s : PoolKeys). s.nodes) holds_here has_room_here c.args.self.now
    (record { nodes = insert c.args.self.now.nodes c.args.node.now (Some c.remove.new.self) }) c.args.node.now c.in-Some.on.now
    c.remove.new.self there refl same_key (c.args.namespace.now, c.args.number)
    (drops_here (c.args.namespace.now, c.args.number) c.in-Some.on.now c.remove.new.self c.remove.ensures.keys) in
    let empty = c.is_empty.ensures c.if-is_empty.true in
    drops_all (λ (s : PoolKeys). s.nodes) holds_here has_room_here c.args.self.now _ _ c.args.node.now (c.args.namespace.now, c.args.number) same_key left
    c.remove.new.self (row_here names _ _ _ _ refl) (says_nothing (λ (s : KeySet). s.numbers) holds_number c.remove.new.self.keys empty)
    (says_nothing (λ (s : KeySet). s.numbers) has_slot c.remove.new.self.keys empty) c.remove-then-is_empty.ensures

pub returns-then-is_empty-clause-loads : goal.returns-then-is_empty-clause-loads
returns-then-is_empty-clause-loads c name still = gone_value names one_name none load_here MovesLoad moves_none (λ _ _. true)
    (λ _. c.args.size) c.args.self.now.nodes (insert c.args.self.now.nodes c.args.node.now (Some c.remove.new.self)) _
    c.args.node.now c.remove-then-is_empty.ensures
    (left_value names one_name none load_here MovesLoad moves_none (λ _ _. true) (λ _. c.args.size)
    c.args.self.now.nodes _ c.args.node.now c.in-Some.on.now
    c.remove.new.self (sym c.get_mut.ensures.value ∙ ap option_copied_mut c.in-Some.is) refl (λ _ _. c.remove.ensures.load)) name tt
    (row_there (row_at c.remove-then-is_empty.new.self name) ∙ still)

pub returns-else-is_empty-clause-keys : goal.returns-else-is_empty-clause-keys
returns-else-is_empty-clause-keys c = drops_at (λ (s : PoolKeys). s.nodes) holds_here has_room_here c.args.self.now _ c.args.node.now c.in-Some.on.now
    c.remove.new.self (sym c.get_mut.ensures.value ∙ ap option_copied_mut c.in-Some.is) refl same_key (c.args.namespace.now, c.args.number)
    (drops_here (c.args.namespace.now, c.args.number) c.in-Some.on.now c.remove.new.self c.remove.ensures.keys)

pub returns-else-is_empty-clause-loads : goal.returns-else-is_empty-clause-loads
returns-else-is_empty-clause-loads c name still = left_value names one_name none load_here MovesLoad moves_none (λ _ _. true) (λ _. c.args.size)
    c.args.self.now.nodes (insert c.args.self.now.nodes c.args.node.now (Some c.remove.new.self)) c.args.node.now c.in-Some.on.now
    c.remove.new.self (sym c.get_mut.ensures.value ∙ ap option_copied_mut c.in-Some.is) refl (λ _ _. c.remove.ensures.load) name tt
    (row_there (row_at (insert c.args.self.now.nodes c.args.node.now (Some c.remove.new.self)) name) ∙ still)
