use Rattle.std.proofs.Common.{ap, sym, ◌∙◌}
use Rattle.std.specs.Option.{option_copied}
use Rattle.keyed.proofs.Tables.{slot_made}
use Rattle.ns_types.specs.State.Resources.{none}
use Rattle.ns_types.proofs.Named.{names, one_name}
use Rattle.keyed.specs.Levels.{holds_number}
use Rattle.keyed.specs.declared.key_set.KeySet.{KeySet}
use Rattle.ns_live_index.specs.Levels.{has_room_here, holds_here}
use Rattle.ns_live_index.specs.declared.pool_keys.PoolKeys.{PoolKeys}
use Rattle.keyed.proofs.Levels.{begun, none_there, only_slot, row_written, says_nothing}
use Rattle.keyed.proofs.Values.{begun_value, slot_value}
use Rattle.ns_live_index.proofs.LoadLevels.{load_here}
use Rattle.ns_live_index.proofs.pool_keys.PoolKeys.open.Goals as goal

pub set-requires : goal.set-requires
set-requires c = slot_made names _ _ _ c.in_ok-reserve.ensures.ok

pub returns-then-is_none-clause-same : goal.returns-then-is_none-clause-same
returns-then-is_none-clause-same c = begun (λ (s : PoolKeys). s.nodes) holds_here has_room_here c.args.self.now (record { nodes = c.reserve.new.self }) _
    c.args.node.now _ c.in_ok-reserve.ensures.ok
    (sym c.get.ensures ∙ ap option_copied (none_there c.get.result c.if-is_none.ensures))
    (says_nothing (λ (s : KeySet). s.numbers) holds_number c.new-keys.result c.new-keys.ensures) c.set.ensures

pub returns-then-is_none-clause-loads : goal.returns-then-is_none-clause-loads
returns-then-is_none-clause-loads c name = begun_value names one_name none load_here c.args.self.now.nodes c.reserve.new.self _ c.args.node.now _
    c.in_ok-reserve.ensures.ok (sym c.get.ensures ∙ ap option_copied (none_there c.get.result c.if-is_none.ensures))
    (λ _. c.none.ensures) c.set.ensures name tt

pub returns-then-is_none-clause-ok : goal.returns-then-is_none-clause-ok
returns-then-is_none-clause-ok c = row_written names _ _ _ _ c.set.ensures

pub returns-else-is_none-clause-same : goal.returns-else-is_none-clause-same
returns-else-is_none-clause-same c = only_slot (λ (s : PoolKeys). s.nodes) holds_here has_room_here c.args.self.now _ c.args.node.now
    c.in_ok-reserve.ensures.ok

pub returns-else-is_none-clause-loads : goal.returns-else-is_none-clause-loads
returns-else-is_none-clause-loads c name = slot_value names one_name none load_here c.args.self.now.nodes _ c.args.node.now
    c.in_ok-reserve.ensures.ok name tt
