use Rattle.std.proofs.Common.{ap, sym, ◌∙◌}
use Rattle.std.specs.FinMap.{get}
use Rattle.keyed.specs.Table.{has_slot, row_at, with_slot}
use Rattle.keyed.proofs.Tables.{get-rows, rows-with_slot, slot_made}
use Rattle.ns_types.proofs.Named.{names, numbers, one_name}
use Rattle.keyed.specs.Levels.{holds_number}
use Rattle.keyed.specs.declared.key_set.KeySet.{KeySet}
use Rattle.keyed.proofs.Levels.{begun, no_number_yet, room_put}
use Rattle.keyed.proofs.key_set.KeySet.open.Goals as goal

pub set-requires : goal.set-requires
set-requires c = slot_made names _ _ _ c.in_ok-reserve-2.ensures.ok

pub returns-clause-same : goal.returns-clause-same
returns-clause-same c = begun (λ (s : KeySet). s.numbers) holds_number has_slot c.args.self.now
    (record { numbers = c.reserve-2.new.self }) _
    c.args.name.now _ c.in_ok-reserve-2.ensures.ok
    (ap (λ m. row_at m c.args.name.now) c.in_ok-reserve-2.ensures.ok
    ∙ sym (get-rows names (with_slot c.args.self.now.numbers c.args.name.now) c.args.name.now)
    ∙ ap (λ n. get n c.args.name.now) (rows-with_slot names one_name c.args.self.now.numbers c.args.name.now)
    ∙ get-rows names c.args.self.now.numbers c.args.name.now ∙ c.requires)
    (no_number_yet c.new-numbers.result _ c.args.number c.new-numbers.ensures c.in_ok-reserve.ensures.ok) c.set.ensures

pub returns-clause-ok : goal.returns-clause-ok
returns-clause-ok c = room_put (λ (s : KeySet). s.numbers) holds_number has_slot (record { numbers = c.reserve-2.new.self }) _
    c.args.name.now _ c.set.ensures c.args.number (slot_made numbers _ _ _ c.in_ok-reserve.ensures.ok)
