use Rattle.std.proofs.Common.{ap, sym, ◌∙◌, subst}
use Rattle.std.specs.Prelude.{Some, IsTrue}
use Rattle.std.specs.FinMap.{insert}
use Rattle.keyed.specs.Over.{over}
use Rattle.keyed.specs.Table.{has_slot}
use Rattle.keyed.proofs.Tables.{has_slot-with_slot_here}
use Rattle.ns_types.proofs.Named.{numbers, one_number}
use Rattle.ns_change.proofs.Opening.{over-slot}
use Rattle.ns_change.proofs.numbered.put_slot.Goals as goal

pub set-requires : goal.set-requires
set-requires g c = subst (λ m. IsTrue (has_slot m c.args.number)) (sym c.in_ok-reserve.ensures.ok)
    (has_slot-with_slot_here numbers c.args.changed.now c.args.number)

pub returns : goal.returns
returns g c = λ m. ap (over m) (c.set.ensures ∙ ap (λ n. insert n c.args.number (Some c.args.row)) c.in_ok-reserve.ensures.ok) ∙
    over-slot numbers one_number m c.args.changed.now c.args.number c.args.row
