use Rattle.std.proofs.Common.{ap, sym, ◌∙◌, subst}
use Rattle.std.specs.Prelude.{Some, IsTrue}
use Rattle.std.specs.FinMap.{insert}
use Rattle.keyed.specs.Over.{over}
use Rattle.keyed.specs.Table.{has_slot}
use Rattle.keyed.proofs.Tables.{has_slot-with_slot_here}
use Rattle.ns_types.proofs.Named.{names, one_name}
use Rattle.ns_change.proofs.Opening.{over-slot}
use Rattle.ns_change.proofs.numbered.put_name.Goals as goal

pub set-requires : goal.set-requires
set-requires g c = subst (λ m. IsTrue (has_slot m c.args.name.now)) (sym c.in_ok-reserve.ensures.ok)
    (has_slot-with_slot_here names c.args.changed.now c.args.name.now)

pub returns : goal.returns
returns g c = λ m. ap (over m) (c.set.ensures ∙ ap (λ n. insert n c.args.name.now (Some c.args.row)) c.in_ok-reserve.ensures.ok) ∙
    over-slot names one_name m c.args.changed.now c.args.name.now c.args.row
