use Rattle.std.proofs.Common.{◌≡◌, length, arith, sym, ap, ◌∙◌}
use Rattle.std.proofs.lemmas.List.{take_all}
use Rattle.keyed.specs.Table.{row_list}
use Rattle.keyed.proofs.Counted.{counted-more, size, size_none, size_some}
use Rattle.keyed.proofs.slots.count_rows.Goals as goal
use Rattle.keyed.proofs.slots.count_rows.Goals.{then-is_some, else-is_some}

pub loop-slot-preserved : goal.loop-slot-preserved
loop-slot-preserved g c =
    let more = counted-more c.args.slots.now c.loop-slot.slot-index c.slot-item.result c.loop-slot-test.true c.slot-item.is in
    let before = c.loop-slot.invariant in
    elim c.if-is_some.branch [
      | then-is_some w ↦ let one : size c.slot-item.result.1 ≡ 1 = size_some _ (sym c.is_some.ensures ∙ w.if-is_some.true) in (omega arith, omega arith)
      | else-is_some w ↦ let none : size c.slot-item.result.1 ≡ 0 = size_none _ (sym c.is_some.ensures ∙ w.if-is_some.false) in (omega arith, omega arith)
    ]

pub returns : goal.returns
returns g c = c.loop-slot.invariant.0 ∙ ap (λ es. length (row_list es)) (take_all _ _ c.loop-slot-test.false)
