use Rattle.std.proofs.Common.{arith, sym, ◌∙◌}
use Rattle.keyed.proofs.NextRow.{none_below, none_left, none_next, row_found}
use Rattle.keyed.proofs.numbers.row_from.Goals as goal
use Rattle.keyed.proofs.numbers.row_from.Goals.{else-slot-from-via-then-slot-from+else-is_some, else-slot-from-via-else-slot-from}

pub loop-place-init : goal.loop-place-init
loop-place-init g c = none_below c.args.from c.args.slots.now c.args.start c.requires.start

pub returns-then-is_some : goal.returns-then-is_some
returns-then-is_some g c = row_found c.args.from c.args.slots.now c.loop-place.place c.loop-place.invariant c.requires.sorted c.index-slots-place.result
    c.index-slots-place.is c.loop-place-test.true c.if-slot-from.true (sym c.is_some.ensures ∙ c.if-is_some.true)

pub loop-place-preserved : goal.loop-place-preserved
loop-place-preserved g c = none_next c.args.from c.args.slots.now c.loop-place.place c.loop-place.invariant c.index-slots-place.result
    c.index-slots-place.is c.loop-place-test.true (elim c.else-slot-from.branch [
      | else-slot-from-via-then-slot-from+else-is_some w ↦ λ le. sym w.is_some.ensures ∙ w.if-is_some.false
      | else-slot-from-via-else-slot-from w ↦ λ le. absurd (omega (arith, le, w.if-slot-from.false))
    ])

pub returns : goal.returns
returns g c = none_left c.args.from c.args.slots.now c.loop-place.place c.loop-place.invariant c.requires.sorted c.loop-place-test.false
