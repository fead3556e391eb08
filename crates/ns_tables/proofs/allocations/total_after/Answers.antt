use Rattle.std.proofs.Common.{ap, ◌∙◌, ◌≡◌, ◌+◌, take}
use Rattle.keyed.specs.Table.{row_at}
use Rattle.ns_types.specs.State.Resources.{quantity}
use Rattle.ns_types.proofs.Amounts.{at, every}
use Rattle.ns_tables.specs.Allocations.{IsMoved, row_use}
use Rattle.ns_types.specs.State.Resources.{IsAlike}
use Rattle.ns_tables.proofs.Totals.{amount_of_use, moved_all, moved_next}
use Rattle.ns_tables.proofs.allocations.total_after.Goals as goal

pub loop-slot-preserved : goal.loop-slot-preserved
loop-slot-preserved c =
    let next = c.moved-sum.result in
    let slots = c.args.slots.now in
    let changes = c.args.changes.now in
    let i = c.loop-slot.slot-index in
    let then : c.row_use-before.result ≡ row_use (row_at slots c.slot-item.result.0) = c.row_use-before.ensures ∙ ap row_use c.get.ensures in
    let now : c.row_use-after.result ≡ row_use c.slot-item.result.1 = c.row_use-after.ensures ∙ ap row_use c.as_ref.ensures.value in (
      c.moved-sum.ensures.counted,
      every (λ r. IsMoved (quantity r) slots (take (i + 1) changes) c.args.total next) (λ r.
          moved_next (quantity r) slots changes c.args.total i c.slot-item.result c.loop-slot.sum next
          (quantity r c.row_use-before.result) (quantity r c.row_use-after.result) c.loop-slot-test.true c.slot-item.is
          (ap (quantity r) then ∙ amount_of_use (row_at slots c.slot-item.result.0) r) (ap (quantity r) now ∙ amount_of_use c.slot-item.result.1 r)
          (at (λ r. IsAlike (quantity r next + quantity r c.row_use-before.result) (quantity r c.loop-slot.sum + quantity r c.row_use-after.result))
          c.moved-sum.ensures.moved r)
          (at (λ r. IsMoved (quantity r) slots (take i changes) c.args.total c.loop-slot.sum) c.loop-slot.invariant.1 r)),
    )

pub returns-clause-moved : goal.returns-clause-moved
returns-clause-moved c =
    let slots = c.args.slots.now in
    let changes = c.args.changes.now in
    let i = c.loop-slot.slot-index in
    every (λ r. IsMoved (quantity r) slots changes c.args.total c.loop-slot.sum) (λ r.
    moved_all (quantity r) slots changes c.args.total i c.loop-slot.sum c.loop-slot-test.false
    (at (λ r. IsMoved (quantity r) slots (take i changes) c.args.total c.loop-slot.sum) c.loop-slot.invariant.1 r))
