use Rattle.std.proofs.Common.{ap, subst, sym, take, ◌∙◌}
use Rattle.keyed.proofs.Mapped.{take_all}
use Rattle.ns_types.specs.State.Names.{Key}
use Rattle.ns_live_index.specs.Index.{Indexes, with_changes, with_row}
use Rattle.ns_live_index.specs.Shown.{ShowsUnmoved}
use Rattle.ns_live_index.proofs.Changing.{all_changed, begun, changed_rows, one_changed}
use Rattle.ns_live_index.proofs.Puts.{indexes_same}
use Rattle.ns_live_index.proofs.Unmoved.{none_hidden, unmoved_as}
use Rattle.ns_live_index.proofs.live.Live.put_all.Goals as goal

pub loop-slot-init : goal.loop-slot-init
loop-slot-init c = (
  begun c.args.namespace.now c.args.table.now c.args.changes.now c.args.self.now _ c.as_slice-slot-items.ensures c.requires,
  none_hidden c.args.self.now.shown,
)

pub loop-slot-preserved : goal.loop-slot-preserved
loop-slot-preserved c =
    let key : Key = (c.args.namespace.now, c.slot-item.result.0) in
    let new = c.put_after.new.self in (
      one_changed c.args.namespace.now c.as_slice-slot-items.result.now c.loop-slot.slot-index c.slot-item.result c.loop-slot-test.true
          c.slot-item.is c.args.changes.now c.args.table.now c.args.self.now c.loop-slot.self new c.as_slice-slot-items.ensures
          (λ row_of right was. subst (λ r. Indexes (with_row key r row_of) new) c.as_ref-after.ensures.value
          (c.put_after.ensures.index row_of right (was ∙ sym c.get.ensures)))
          (λ row_of was. subst (λ r. ShowsUnmoved row_of (with_row key r row_of) c.loop-slot.self new) c.as_ref-after.ensures.value
          (c.put_after.ensures.shown row_of (was ∙ sym c.get.ensures)))
          c.put_after.ensures.names c.put_after.ensures.room c.loop-slot.invariant.0,
      c.put_after.ensures.last,
    )

pub returns-clause-index : goal.returns-clause-index
returns-clause-index c row_of right rows = indexes_same
    (changed_rows c.args.namespace.now (take c.loop-slot.slot-index c.as_slice-slot-items.result.now) row_of)
    (with_changes c.args.namespace.now c.args.changes.now row_of) c.loop-slot.self (c.loop-slot.invariant.0.index row_of right rows)
    (λ key. sym (ap (λ xs. changed_rows c.args.namespace.now xs row_of key)
    (take_all c.as_slice-slot-items.result.now c.loop-slot.slot-index c.loop-slot-test.false)
    ∙ all_changed c.args.namespace.now c.args.changes.now c.as_slice-slot-items.result.now c.as_slice-slot-items.ensures row_of key))

pub returns-clause-names : goal.returns-clause-names
returns-clause-names c = c.loop-slot.invariant.0.names

pub returns-clause-shown : goal.returns-clause-shown
returns-clause-shown c row_of rows = unmoved_as row_of (changed_rows c.args.namespace.now (take c.loop-slot.slot-index c.as_slice-slot-items.result.now) row_of)
    (with_changes c.args.namespace.now c.args.changes.now row_of) c.args.self.now c.loop-slot.self
    (λ key. sym (ap (λ xs. changed_rows c.args.namespace.now xs row_of key)
    (take_all c.as_slice-slot-items.result.now c.loop-slot.slot-index c.loop-slot-test.false)
    ∙ all_changed c.args.namespace.now c.args.changes.now c.as_slice-slot-items.result.now c.as_slice-slot-items.ensures row_of key))
    (c.loop-slot.invariant.0.shown row_of rows)
