use Rattle.std.proofs.Common.{drop, T, sym, subst}
use Rattle.std.proofs.Math.ListN.{drop_of_length-le}
use Rattle.std.specs.FinMap.{entries_sorted}
use Rattle.std.specs.FinMap.Entries.{is_sorted}
use Rattle.std.specs.Option.{option_copied}
use Rattle.keyed.proofs.Queues.{from_here}
use Rattle.ns_live_index.specs.Index.{Indexes, with_changes}
use Rattle.ns_live_index.specs.Shown.{ShowsUnmoved}
use Rattle.ns_types.specs.State.Names.{name_cmp}
use Rattle.ns_copies.proofs.Indexed.{all_indexed, none_indexed, slot_indexed, slot_passed, nothing_before, rows_but}
use Rattle.ns_copies.proofs.indexing.live_of.Goals as goal
use Rattle.ns_copies.proofs.indexing.live_of.Goals.{in-Some+in_ok-reserve_all+in_ok-reserve_quota, in_default}

pub loop-slot-init : goal.loop-slot-init
loop-slot-init c = none_indexed c.new-live.result c.as_slice-slot-items.result.now
    (subst (λ es. T (is_sorted name_cmp es)) (sym c.as_slice-slot-items.ensures) (entries_sorted c.args.tables.now.tenants)) c.new-live.ensures

pub loop-slot-preserved : goal.loop-slot-preserved
loop-slot-preserved c =
    let slots = c.as_slice-slot-items.result.now in
    let rest = drop c.loop-slot.slot-index slots in
    let is = from_here slots c.loop-slot.slot-index c.slot-item.result c.loop-slot-test.true c.slot-item.is in
    elim c.match-slot.branch [
      | in-Some+in_ok-reserve_all+in_ok-reserve_quota w ↦
          let nothing = nothing_before c.slot-item.result rest _ slots is c.loop-slot.live c.loop-slot.invariant w.in-Some.tenant w.in-Some.is
          c.new-none.result c.new-none.ensures in
          slot_indexed c.slot-item.result rest _ slots is c.loop-slot.live c.loop-slot.invariant w.in-Some.tenant w.in-Some.is
          c.new-none.result c.new-none.ensures w.reserve_all.new.self w.put_all.new.self w.reserve_quota.new.self w.put_quota.new.self c.match-slot.live
          w.reserve_all.ensures.same w.reserve_all.ensures.shown
          (λ right. subst (λ m. Indexes (with_changes c.slot-item.result.0 m (rows_but rest slots)) w.put_all.new.self) w.rows-allocations.ensures
          (w.put_all.ensures.index (rows_but rest slots) right nothing))
          (subst (λ m. ShowsUnmoved (rows_but rest slots) (with_changes c.slot-item.result.0 m (rows_but rest slots)) w.reserve_all.new.self
          w.put_all.new.self) w.rows-allocations.ensures (w.put_all.ensures.shown (rows_but rest slots) nothing))
          w.put_all.ensures.names w.reserve_quota.ensures.nodes w.reserve_quota.ensures.same (option_copied w.as_ref-quota.result)
          w.as_ref-quota.ensures.value w.live_total.result w.live_total.ensures w.put_quota.ensures.nodes w.put_quota.ensures.names w.live-is
      | in_default w ↦ slot_passed c.slot-item.result rest _ slots is c.loop-slot.live c.loop-slot.invariant c.match-slot.live w.in_default.is w.live-is
    ]

pub returns : goal.returns
returns c = all_indexed c.args.tables.now c.loop-slot.live _ c.as_slice-slot-items.result.now c.as_slice-slot-items.ensures
    (drop_of_length-le c.as_slice-slot-items.result.now c.loop-slot-test.false) c.loop-slot.invariant
