use Rattle.std.proofs.Common.{subst, sym}
use Rattle.keyed.proofs.Mapped.{take_all}
use Rattle.ns_settlement.proofs.Forgetting.{IsForgetting, all_forgotten, begun, none_forgotten, one_forgotten}
use Rattle.ns_settlement.proofs.commit.indexing.forget_nodes.Goals as goal
use Rattle.ns_settlement.proofs.commit.indexing.forget_nodes.Goals.{in-Some, in_default}

pub loop-slot-init : goal.loop-slot-init
loop-slot-init c = begun c.args.live.now

pub loop-slot-preserved : goal.loop-slot-preserved
loop-slot-preserved c = elim c.match-slot.branch [
  | in-Some w ↦ subst (λ live. IsForgetting c.args.live.now live _) (sym w.live-is)
      (one_forgotten c.as_slice-slot-items.result.now c.loop-slot.slot-index c.slot-item.result c.loop-slot-test.true c.slot-item.is c.args.live.now
      c.loop-slot.live c.loop-slot.invariant w.forget_all.new.self w.in-Some.change w.in-Some.is w.forget_all.ensures.keys w.forget_all.ensures.names
      w.forget_all.ensures.shown)
  | in_default w ↦ none_forgotten c.as_slice-slot-items.result.now c.loop-slot.slot-index c.slot-item.result c.loop-slot-test.true c.slot-item.is
      c.args.live.now c.loop-slot.live c.loop-slot.invariant c.match-slot.live w.in_default.is w.live-is
]

pub returns-clause-keys : goal.returns-clause-keys
returns-clause-keys c = c.loop-slot.invariant.keys

pub returns-clause-names : goal.returns-clause-names
returns-clause-names c = c.loop-slot.invariant.names

pub returns-clause-shown : goal.returns-clause-shown
returns-clause-shown c = all_forgotten c.args.changes.now c.as_slice-slot-items.result.now c.as_slice-slot-items.ensures c.args.live.now c.loop-slot.live
    (subst (IsForgetting c.args.live.now c.loop-slot.live)
    (take_all c.as_slice-slot-items.result.now c.loop-slot.slot-index c.loop-slot-test.false) c.loop-slot.invariant)
