use Rattle.std.proofs.Common.{refl, subst}
use Rattle.keyed.proofs.Mapped.{take_all}
use Rattle.ns_live_index.proofs.Forgetting.{IsForgetting, all_forgotten, begun, one_forgotten}
use Rattle.ns_live_index.proofs.Kept.{pools_kept}
use Rattle.ns_live_index.proofs.live.Live.forget_all.Goals as goal

pub loop-slot-init : goal.loop-slot-init
loop-slot-init c = begun c.args.pool.now c.args.self.now

pub loop-slot-preserved : goal.loop-slot-preserved
loop-slot-preserved c = one_forgotten c.args.pool.now c.as_slice-slot-items.result.now c.loop-slot.slot-index c.slot-item.result c.loop-slot-test.true
    c.slot-item.is c.args.self.now c.loop-slot.self (record c.loop-slot.self { shown = c.forget.new.self })
    _ (pools_kept c.loop-slot.self (record c.loop-slot.self { shown = c.forget.new.self }) refl) refl c.forget.ensures c.loop-slot.invariant

pub returns-clause-keys : goal.returns-clause-keys
returns-clause-keys c = c.loop-slot.invariant.keys

pub returns-clause-names : goal.returns-clause-names
returns-clause-names c = c.loop-slot.invariant.names

pub returns-clause-shown : goal.returns-clause-shown
returns-clause-shown c = all_forgotten c.args.pool.now c.args.changes.now c.as_slice-slot-items.result.now c.as_slice-slot-items.ensures c.args.self.now
    c.loop-slot.self (subst (IsForgetting c.args.pool.now c.args.self.now c.loop-slot.self)
    (take_all c.as_slice-slot-items.result.now c.loop-slot.slot-index c.loop-slot-test.false) c.loop-slot.invariant)
