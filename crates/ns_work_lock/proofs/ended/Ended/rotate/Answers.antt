use Rattle.std.proofs.Common.{sym, ◌∙◌}
use Rattle.ns_work_lock.proofs.Adding.{rotated_counts}
use Rattle.ns_work_lock.proofs.ended.Ended.rotate.Goals as goal

pub invariant_of-self-clause-counted : goal.invariant_of-self-clause-counted
invariant_of-self-clause-counted g c = c.args.self.now.counted ∙
    sym (rotated_counts c.rotate.result c.args.self.now.held c.rotate.new.self c.rotate.ensures.rotated c.rotate.ensures.same)
