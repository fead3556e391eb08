use Rattle.std.specs.Prelude.{◌||◌}
use Rattle.std.proofs.Common.{ap, ◌∙◌}
use Rattle.std.specs.List.{list_any}
use Rattle.keyed.proofs.Mapped.{take_all}
use Rattle.ns_types.specs.State.Names.{has_number}
use Rattle.ns_blocked.specs.Waking.{is_of_quota}
use Rattle.ns_blocked.proofs.Places.{adds_next}
use Rattle.ns_blocked.proofs.finding.add_quotas.Goals as goal

pub loop-quota-preserved : goal.loop-quota-preserved
loop-quota-preserved c = adds_next (λ quota n. is_of_quota c.args.groups.now n quota) c.args.quotas.now c.loop-quota.quota-index c.quota-item.result
    _ c.loop-quota.places.keys _ c.loop-quota-test.true c.quota-item.is c.loop-quota.invariant c.in_ok-add_quota.ensures

pub returns : goal.returns
returns c n = c.loop-quota.invariant n ∙ ap (λ quotas. has_number c.args.places.now.keys n || list_any (is_of_quota c.args.groups.now n) quotas)
    (take_all c.args.quotas.now c.loop-quota.quota-index c.loop-quota-test.false)
