use Rattle.std.proofs.Common.{subst}
use Rattle.ns_blocked.specs.Blocked.{BlockedList}
use Rattle.ns_blocked.specs.Waking.{ArePassing, wakes_of_quota}
use Rattle.ns_blocked.proofs.Passing.{quota_found}
use Rattle.ns_blocked.proofs.list.BlockedList.find_of_quota.Goals as goal

pub returns : goal.returns
returns c = subst (λ (b : BlockedList). ArePassing (wakes_of_quota c.args.quota.now) b c.add_quota.new.places.keys) c.self.view_is
    (quota_found (record { queue = c.self.inside.queue; groups = c.self.inside.groups }) c.self.invariant c.new-places.result.keys
    c.new-places.ensures.empty c.args.quota.now c.add_quota.new.places.keys c.in_ok-add_quota.ensures)
