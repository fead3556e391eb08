use Rattle.std.proofs.Common.{subst}
use Rattle.ns_blocked.specs.Blocked.{BlockedList}
use Rattle.ns_blocked.specs.Waking.{ArePassing, is_woken}
use Rattle.ns_blocked.proofs.Passing.{woken_found}
use Rattle.ns_blocked.proofs.list.BlockedList.find_woken.Goals as goal

pub returns : goal.returns
returns c = subst (λ (b : BlockedList). ArePassing (is_woken c.args.releases.now) b c.add_pools.new.places.keys) c.self.view_is
    (woken_found (record { queue = c.self.inside.queue; groups = c.self.inside.groups }) c.self.invariant c.new-places.result.keys
    c.new-places.ensures.empty c.args.releases.now c.as_slice.result.now c.as_slice-pools.result.now c.add_quotas.new.places.keys
    c.add_pools.new.places.keys c.as_slice.ensures c.as_slice-pools.ensures
    c.in_ok-add_quotas.ensures c.in_ok-add_pools.ensures)
