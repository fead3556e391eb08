use Rattle.std.proofs.Common.{subst}
use Rattle.ns_blocked.specs.Blocked.{BlockedList}
use Rattle.ns_blocked.specs.Waking.{ArePassing, wakes_of_pool}
use Rattle.ns_blocked.proofs.Passing.{pool_found}
use Rattle.ns_blocked.proofs.list.BlockedList.find_in_pool.Goals as goal

pub returns : goal.returns
returns c = subst (λ (b : BlockedList). ArePassing (wakes_of_pool c.args.pool.now c.args.classes.now) b c.add_pool.new.places.keys) c.self.view_is
    (pool_found (record { queue = c.self.inside.queue; groups = c.self.inside.groups }) c.self.invariant c.new-places.result.keys
    c.new-places.ensures.empty c.args.pool.now c.args.classes.now c.add_pool.new.places.keys c.in_ok-add_pool.ensures)
