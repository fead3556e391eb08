use Rattle.keyed.proofs.Queued.{nothing_at}
use Rattle.ns_blocked.proofs.Listed.{nothing_grouped}
use Rattle.ns_blocked.proofs.list.BlockedList.new.Goals as goal

pub invariant_of-result : goal.invariant_of-result
invariant_of-result c = nothing_grouped c.new.result.placed.rows c.new-2.result (nothing_at c.new.result c.new.ensures) c.new-2.ensures
