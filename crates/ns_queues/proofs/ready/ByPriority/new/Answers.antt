use Rattle.std.proofs.Common.{ap, ◌∙◌}
use Rattle.std.specs.FinMap.{get-empty}
use Rattle.std.specs.Ordering.{nat_cmp}
use Rattle.keyed.specs.Table.{flat}
use Rattle.ns_queues.specs.Ready.{items_of, level_at}
use Rattle.ns_queues.proofs.ready.ByPriority.new.Goals as goal

pub returns : goal.returns
returns c q = ap (λ levels. level_at levels q) c.new.ensures ∙ ap (λ r. items_of (flat r)) (get-empty nat_cmp q)
