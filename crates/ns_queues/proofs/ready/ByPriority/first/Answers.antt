use Rattle.std.proofs.Common.{ap, sym, ◌∙◌}
use Rattle.std.specs.FinMap.{entries, entries_sorted, get-entries}
use Rattle.keyed.specs.Table.{flat}
use Rattle.ns_types.specs.Working.Queue.{priority_at}
use Rattle.ns_queues.specs.Ready.{items_of}
use Rattle.ns_queues.proofs.Highest.{highest_is_first}
use Rattle.ns_queues.proofs.ready.ByPriority.first.Goals as goal

pub returns : goal.returns
returns c w is = c.first.ensures ∙ highest_is_first (priority_at w) (entries c.args.self.now.levels) w.ready (entries_sorted c.args.self.now.levels)
    (λ n. ap (λ r. items_of (flat r)) (sym (get-entries c.args.self.now.levels n)) ∙ is n)
