use Rattle.std.specs.Prelude.{ℕ, List, Option, map}
use Rattle.std.proofs.Common.{ap, ◌∙◌}
use Rattle.keyed.specs.Table.{row_list}
use Rattle.ns_blocked.specs.declared.entry.Waits.TheVariants.{Quota}
use Rattle.ns_blocked.specs.Blocked.{places_waiting}
use Rattle.ns_blocked.proofs.Listed.{group_is}
use Rattle.ns_blocked.proofs.list.BlockedList.of_quota.Goals as goal

pub returns : goal.returns
returns c = ap (λ (slots : List (ℕ × Option Unit)). map (λ s. s.0) (row_list slots)) c.of_quota.ensures
    ∙ group_is c.self.inside.queue.placed.rows c.self.inside.groups c.self.invariant (Quota c.args.quota.now)
    ∙ ap (places_waiting (Quota c.args.quota.now)) c.self.view_is
