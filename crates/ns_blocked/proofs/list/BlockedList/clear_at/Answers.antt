use Rattle.std.specs.Prelude.{◌≤◌}
use Rattle.std.proofs.Common.{ap, subst, sym, ◌∙◌}
use Rattle.ns_blocked.specs.Blocked.{BlockedList, entries_of}
use Rattle.ns_blocked.proofs.Listed.{still_grouped}
use Rattle.ns_blocked.proofs.list.BlockedList.clear_at.Goals as goal

pub clear_at-requires : goal.clear_at-requires
clear_at-requires c = subst (λ (b : BlockedList). b.queue.next ≤ c.args.place) (sym c.self.view_is) c.requires

pub invariant_of-self : goal.invariant_of-self
invariant_of-self c = still_grouped c.self.inside.queue.placed.rows c.clear_at.new.self.placed.rows c.self.inside.groups c.clear.new.self
    c.self.invariant c.clear_at.ensures.places.rows c.clear.ensures

pub returns-clause-entries : goal.returns-clause-entries
returns-clause-entries c = c.clear_at.ensures.items ∙ ap entries_of c.self.view_is

pub returns-clause-next : goal.returns-clause-next
returns-clause-next c = c.clear_at.ensures.places.next ∙ ap (λ (b : BlockedList). b.queue.next) c.self.view_is
