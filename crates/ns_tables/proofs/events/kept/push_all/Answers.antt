use Rattle.std.proofs.Common.{sym, ap, ◌∙◌, ◌++◌}
use Rattle.ns_types.specs.State.Lists.{last}
use Rattle.ns_tables.proofs.Last.{pushed}
use Rattle.ns_tables.proofs.events.kept.push_all.Goals as goal

pub loop-event-preserved : goal.loop-event-preserved
loop-event-preserved c = pushed c.loop-event.ring c.push.new.ring _ c.in-Some.event c.next.new.self.rest.items _
    (ap (λ xs. last c.args.ring.now.capacity (c.loop-event.ring.items ++ xs)) (sym c.in-Some.ensures.steps.0) ∙ c.loop-event.invariant.0)
    c.loop-event.invariant.1 c.push.ensures
