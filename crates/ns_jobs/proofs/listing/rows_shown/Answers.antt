use Rattle.std.proofs.Common.{ap, ◌∙◌, [], ◌∷◌, ◌++◌}
use Rattle.keyed.proofs.Queues.{from_here}
use Rattle.ns_jobs.proofs.Listed.{listed_next}
use Rattle.ns_jobs.specs.Read.{rows_shown}
use Rattle.ns_jobs.proofs.listing.rows_shown.Goals as goal

pub loop-slot-preserved : goal.loop-slot-preserved
loop-slot-preserved g c =
    let listed = rows_shown g.V.Listed.as_shown g.V.Listed.is_listed c.args.namespace.now c.args.command.now in
    listed_next g.V.Listed.as_shown g.V.Listed.is_listed c.args.namespace.now c.args.command.now
    c.loop-slot.listed c.add_listed.new.listed c.slot-item.result _ _ c.args.slots.now
    (from_here c.args.slots.now c.loop-slot.slot-index c.slot-item.result c.loop-slot-test.true c.slot-item.is)
    (c.in_ok-add_listed.ensures ∙ ap (λ r. c.loop-slot.listed ++ listed ((c.slot-item.result.0, r) ∷ [])) c.as_ref.ensures.value)
    c.loop-slot.invariant
