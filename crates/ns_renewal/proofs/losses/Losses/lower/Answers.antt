use Rattle.std.proofs.Common.{sym, subst, ◌∙◌}
use Rattle.std.specs.Prelude.{IsTrue, Some, cond}
use Rattle.keyed.specs.Table.{has_slot}
use Rattle.keyed.proofs.Tables.{slot_made}
use Rattle.ns_types.specs.State.Names.{same_name}
use Rattle.ns_change.proofs.Opening.{emptied_keeps}
use Rattle.ns_types.proofs.Named.{names, one_name}
use Rattle.ns_change.specs.Waiting.{lesser}
use Rattle.ns_renewal.specs.Losing.{job_number}
use Rattle.ns_renewal.proofs.Numbered.{lowered}
use Rattle.ns_renewal.proofs.losses.Losses.lower.Goals as goal

pub set-requires : goal.set-requires
set-requires c = subst (λ m. IsTrue (has_slot m c.args.namespace.now)) (sym c.take.ensures.slots)
    (emptied_keeps names one_name c.reserve.new.self c.args.namespace.now c.args.namespace.now
    (slot_made names c.args.self.now.jobs c.reserve.new.self c.args.namespace.now c.in_ok-reserve.ensures.ok))

pub returns : goal.returns
returns c =
    let old = c.args.self.now in
    let ns = c.args.namespace.now in
    let job = c.args.job.now in
    lowered old (record old { jobs = c.set.new.self }) ns job c.reserve.new.self c.take.new.self c.in_ok-reserve.ensures.ok c.take.ensures.slots
    c.in_ok-jobs.jobs c.args.number c.set.ensures (λ id. c.in_ok-jobs.ensures id ∙ (λ i. cond (same_name id job)
    (lesser (job_number (c.take.ensures.row i) job) (Some c.args.number)) (job_number (c.take.ensures.row i) id)))
