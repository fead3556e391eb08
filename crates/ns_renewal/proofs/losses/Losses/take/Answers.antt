use Rattle.std.proofs.Common.{refl, sym, subst, ◌∙◌}
use Rattle.std.specs.Prelude.{IsTrue}
use Rattle.keyed.specs.Table.{has_slot}
use Rattle.keyed.proofs.Tables.{has_slot-row}
use Rattle.ns_change.proofs.Opening.{emptied_keeps}
use Rattle.ns_types.proofs.Named.{names, one_name}
use Rattle.ns_renewal.proofs.Numbered.{no_number, number_gone}
use Rattle.ns_renewal.proofs.losses.Losses.take.Goals as goal

pub returns-in_default-clause-others : goal.returns-in_default-clause-others
returns-in_default-clause-others c = no_number c.args.self.now (record c.args.self.now { jobs = c.take.new.self }) c.args.namespace.now c.args.job.now
    c.take.new.self c.take.ensures.slots (sym c.take.ensures.row ∙ c.in_default.is) refl

pub set-requires : goal.set-requires
set-requires c = subst (λ m. IsTrue (has_slot m c.args.namespace.now)) (sym c.take.ensures.slots)
    (emptied_keeps names one_name c.args.self.now.jobs c.args.namespace.now c.args.namespace.now
    (has_slot-row c.args.self.now.jobs c.args.namespace.now c.in-Some.jobs (sym c.take.ensures.row ∙ c.in-Some.is)))

pub returns-clause-others : goal.returns-clause-others
returns-clause-others c = number_gone c.args.self.now (record c.args.self.now { jobs = c.set.new.self }) c.args.namespace.now c.args.job.now
    c.take.new.self c.take.ensures.slots c.in-Some.jobs c.take-number.new.self (sym c.take.ensures.row ∙ c.in-Some.is) c.take-number.ensures.slots
    c.set.ensures
