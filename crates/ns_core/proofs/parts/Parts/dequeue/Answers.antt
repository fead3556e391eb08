use Rattle.std.proofs.Common.{refl}
use Rattle.ns_types.specs.declared.step.Step.TheVariants as Step
use Rattle.ns_core.proofs.Working.{dequeue_prepares}
use Rattle.ns_core.proofs.parts.Parts.dequeue.Goals as goal

pub returns-clause-made : goal.returns-clause-made
returns-clause-made c = c.work.ensures.made (Step.Dequeue c.args.worker c.args.namespace.now c.args.evaluation) refl refl
    (dequeue_prepares c.args.self.now c.requires.valid c.args.worker c.args.namespace.now c.args.evaluation c.dequeue-prepared.result
    c.dequeue-prepared.ensures)
