use Rattle.std.proofs.Common.{refl}
use Rattle.ns_types.specs.declared.step.Step.TheVariants as Step
use Rattle.ns_core.proofs.Working.{has_nack_left, nack_prepares}
use Rattle.ns_core.proofs.parts.Parts.nack.Goals as goal

pub nack-prepared-requires-clause-left : goal.nack-prepared-requires-clause-left
nack-prepared-requires-clause-left c = has_nack_left c.args.self.now c.requires.valid c.args.worker c.args.namespace.now

pub returns-clause-made : goal.returns-clause-made
returns-clause-made c = c.work.ensures.made (Step.Nack c.args.worker c.args.namespace.now) refl refl
    (nack_prepares c.args.self.now c.requires.valid c.args.worker c.args.namespace.now c.nack-prepared.result c.nack-prepared.ensures)
