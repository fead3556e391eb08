use Rattle.std.proofs.Common.{refl}
use Rattle.ns_types.specs.declared.step.Step.TheVariants as Step
use Rattle.ns_core.proofs.Working.{apply_prepares}
use Rattle.ns_core.proofs.parts.Parts.apply.Goals as goal

pub apply-prepared-requires-clause-sound : goal.apply-prepared-requires-clause-sound
apply-prepared-requires-clause-sound c = c.requires.valid.world

pub returns-clause-made : goal.returns-clause-made
returns-clause-made c = c.work.ensures.made (Step.Apply c.args.worker c.args.namespace.now) refl refl
    (apply_prepares c.args.self.now c.requires.valid c.args.worker c.args.namespace.now c.apply-prepared.result c.apply-prepared.ensures)
