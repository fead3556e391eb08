use Rattle.std.proofs.Common.{refl}
use Rattle.ns_types.specs.declared.step.AdminCommand.TheVariants as AdminCommand
use Rattle.ns_types.specs.declared.step.Step.TheVariants as Step
use Rattle.ns_core.specs.Viewed.{state_of}
use Rattle.ns_core.proofs.Administering.{limits_prepare}
use Rattle.ns_core.proofs.Keeping.{within}
use Rattle.ns_core.proofs.parts.Parts.relimit.Goals as goal

pub change_limits-prepared-requires-clause-bounds : goal.change_limits-prepared-requires-clause-bounds
change_limits-prepared-requires-clause-bounds c = within (state_of c.args.self.now) c.requires.valid

pub returns-clause-made : goal.returns-clause-made
returns-clause-made c = λ secret allowed. c.work.ensures.made (Step.Admin secret (AdminCommand.PutQuota c.args.name.now c.args.quota.now)) allowed refl
    (limits_prepare c.args.self.now c.args.name.now c.args.quota.now secret allowed c.change_limits-prepared.result c.change_limits-prepared.ensures)
