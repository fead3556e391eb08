use Rattle.std.proofs.Common.{sym, ◌∙◌}
use Rattle.std.specs.Option.{option_copied}
use Rattle.ns_types.specs.declared.step.Step.TheVariants as Step
use Rattle.ns_core.specs.Viewed.{state_of}
use Rattle.ns_core.proofs.Making.{denied}
use Rattle.ns_core.proofs.parts.Parts.node.Goals as goal

pub returns-then-not-may_command-clause-made : goal.returns-then-not-may_command-clause-made
returns-then-not-may_command-clause-made c = denied (Step.Node c.args.pool.now (option_copied c.args.secret) c.args.command.now) (state_of c.args.self.now)
    (sym c.may_command.ensures ∙ c.if-not-may_command.true)
