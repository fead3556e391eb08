use Rattle.std.proofs.Common.{sym, ap, subst, ◌∙◌}
use Rattle.std.specs.Option.{option_copied}
use Rattle.ns_types.specs.declared.step.AdminCommand.{AdminCommand}
use Rattle.ns_types.specs.declared.step.Step.TheVariants as Step
use Rattle.ns_types.specs.Asking.Policies.{may_administer}
use Rattle.ns_admin.specs.Laws.{relimits}
use Rattle.ns_core.specs.Answering.{MakesStep}
use Rattle.ns_core.specs.Viewed.{state_of, world_of}
use Rattle.ns_core.proofs.Administering.{limits_stay}
use Rattle.ns_core.proofs.Making.{denied}
use Rattle.ns_core.proofs.parts.Parts.admin.Goals.{in_default-via-in-PutQuota+else-is_relimited, in_default-via-in_default}
use Rattle.ns_core.proofs.parts.Parts.admin.Goals as goal

pub returns-then-not-may_administer-clause-made : goal.returns-then-not-may_administer-clause-made
returns-then-not-may_administer-clause-made c = denied (Step.Admin (option_copied c.args.secret) c.args.command.now) (state_of c.args.self.now)
    (sym c.may_administer.ensures ∙ c.if-not-may_administer.true)

pub relimit-requires-clause-other : goal.relimit-requires-clause-other
relimit-requires-clause-other c = sym c.is_relimited.ensures ∙ c.if-is_relimited.true

pub make_at_once-requires-clause-allowed : goal.make_at_once-requires-clause-allowed
make_at_once-requires-clause-allowed c = sym c.may_administer.ensures ∙ c.if-not-may_administer.false

pub make_at_once-requires-clause-same : goal.make_at_once-requires-clause-same
make_at_once-requires-clause-same c = elim c.in_default.branch [
  | in_default-via-in-PutQuota+else-is_relimited w ↦ ap (λ command. relimits command (world_of c.args.self.now)) w.in-PutQuota.is ∙
      (sym w.is_relimited.ensures ∙ w.if-is_relimited.false)
  | in_default-via-in_default w ↦ limits_stay (world_of c.args.self.now) c.args.command.now w.in_default.not-PutQuota
]

pub returns-in-PutQuota-clause-made : goal.returns-in-PutQuota-clause-made
returns-in-PutQuota-clause-made c =
    let secret = option_copied c.args.secret in
    subst (λ (command : AdminCommand). MakesStep (Step.Admin secret command) c.args.self.now c.relimit.result c.relimit.new.self) (sym c.in-PutQuota.is)
    (c.relimit.ensures.made secret (ap (may_administer c.args.self.now.acl secret) (sym c.in-PutQuota.is) ∙ sym c.may_administer.ensures ∙
    c.if-not-may_administer.false))
