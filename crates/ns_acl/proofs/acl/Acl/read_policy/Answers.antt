use Rattle.std.proofs.Common.{refl, sym, ap, ◌∙◌}
use Rattle.std.specs.FinMap.{get}
use Rattle.std.specs.Option.{option_copied}
use Rattle.ns_types.specs.Settling.Outcome.{Done, is_done}
use Rattle.ns_types.proofs.Outcomes.{memory_last}
use Rattle.ns_acl.proofs.Answering.{read_nothing, read_done}
use Rattle.ns_acl.proofs.Slotted.{row_found}
use Rattle.ns_acl.proofs.acl.Acl.read_policy.Goals as goal

pub returns-in_default : goal.returns-in_default
returns-in_default c = (
  read_nothing c.args.self.now c.args.name.now
      (ap (λ acl. get acl.policies c.args.name.now) (sym c.self.view_is) ∙ row_found _ _ _ (sym c.get.ensures ∙ ap option_copied c.in_default.is)),
  refl,
)

pub returns : goal.returns
returns c = read_done c.args.self.now c.args.name.now c.in-Some.policy.now
    (ap (λ acl. get acl.policies c.args.name.now) (sym c.self.view_is) ∙ row_found _ _ _ (sym c.get.ensures ∙ ap option_copied c.in-Some.is))
    ∙ ap (λ content. Done content c.args.self.now) (sym c.in_ok-content.ensures)

pub returns-in_err-content : goal.returns-in_err-content
returns-in_err-content c = memory_last _ c.args.self.now c.args.self.now c.from_residual.result c.from_residual.ensures.1
    (ap is_done (read_done c.args.self.now c.args.name.now c.in-Some.policy.now
    (ap (λ acl. get acl.policies c.args.name.now) (sym c.self.view_is) ∙ row_found _ _ _ (sym c.get.ensures ∙ ap option_copied c.in-Some.is))))
    refl
