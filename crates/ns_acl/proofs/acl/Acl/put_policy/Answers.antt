use Rattle.std.proofs.Common.{refl, sym, ap, ◌∙◌}
use Rattle.std.specs.FinMap.{insert}
use Rattle.ns_types.specs.Asking.Admins.{is_full}
use Rattle.ns_types.specs.Settling.Outcome.{is_done}
use Rattle.keyed.specs.Table.{rows}
use Rattle.ns_types.proofs.Outcomes.{memory_last}
use Rattle.ns_acl.proofs.Answering.{put_done, put_full}
use Rattle.ns_acl.proofs.acl.Acl.put_policy.Goals as goal

pub returns-then-is_full : goal.returns-then-is_full
returns-then-is_full c = (
  put_full c.args.self.now c.args.name.now c.args.policy.now
      (ap (λ acl. is_full acl.policies c.args.name.now) (sym c.self.view_is) ∙ sym c.is_full.ensures ∙ c.if-is_full.true),
  refl,
)

pub returns : goal.returns
returns c = put_done c.args.self.now c.args.name.now c.args.policy.now
    (record { policies = rows c.write_policy.new.policies; tokens = rows c.self.inside.tokens })
    (ap (λ acl. is_full acl.policies c.args.name.now) (sym c.self.view_is) ∙ sym c.is_full.ensures ∙ c.if-is_full.false)
    (c.in_ok-write_policy.ensures.ok ∙ ap (λ acl. insert acl.policies c.args.name.now c.args.policy.now) c.self.view_is)
    (ap (λ acl. acl.tokens) c.self.view_is)

pub returns-in_err-write_policy : goal.returns-in_err-write_policy
returns-in_err-write_policy c = memory_last _ c.args.self.now _ c.from_residual.result c.from_residual.ensures.1
    (ap is_done (put_done c.args.self.now c.args.name.now c.args.policy.now
    (record c.args.self.now { policies = insert c.args.self.now.policies c.args.name.now c.args.policy.now })
    (ap (λ acl. is_full acl.policies c.args.name.now) (sym c.self.view_is) ∙ sym c.is_full.ensures ∙ c.if-is_full.false) refl refl))
    ((λ i. record { policies = c.in_err-write_policy.ensures.err i; tokens = rows c.self.inside.tokens }) ∙ c.self.view_is)
