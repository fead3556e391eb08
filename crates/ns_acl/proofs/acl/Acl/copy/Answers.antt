use Rattle.std.proofs.Common.{◌∙◌}
use Rattle.ns_acl.proofs.acl.Acl.copy.Goals as goal

pub returns : goal.returns
returns c = (λ i. record { policies = c.in_ok-copied_policies.ensures i; tokens = c.in_ok-copied_tokens.ensures i }) ∙ c.self.view_is
