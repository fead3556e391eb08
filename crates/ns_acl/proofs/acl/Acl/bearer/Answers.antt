use Rattle.std.proofs.Common.{sym, ap, ◌∙◌}
use Rattle.std.specs.FinMap.{get}
use Rattle.std.specs.Option.{option_copied, option_map_or}
use Rattle.ns_types.specs.Access.Rights.{Unknown, bearer_with}
use Rattle.ns_acl.proofs.Slotted.{row_found}
use Rattle.ns_acl.proofs.acl.Acl.bearer.Goals as goal

pub returns-in-None : goal.returns-in-None
returns-in-None c = rw c.in-Some.is (sym (ap (λ x. option_map_or (λ token. bearer_with token.kind token.policies) x Unknown)
    (ap (λ acl. get acl.tokens c.in-Some.secret.now) (sym c.self.view_is) ∙ row_found _ _ _ (sym c.get.ensures ∙ ap option_copied c.in-None.is))))

pub returns-in-Some-get : goal.returns-in-Some-get
returns-in-Some-get c = rw c.in-Some.is (c.of_token.ensures ∙ sym (ap (λ x. option_map_or (λ token. bearer_with token.kind token.policies) x Unknown)
    (ap (λ acl. get acl.tokens c.in-Some.secret.now) (sym c.self.view_is) ∙ row_found _ _ _ (sym c.get.ensures ∙ ap option_copied c.in-Some-get.is))))
