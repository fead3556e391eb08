use Rattle.std.proofs.Common.{refl, sym, ap, ◌∙◌}
use Rattle.std.specs.FinMap.{insert, len}
use Rattle.std.specs.Prelude.{nat_le}
use Rattle.ns_types.specs.declared.reply.Content.TheVariants as Content
use Rattle.ns_types.specs.Asking.Policies.{token_of}
use Rattle.ns_types.specs.Asking.Admins.{most_rows}
use Rattle.ns_types.specs.Settling.Outcome.{is_done}
use Rattle.keyed.specs.Table.{rows}
use Rattle.ns_types.proofs.Outcomes.{memory_last}
use Rattle.ns_acl.proofs.Answering.{token_created, token_full, token_taken}
use Rattle.ns_acl.proofs.acl.Acl.create_token.Goals as goal

pub returns-then-is_taken : goal.returns-then-is_taken
returns-then-is_taken c = (token_taken c.args.self.now c.args.new.now (sym c.is_taken.ensures ∙ c.if-is_taken.true), refl)

pub returns-then-has_no_room : goal.returns-then-has_no_room
returns-then-has_no_room c = (
  token_full c.args.self.now c.args.new.now (sym c.is_taken.ensures ∙ c.if-is_taken.false)
      (ap (λ acl. nat_le most_rows (len acl.tokens)) (sym c.self.view_is) ∙ sym c.has_no_room.ensures ∙ c.if-has_no_room.true),
  refl,
)

pub returns : goal.returns
returns c = token_created c.args.self.now c.args.new.now (Content.Token c.in_ok-shown.shown) (token_of c.args.new.now)
    (record { policies = rows c.self.inside.policies; tokens = rows c.add_token.new.tokens })
    (sym c.is_taken.ensures ∙ c.if-is_taken.false)
    (ap (λ acl. nat_le most_rows (len acl.tokens)) (sym c.self.view_is) ∙ sym c.has_no_room.ensures ∙ c.if-has_no_room.false)
    (ap Content.Token c.in_ok-shown.ensures.shown)
    refl
    (ap (λ acl. acl.policies) c.self.view_is)
    (c.in_ok-shown.ensures.ok ∙ ap (λ acl. insert acl.tokens c.args.new.now.secret (token_of c.args.new.now)) c.self.view_is)

pub returns-in_err-shown : goal.returns-in_err-shown
returns-in_err-shown c = memory_last _ c.args.self.now _ c.from_residual.result c.from_residual.ensures.1
    (ap is_done (token_created c.args.self.now c.args.new.now _ (token_of c.args.new.now)
    (record c.args.self.now { tokens = insert c.args.self.now.tokens c.args.new.now.secret (token_of c.args.new.now) })
    (sym c.is_taken.ensures ∙ c.if-is_taken.false)
    (ap (λ acl. nat_le most_rows (len acl.tokens)) (sym c.self.view_is) ∙ sym c.has_no_room.ensures ∙ c.if-has_no_room.false)
    refl refl refl refl))
    ((λ i. record { policies = rows c.self.inside.policies; tokens = c.in_err-shown.ensures.err i }) ∙ c.self.view_is)
