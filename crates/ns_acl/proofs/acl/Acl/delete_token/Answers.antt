use Rattle.std.proofs.Common.{refl, sym, ap, ◌∙◌}
use Rattle.std.specs.FinMap.{remove}
use Rattle.std.specs.Option.{option_copied}
use Rattle.ns_types.specs.Settling.Outcome.{is_done}
use Rattle.keyed.specs.Table.{rows}
use Rattle.keyed.proofs.Tables.{rows-remove}
use Rattle.ns_types.proofs.Named.{names, one_name}
use Rattle.ns_types.proofs.Outcomes.{memory_last}
use Rattle.ns_acl.proofs.Answering.{no_token, token_deleted, token_kept}
use Rattle.ns_acl.proofs.acl.Acl.delete_token.Goals as goal

pub returns-in_default : goal.returns-in_default
returns-in_default c = (
  no_token c.args.self.now c.args.accessor.now
      (sym c.secret_of.ensures ∙ ap option_copied c.in_default.is),
  refl,
)

pub returns-then-is_bootstrap : goal.returns-then-is_bootstrap
returns-then-is_bootstrap c = (
  token_kept c.args.self.now c.args.accessor.now c.in-Some.secret.now
      (sym c.secret_of.ensures ∙ ap option_copied c.in-Some.is)
      (sym c.is_bootstrap.ensures ∙ c.if-is_bootstrap.true),
  refl,
)

pub returns : goal.returns
returns c = token_deleted c.args.self.now c.args.accessor.now c.in-Some.secret.now c.in_ok-secret.secret
    (record { policies = rows c.self.inside.policies; tokens = rows c.remove.new.self })
    (sym c.secret_of.ensures ∙ ap option_copied c.in-Some.is)
    (sym c.is_bootstrap.ensures ∙ c.if-is_bootstrap.false)
    c.in_ok-secret.ensures.cases
    (ap (λ acl. acl.policies) c.self.view_is)
    (ap (λ m. rows m) c.remove.ensures ∙ rows-remove names one_name _ _ ∙ ap (λ acl. remove acl.tokens c.in_ok-secret.secret) c.self.view_is)

pub returns-in_err-secret : goal.returns-in_err-secret
returns-in_err-secret c = memory_last _ c.args.self.now c.args.self.now c.from_residual.result c.from_residual.ensures.1
    (ap is_done (token_deleted c.args.self.now c.args.accessor.now c.in-Some.secret.now c.in-Some.secret.now
    (record c.args.self.now { tokens = remove c.args.self.now.tokens c.in-Some.secret.now })
    (sym c.secret_of.ensures ∙ ap option_copied c.in-Some.is) (sym c.is_bootstrap.ensures ∙ c.if-is_bootstrap.false) refl refl refl))
    refl
