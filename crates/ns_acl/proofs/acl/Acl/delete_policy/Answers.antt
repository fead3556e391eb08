use Rattle.std.proofs.Common.{refl, sym, ap, ◌∙◌}
use Rattle.std.specs.FinMap.{contains_key, remove}
use Rattle.keyed.specs.Table.{rows}
use Rattle.keyed.proofs.Tables.{rows-remove}
use Rattle.ns_types.proofs.Named.{names, one_name}
use Rattle.ns_acl.proofs.Answering.{delete_done, delete_nothing}
use Rattle.ns_acl.proofs.acl.Acl.delete_policy.Goals as goal

pub returns-then-not-has_row : goal.returns-then-not-has_row
returns-then-not-has_row c = (
  delete_nothing c.args.self.now c.args.name.now
      (ap (λ acl. contains_key acl.policies c.args.name.now) (sym c.self.view_is) ∙ sym c.has_row.ensures ∙ c.if-not-has_row.true),
  refl,
)

pub returns : goal.returns
returns c = delete_done c.args.self.now c.args.name.now (record { policies = rows c.remove.new.self; tokens = rows c.self.inside.tokens })
    (ap (λ acl. contains_key acl.policies c.args.name.now) (sym c.self.view_is) ∙ sym c.has_row.ensures ∙ c.if-not-has_row.false)
    (ap (λ m. rows m) c.remove.ensures ∙ rows-remove names one_name _ _ ∙ ap (λ acl. remove acl.policies c.args.name.now) c.self.view_is)
    (ap (λ acl. acl.tokens) c.self.view_is)
