use Rattle.std.proofs.Common.{ap, ◌∙◌}
use Rattle.std.specs.FinMap.{empty, insert}
use Rattle.keyed.specs.Table.{rows}
use Rattle.keyed.proofs.Tables.{rows-empty}
use Rattle.ns_types.specs.State.Names.{name_cmp}
use Rattle.ns_acl.proofs.acl.Acl.new.Goals as goal

pub returns : goal.returns
returns c = λ i. record {
  policies = (ap (λ m. rows m) c.new.ensures ∙ rows-empty) i;
  tokens = (c.in_ok-put.ensures.ok
      ∙ ap (λ m. insert m c.args.bootstrap.now c.in_ok-bootstrap_token.field-0) (ap (λ m. rows m) c.new-tokens.ensures ∙ rows-empty)
      ∙ ap (λ token. insert (empty {R = name_cmp}) c.args.bootstrap.now token) c.in_ok-bootstrap_token.ensures) i;
}
