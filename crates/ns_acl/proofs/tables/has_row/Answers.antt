use Rattle.std.proofs.Common.{sym, ◌∙◌}
use Rattle.ns_types.proofs.Tests.{some_mapped}
use Rattle.ns_acl.proofs.Slotted.{has_row}
use Rattle.ns_acl.proofs.tables.has_row.Goals as goal

pub returns : goal.returns
returns g c = has_row _ _ _ _ (sym c.get.ensures) (c.is_some.ensures ∙ sym (some_mapped (λ x. x.now) c.get.result))
