use Rattle.std.proofs.Common.{ap, sym, ◌∙◌, Some, None}
use Rattle.std.specs.Option.{option_copied}
use Rattle.ns_types.specs.State.Rows.{Tenant}
use Rattle.ns_counters.specs.Bounds.{is_at_bound}
use Rattle.ns_counters.proofs.Passing.{at_tenant}
use Rattle.ns_counters.proofs.at_bound.is_last_index.Goals as goal

pub returns-in-Some : goal.returns-in-Some
returns-in-Some c = c.is_at_bound.ensures ∙ sym (at_tenant c.args.tables.now c.args.namespace.now (λ (t : Tenant). is_at_bound t.index)
    (Some c.in-Some.tenant.now) (sym c.get.ensures ∙ ap option_copied c.in-Some.is))

pub returns-in-None : goal.returns-in-None
returns-in-None c = sym (at_tenant c.args.tables.now c.args.namespace.now (λ (t : Tenant). is_at_bound t.index) None
    (sym c.get.ensures ∙ ap option_copied c.in-None.is))
