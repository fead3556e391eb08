use Rattle.std.proofs.Common.{ap, sym, ◌∙◌, ◌+◌, Some, None, nat_lt}
use Rattle.std.specs.Option.{option_copied}
use Rattle.ns_types.specs.State.Rows.{Tenant}
use Rattle.ns_types.specs.Steps.{greatest}
use Rattle.ns_counters.proofs.Passing.{at_tenant}
use Rattle.ns_applier.proofs.headroom.ending.allocations_pass.Goals as goal

pub returns-in-Some : goal.returns-in-Some
returns-in-Some c = c.is_past.ensures ∙ sym (at_tenant c.args.tables.now c.args.namespace.now
    (λ (t : Tenant). nat_lt greatest (t.allocation_number + c.args.count)) (Some c.in-Some.tenant.now) (sym c.get.ensures ∙ ap option_copied c.in-Some.is))

pub returns-in-None : goal.returns-in-None
returns-in-None c = sym (at_tenant c.args.tables.now c.args.namespace.now
    (λ (t : Tenant). nat_lt greatest (t.allocation_number + c.args.count)) None (sym c.get.ensures ∙ ap option_copied c.in-None.is))
