use Rattle.std.proofs.Common.{ap, sym, ◌∙◌, Some, None}
use Rattle.std.specs.Option.{option_copied}
use Rattle.ns_counters.proofs.Last.{no_tenant_passes}
use Rattle.ns_counters.proofs.Passing.{tenant_by}
use Rattle.ns_counters.proofs.full.tenant_passes.Goals as goal

pub returns-in-Some-get : goal.returns-in-Some-get
returns-in-Some-get c = c.passes_in.ensures ∙ sym (tenant_by c.args.tables.now c.args.slot.now.0 c.args.change.now (Some c.in-Some-get.tenant.now)
    (sym c.get.ensures ∙ ap option_copied c.in-Some-get.is) c.args.slot.now.1 c.in-Some.changed c.in-Some.is)

pub returns-in-None : goal.returns-in-None
returns-in-None c = sym (tenant_by c.args.tables.now c.args.slot.now.0 c.args.change.now None (sym c.get.ensures ∙ ap option_copied c.in-None.is)
    c.args.slot.now.1 c.in-Some.changed c.in-Some.is)

pub returns-then-not-may_be_at_bound : goal.returns-then-not-may_be_at_bound
returns-then-not-may_be_at_bound c = sym (no_tenant_passes c.args.tables.now (c.may_be_at_bound.ensures c.if-not-may_be_at_bound.true) c.args.change.now
    c.args.slot.now.0 c.args.slot.now.1 c.in-Some.changed c.in-Some.is (sym c.is_number_past.ensures ∙ c.if-not-is_number_past.true))
