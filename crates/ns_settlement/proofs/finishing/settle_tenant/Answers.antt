use Rattle.std.proofs.Common.{◌≡◌, ap, sym, ◌∙◌, true, false, rules, ◌+◌, ◌<◌, ◌^◌}
use Rattle.std.specs.Option.{option_copied}
use Rattle.std.specs.Prelude.{Some}
use Rattle.ns_change.specs.declared.change.SettledTenant.{SettledTenant}
use Rattle.ns_settlement.proofs.Finished.{rises, settled_nowhere, settled_there}
use Rattle.ns_settlement.proofs.finishing.settle_tenant.Goals as goal
use Rattle.ns_types.proofs.Bounds.{within_bound}

pub returns-in_default : goal.returns-in_default
returns-in_default c = sym (settled_nowhere c.args.tables.now c.args.namespace.now c.args.change (sym c.get.ensures ∙ ap option_copied c.in_default.is))

pub returns-then-not-touches : goal.returns-then-not-touches
returns-then-not-touches c = sym (settled_there c.args.tables.now c.args.namespace.now c.args.change c.in-Some.tenant.now
    (sym c.get.ensures ∙ ap option_copied c.in-Some.is) false (sym c.touches.ensures ∙ c.if-not-touches.true))

pub overflow_add-index : goal.overflow_add-index
overflow_add-index c = let less : c.in-Some.tenant.now.index + 1 < 2 ^ 64 =
    within_bound (c.in-Some.tenant.now.index + 1) (rises c.args.tables.now c.args.namespace.now c.args.change c.in-Some.tenant.now
    (sym c.get.ensures ∙ ap option_copied c.in-Some.is) c.requires (sym c.touches.ensures ∙ c.if-not-touches.false)) in search rules

pub returns : goal.returns
returns c =
    let both : ◌≡◌ {A = SettledTenant} (record { rows = c.stamp_change.result; events = Some c.in_ok-events.events }) _ =
    λ i. record { rows = c.stamp_change.ensures i; events = Some (c.in_ok-events.ensures i) } in
    ap Some both ∙ sym (settled_there c.args.tables.now c.args.namespace.now c.args.change c.in-Some.tenant.now
    (sym c.get.ensures ∙ ap option_copied c.in-Some.is) true (sym c.touches.ensures ∙ c.if-not-touches.false))
