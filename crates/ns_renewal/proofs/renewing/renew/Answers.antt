use Rattle.std.proofs.Common.{ap, sym, ◌∙◌}
use Rattle.std.specs.Option.{option_copied}
use Rattle.ns_types.specs.Settling.Making.{make}
use Rattle.keyed.specs.Table.{row_at}
use Rattle.ns_change.proofs.Prepares.{done_as}
use Rattle.ns_change.specs.Changed.{view}
use Rattle.ns_renewal.proofs.Made.{no_row, nowhere, there}
use Rattle.ns_renewal.proofs.renewing.renew.Goals as goal

pub returns-in_default : goal.returns-in_default
returns-in_default c = sym (nowhere c.args.trigger c.args.tables.now (view c.args.tables.now c.args.change.now) c.args.key.now
    (ap (row_at c.args.tables.now.tenants) (sym c.namespace.ensures) ∙ sym c.get.ensures ∙ ap option_copied c.in_default.is))

pub returns-in_default-get : goal.returns-in_default-get
returns-in_default-get c = sym (no_row c.args.trigger c.args.tables.now (view c.args.tables.now c.args.change.now) c.args.key.now c.in-Some.tenant.now
    (ap (row_at c.args.tables.now.tenants) (sym c.namespace.ensures) ∙ sym c.get.ensures ∙ ap option_copied c.in-Some.is)
    (ap (row_at c.in-Some.tenant.now.allocations.slots) (sym c.number.ensures) ∙ sym c.get-2.ensures ∙ ap option_copied c.in_default-get.is))

pub returns : goal.returns
returns c =
    let x = view c.args.tables.now c.args.change.now in
    done_as c.make.result c.args.tables.now c.make.new.change _ _
    ((λ i. make (c.namespace-2.ensures i) (λ _. c.in_ok-evaluation.ensures i) x)
    ∙ sym (there c.args.trigger c.args.tables.now x c.args.key.now c.in-Some.tenant.now c.in-Some-get.ended.now
    (ap (row_at c.args.tables.now.tenants) (sym c.namespace.ensures) ∙ sym c.get.ensures ∙ ap option_copied c.in-Some.is)
    (ap (row_at c.in-Some.tenant.now.allocations.slots) (sym c.number.ensures) ∙ sym c.get-2.ensures ∙ ap option_copied c.in-Some-get.is)))
    c.make.ensures
