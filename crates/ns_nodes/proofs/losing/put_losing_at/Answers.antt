use Rattle.std.proofs.Common.{ap, sym, subst, ◌≡◌, ◌∙◌}
use Rattle.std.specs.Option.{option_copied}
use Rattle.std.specs.Prelude.{OnOk}
use Rattle.keyed.proofs.Tables.{get-rows}
use Rattle.ns_types.proofs.Named.{numbers}
use Rattle.ns_nodes.specs.Losing.{with_losing}
use Rattle.ns_nodes.proofs.losing.put_losing_at.Goals as goal

pub returns-in-Some : goal.returns-in-Some
returns-in-Some c = subst (λ o. OnOk c.put_losing.result
    (c.put_losing.new.losing ≡ with_losing c.args.pool.now c.args.node.now c.args.losing.now (c.args.slot.now.0, o)))
    (sym (get-rows numbers c.args.tenant.now.allocations.slots c.args.slot.now.0 ∙ sym c.get.ensures ∙ ap option_copied c.in-Some.is))
    c.put_losing.ensures

pub returns-in-None : goal.returns-in-None
returns-in-None c = sym (ap (λ o. with_losing c.args.pool.now c.args.node.now c.args.losing.now (c.args.slot.now.0, o))
    (get-rows numbers c.args.tenant.now.allocations.slots c.args.slot.now.0 ∙ sym c.get.ensures ∙ ap option_copied c.in-None.is))
