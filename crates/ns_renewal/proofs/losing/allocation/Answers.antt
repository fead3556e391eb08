use Rattle.std.proofs.Common.{ap, sym, ◌∙◌}
use Rattle.std.specs.Option.{option_copied, option_map}
use Rattle.ns_renewal.proofs.Least.{victim_nowhere, victim_there}
use Rattle.ns_renewal.proofs.losing.allocation.Goals as goal

pub returns-in_default : goal.returns-in_default
returns-in_default c = sym (victim_nowhere c.args.tables.now c.args.eviction.now (sym c.get.ensures ∙ ap option_copied c.in_default.is))

pub returns : goal.returns
returns c = ap (option_map (λ a. (c.args.eviction.now.namespace, (c.args.eviction.now.number, a)))) c.get-2.ensures
    ∙ sym (victim_there c.args.tables.now c.args.eviction.now c.in-Some.tenant.now (sym c.get.ensures ∙ ap option_copied c.in-Some.is))
