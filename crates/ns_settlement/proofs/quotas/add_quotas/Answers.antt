use Rattle.std.proofs.Common.{ap, sym, ◌∙◌, ◌++◌}
use Rattle.std.proofs.lemmas.List.{append-nil}
use Rattle.ns_tables.specs.World.{tenant_of}
use Rattle.keyed.proofs.Levels.{none_there}
use Rattle.ns_release.proofs.Asked.{nothing_freed}
use Rattle.ns_settlement.proofs.quotas.add_quotas.Goals as goal

pub returns-then-is_none : goal.returns-then-is_none
returns-then-is_none c = sym (ap (λ l. c.args.quotas.now ++ l)
    (nothing_freed (tenant_of c.args.tenant.now) (none_there c.args.tenant.now.namespace.quota c.if-is_none.ensures) c.args.slots.now)
    ∙ append-nil c.args.quotas.now)
