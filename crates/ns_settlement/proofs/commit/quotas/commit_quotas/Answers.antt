use Rattle.std.proofs.Common.{ap, ◌∙◌}
use Rattle.ns_change.specs.Changed.{changed_quota}
use Rattle.ns_settlement.specs.Owners.{changed_owners, owners}
use Rattle.ns_tables.specs.World.{quota_of}
use Rattle.ns_settlement.proofs.Whole.{records_are}
use Rattle.ns_settlement.proofs.commit.quotas.commit_quotas.Goals as goal

pub returns : goal.returns
returns c = c.put_quotas.ensures ∙ ap (changed_owners changed_quota c.args.changes) c.raise_quotas.ensures
    ∙ records_are c.args.changes c.args.released.now (owners quota_of c.args.table.now)
