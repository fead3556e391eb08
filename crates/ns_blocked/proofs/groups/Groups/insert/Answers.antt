use Rattle.std.proofs.Common.{refl}
use Rattle.ns_blocked.proofs.Grouping.{pools_added, quotas_added}
use Rattle.ns_blocked.proofs.groups.Groups.insert.Goals as goal

pub returns-in-Quota : goal.returns-in-Quota
returns-in-Quota c = quotas_added c.args.self.now (record { quotas = c.insert.new.self; pools = c.args.self.now.pools }) c.args.waits.now
    c.in-Quota.name c.args.place c.in-Quota.is c.insert.ensures refl

pub returns-in-Pool : goal.returns-in-Pool
returns-in-Pool c = pools_added c.args.self.now (record { quotas = c.args.self.now.quotas; pools = c.insert-in-Pool.new.self }) c.args.waits.now
    c.in-Pool.name c.args.place c.in-Pool.is c.insert-in-Pool.ensures refl
