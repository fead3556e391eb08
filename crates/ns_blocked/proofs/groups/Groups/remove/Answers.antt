use Rattle.std.proofs.Common.{refl}
use Rattle.ns_blocked.proofs.Grouping.{pools_dropped, quotas_dropped}
use Rattle.ns_blocked.proofs.groups.Groups.remove.Goals as goal

pub returns-in-Quota : goal.returns-in-Quota
returns-in-Quota c = quotas_dropped c.args.self.now (record { quotas = c.remove.new.self; pools = c.args.self.now.pools }) c.args.waits.now
    c.in-Quota.name c.args.place c.in-Quota.is c.remove.ensures refl

pub returns-in-Pool : goal.returns-in-Pool
returns-in-Pool c = pools_dropped c.args.self.now (record { quotas = c.args.self.now.quotas; pools = c.remove-in-Pool.new.self }) c.args.waits.now
    c.in-Pool.name c.args.place c.in-Pool.is c.remove-in-Pool.ensures refl
