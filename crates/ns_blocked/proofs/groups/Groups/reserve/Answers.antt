use Rattle.std.proofs.Common.{refl}
use Rattle.ns_blocked.proofs.Grouping.{pools_kept, quotas_kept}
use Rattle.ns_blocked.proofs.groups.Groups.reserve.Goals as goal

pub returns-in-Quota-clause-same : goal.returns-in-Quota-clause-same
returns-in-Quota-clause-same c = quotas_kept c.args.self.now (record { quotas = c.reserve.new.self; pools = c.args.self.now.pools })
    c.reserve.ensures.same refl

pub returns-in-Pool-clause-same : goal.returns-in-Pool-clause-same
returns-in-Pool-clause-same c = pools_kept c.args.self.now (record { quotas = c.args.self.now.quotas; pools = c.reserve-in-Pool.new.self })
    c.reserve-in-Pool.ensures.same refl
