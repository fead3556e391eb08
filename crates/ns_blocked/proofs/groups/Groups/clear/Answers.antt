use Rattle.std.proofs.Common.{refl}
use Rattle.ns_blocked.proofs.Grouping.{pools_held, quotas_held}
use Rattle.ns_blocked.proofs.groups.Groups.clear.Goals as goal

pub returns-in-Quota : goal.returns-in-Quota
returns-in-Quota c = quotas_held c.args.self.now (record { quotas = c.clear.new.self; pools = c.args.self.now.pools }) c.clear.ensures.held refl

pub returns-in-Pool : goal.returns-in-Pool
returns-in-Pool c = pools_held c.args.self.now (record { quotas = c.args.self.now.quotas; pools = c.clear-in-Pool.new.self })
    c.clear-in-Pool.ensures.held refl
