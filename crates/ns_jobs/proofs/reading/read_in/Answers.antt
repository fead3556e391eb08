use Rattle.std.proofs.Common.{subst}
use Rattle.ns_tables.specs.World.{world_of}
use Rattle.ns_jobs.specs.Read.{UsageFits}
use Rattle.ns_jobs.proofs.reading.read_in.Goals as goal

pub quota_usage-requires-clause-fits : goal.quota_usage-requires-clause-fits
quota_usage-requires-clause-fits c = subst (λ command. UsageFits command (world_of c.args.tables.now)) c.in-QuotaUsage.is c.requires.fits

pub returns-in-QuotaUsage : goal.returns-in-QuotaUsage
returns-in-QuotaUsage c = rw c.in-QuotaUsage.is (c.quota_usage.ensures c.args.namespace.now)
