use Rattle.std.specs.Prelude.{Ok}
use Rattle.std.proofs.Common.{refl}
use Rattle.std.specs.FinMap.{remove}
use Rattle.ns_admin.specs.Viewed.{with_pool_put, with_quota_put}
use Rattle.ns_admin.proofs.Naming.{other_named}
use Rattle.ns_admin.proofs.World.{pool_removed, quota_removed}
use Rattle.ns_admin.proofs.writing.write.Goals as goal

pub returns-in-NoNamespace-clause-written : goal.returns-in-NoNamespace-clause-written
returns-in-NoNamespace-clause-written c = rw c.in-NoNamespace.is c.remove_namespace.ensures.written

pub returns-in-Quota-clause-named : goal.returns-in-Quota-clause-named
returns-in-Quota-clause-named c = other_named (with_quota_put c.in-Quota.name c.in-Quota.quota) (λ w ns. refl) (λ w ns. refl) c.args.tables.now
    c.write_quota.new.tables c.write_quota.result c.write_quota.ensures.written c.write_quota.ensures.refused c.args.live.now

pub returns-in-NoQuota-clause-written : goal.returns-in-NoQuota-clause-written
returns-in-NoQuota-clause-written c = rw c.in-NoQuota.is (quota_removed c.args.tables.now _ _ c.remove.ensures)

pub returns-in-NoQuota-clause-named : goal.returns-in-NoQuota-clause-named
returns-in-NoQuota-clause-named c = other_named (λ w. record w { quotas = remove w.quotas c.in-NoQuota.name }) (λ w ns. refl) (λ w ns. refl)
    c.args.tables.now _ (Ok tt) (quota_removed c.args.tables.now _ _ c.remove.ensures) tt c.args.live.now

pub returns-in-Pool-clause-named : goal.returns-in-Pool-clause-named
returns-in-Pool-clause-named c = other_named (with_pool_put c.in-Pool.name c.in-Pool.pool) (λ w ns. refl) (λ w ns. refl) c.args.tables.now
    c.write_pool.new.tables c.write_pool.result c.write_pool.ensures.written c.write_pool.ensures.refused c.args.live.now

pub returns-in-NoPool-clause-written : goal.returns-in-NoPool-clause-written
returns-in-NoPool-clause-written c = rw c.in-NoPool.is (pool_removed c.args.tables.now _ _ c.remove-in-NoPool.ensures)

pub returns-in-NoPool-clause-named : goal.returns-in-NoPool-clause-named
returns-in-NoPool-clause-named c = other_named (λ w. record w { pools = remove w.pools c.in-NoPool.name }) (λ w ns. refl) (λ w ns. refl)
    c.args.tables.now _ (Ok tt) (pool_removed c.args.tables.now _ _ c.remove-in-NoPool.ensures) tt c.args.live.now
