use Rattle.std.proofs.Common.{refl, sym, ap}
use Rattle.ns_types.specs.Asking.Admins.{delete_namespace, delete_pool, delete_quota, put_namespace, put_pool_record, put_quota}
use Rattle.ns_types.specs.Asking.Policies.{administer, with_acl, with_world}
use Rattle.ns_types.specs.Settling.Outcome.{Done}
use Rattle.ns_types.proofs.Outcomes.{memory_last}
use Rattle.ns_core.specs.Viewed.{state_of, world_of}
use Rattle.ns_steps.proofs.Reading.{changes_lift}
use Rattle.ns_core.proofs.Administering.{writes}
use Rattle.ns_core.proofs.parts.Parts.administer.Goals as goal

pub delete_quota-prepared-requires : goal.delete_quota-prepared-requires
delete_quota-prepared-requires c = c.requires.live.quotas

pub returns-in-DeleteNamespace-clause-made : goal.returns-in-DeleteNamespace-clause-made
unfolding administer
returns-in-DeleteNamespace-clause-made c = rw c.in-DeleteNamespace.is
    (writes c.args.self.now c.record-in-DeleteNamespace.new.tables (delete_namespace c.in-DeleteNamespace.name)
    c.delete_namespace-prepared.result c.record-in-DeleteNamespace.result c.record-in-DeleteNamespace.ensures.written c.delete_namespace-prepared.ensures)

pub returns-in_ok-list_quotas-in-ListQuotas-clause-made : goal.returns-in_ok-list_quotas-in-ListQuotas-clause-made
unfolding administer
returns-in_ok-list_quotas-in-ListQuotas-clause-made c = rw c.in-ListQuotas.is
    (ap (λ content. Done content (state_of c.args.self.now)) (sym c.in_ok-list_quotas-in-ListQuotas.ensures))

pub returns-in-ReadQuota-clause-made : goal.returns-in-ReadQuota-clause-made
unfolding administer
returns-in-ReadQuota-clause-made c = rw c.in-ReadQuota.is (changes_lift (with_world c.args.self.now.acl) _ _ (world_of c.args.self.now) c.read_quota.result
    c.read_quota.ensures)

pub returns-in-DeleteQuota-clause-made : goal.returns-in-DeleteQuota-clause-made
unfolding administer
returns-in-DeleteQuota-clause-made c = rw c.in-DeleteQuota.is
    (writes c.args.self.now c.record-in-DeleteQuota.new.tables (delete_quota c.in-DeleteQuota.name)
    c.delete_quota-prepared.result c.record-in-DeleteQuota.result c.record-in-DeleteQuota.ensures.written c.delete_quota-prepared.ensures)

pub returns-in-DeletePool-clause-made : goal.returns-in-DeletePool-clause-made
unfolding administer
returns-in-DeletePool-clause-made c = rw c.in-DeletePool.is
    (writes c.args.self.now c.record-in-DeletePool.new.tables (delete_pool c.in-DeletePool.name)
    c.delete_pool-prepared.result c.record-in-DeletePool.result c.record-in-DeletePool.ensures.written c.delete_pool-prepared.ensures)

pub returns-in-ReadPolicy-clause-made : goal.returns-in-ReadPolicy-clause-made
unfolding administer
returns-in-ReadPolicy-clause-made c = rw c.in-ReadPolicy.is (changes_lift (with_acl (world_of c.args.self.now))
    _ _ c.args.self.now.acl c.read_policy.result c.read_policy.ensures)

pub returns-in-DeletePolicy-clause-made : goal.returns-in-DeletePolicy-clause-made
unfolding administer
returns-in-DeletePolicy-clause-made c = rw c.in-DeletePolicy.is
    (changes_lift (with_acl (world_of c.args.self.now)) _ _ c.delete_policy.new.self c.delete_policy.result c.delete_policy.ensures)

pub returns-in-CreateToken-clause-made : goal.returns-in-CreateToken-clause-made
unfolding administer
returns-in-CreateToken-clause-made c = rw c.in-CreateToken.is
    (changes_lift (with_acl (world_of c.args.self.now)) _ _ c.create_token.new.self c.create_token.result c.create_token.ensures)

pub returns-in-DeleteToken-clause-made : goal.returns-in-DeleteToken-clause-made
unfolding administer
returns-in-DeleteToken-clause-made c = rw c.in-DeleteToken.is
    (changes_lift (with_acl (world_of c.args.self.now)) _ _ c.delete_token.new.self c.delete_token.result c.delete_token.ensures)

pub returns-in_err-list_quotas-in-ListQuotas-clause-made : goal.returns-in_err-list_quotas-in-ListQuotas-clause-made
unfolding administer
returns-in_err-list_quotas-in-ListQuotas-clause-made c = rw c.in-ListQuotas.is (memory_last _ _ _ c.from_residual.result c.from_residual.ensures.1 refl refl)

pub returns-in-PutNamespace-clause-made : goal.returns-in-PutNamespace-clause-made
unfolding administer
returns-in-PutNamespace-clause-made c = rw c.in-PutNamespace.is
    (writes c.args.self.now c.record.new.tables (put_namespace c.in-PutNamespace.name c.in-PutNamespace.row)
    c.put_namespace-prepared.result c.record.result c.record.ensures.written c.put_namespace-prepared.ensures)

pub returns-in-PutPool-clause-made : goal.returns-in-PutPool-clause-made
unfolding administer
returns-in-PutPool-clause-made c = rw c.in-PutPool.is
    (writes c.args.self.now c.record-in-PutPool.new.tables (put_pool_record c.in-PutPool.name c.in-PutPool.pool)
    c.put_pool-prepared.result c.record-in-PutPool.result c.record-in-PutPool.ensures.written c.put_pool-prepared.ensures)

pub returns-in-PutPolicy-clause-made : goal.returns-in-PutPolicy-clause-made
unfolding administer
returns-in-PutPolicy-clause-made c = rw c.in-PutPolicy.is
    (changes_lift (with_acl (world_of c.args.self.now)) _ _ c.put_policy.new.self c.put_policy.result c.put_policy.ensures)

pub returns-in-PutQuota-clause-made : goal.returns-in-PutQuota-clause-made
unfolding administer
returns-in-PutQuota-clause-made c = rw c.in-PutQuota.is
    (writes c.args.self.now c.record-in-PutQuota.new.tables (put_quota c.in-PutQuota.name c.in-PutQuota.quota)
    c.put_quota-prepared.result c.record-in-PutQuota.result c.record-in-PutQuota.ensures.written c.put_quota-prepared.ensures)
