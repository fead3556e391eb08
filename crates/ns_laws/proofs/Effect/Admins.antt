-- What administrators ask does what it says.
use Rattle.std.specs.Prelude.{◌≡◌, Bool, true, false, Option, Some, None, Ok, option_map}
use Rattle.std.proofs.Common.{refl, sym, ap, subst, ◌∙◌}
use Rattle.std.specs.FinMap.{get, insert, remove, same_map, get-empty}
use Rattle.std.specs.Option.{option_and_then}
use Rattle.ns_types.specs.declared.records.Namespace.{Namespace}
use Rattle.ns_types.specs.declared.records.Pool.{Pool}
use Rattle.ns_types.specs.declared.reply.Reply.{Reply}
use Rattle.ns_types.specs.declared.step.AdminCommand.{AdminCommand}
use Rattle.ns_types.specs.declared.step.Step.{Step}
use Rattle.ns_types.specs.Asking.Admins.{with_namespace, put_namespace, delete_namespace, with_quota, put_quota, delete_quota, with_pool, put_pool_record}
use Rattle.ns_types.specs.Asking.Admins.{delete_pool}
use Rattle.ns_types.specs.Asking.Policies.{administer, with_world}
use Rattle.ns_types.specs.Settling.Making.{put_tenant, put_pool}
use Rattle.ns_types.specs.Settling.Settle.{settle}
use Rattle.ns_types.specs.State.Names.{Name, same_name, name_cmp}
use Rattle.ns_types.specs.State.Rows.{State, World, Tenant, PoolRows, QuotaRows, node_at}
use Rattle.ns_types.specs.Steps.{after, act, said, settled}
use Rattle.ns_types.proofs.Named.{names, one_name, numbers, one_number, same_name_is}
use Rattle.ns_types.proofs.TableRows.{get_other}
use Rattle.ns_laws.specs.Effects as law
use Rattle.ns_laws.specs.Effects.{HasNamespace, KeepsOtherNamespaces, quota_at, KeepsOtherQuotas, pool_at, KeepsOtherPools, KeepsNodes}
use Rattle.ns_laws.proofs.Effect.Rows.{Does, does_unless, does_found, does_lift, after_does, put_there, put_elsewhere, removed, removed_elsewhere}
use Rattle.ns_laws.proofs.Effect.Rows.{settled_rows, settled_there, settled_tenant, settled_jobs, settled_namespace, settled_former, settled_part}
use Rattle.ns_laws.proofs.Effect.Rows.{settled_quota, same_limits, settled_pool, same_record, settled_node}

module _ (s : State) (secret : Option Name) (command : AdminCommand) (Q : State → Type 0) where
  admin_does : Does (λ content x. Q (settled s x)) (administer secret command s) → (s' : State) (reply : Reply) →
      after (Step.Admin secret command) s ≡ said (Ok reply) s' → Q s'
  unfolding act
  admin_does h s' reply e = after_does (Step.Admin secret command) s s' reply (λ r y. Q y) e h

-- ---- namespaces

other_namespaces : (w x : World) (other : Name) → get x.tenants other ≡ get w.tenants other →
    option_map (λ t. t.namespace) (get (settle w x).tenants other) ≡ option_map (λ t. t.namespace) (get w.tenants other)
other_namespaces w x other same = settled_part w x other (λ t. t.namespace) (λ i o t. refl) (λ ks t. refl) ∙ ap (option_map (λ t. t.namespace)) same

is_named : (namespace : Namespace) (old : Option Tenant) → (with_namespace namespace old).namespace ≡ namespace
is_named namespace None = refl
is_named namespace (Some t) = refl

pub put_namespace_is_there : law.PutNamespaceIsThere
unfolding administer put_namespace
put_namespace_is_there secret name namespace s s' reply e = admin_does s secret (AdminCommand.PutNamespace name namespace) (HasNamespace name namespace s)
    (does_lift _ (with_world s.acl) (put_namespace name namespace s.world)
    (does_unless _ _ _ _ (λ _. does_unless _ _ _ _ (λ _. does_unless _ _ _ _ (λ _. does_unless _ _ _ _ (λ _. does_unless _ _ _ _ (λ _. record {
      rows = settled_rows s.world x name t;
      is_there = settled_there s.world x name t (put_there s.world.tenants name t);
      is_put = settled_namespace s.world x name t ∙ is_named namespace (get s.world.tenants name);
      jobs = λ old is. settled_jobs s.world x name t ∙ ap (λ o. (with_namespace namespace o).jobs) is;
      allocations = λ old is. same_map numbers one_number _ _
          (λ n. settled_former s.world x name old t n is (ap (λ o. get (with_namespace namespace o).allocations n) is));
      others = λ other differs. other_namespaces s.world x other (put_elsewhere s.world.tenants name t other differs);
    }))))))) s' reply e
  where
    t : Tenant
    t = with_namespace namespace (get s.world.tenants name)

    x : World
    x = put_tenant name t s.world

pub deleted_namespace_is_gone : law.DeletedNamespaceIsGone
unfolding administer delete_namespace
deleted_namespace_is_gone secret name s s' reply e = admin_does s secret (AdminCommand.DeleteNamespace name)
    (λ y. (get y.world.tenants name ≡ None) × KeepsOtherNamespaces name s y)
    (does_lift _ (with_world s.acl) (delete_namespace name s.world)
    (does_found _ (get s.world.tenants name) _ (λ t is. does_unless _ _ _ _ (λ _. does_unless _ _ _ _ (λ _. (
      settled_tenant s.world x name ∙ ap (option_map (settled_rows s.world x name)) (removed s.world.tenants name),
      λ other differs. other_namespaces s.world x other (removed_elsewhere s.world.tenants name other differs),
    )))))) s' reply e
  where
    x : World
    x = record s.world { tenants = remove s.world.tenants name }

-- ---- quotas

quota_after : (w x : World) (name : Name) → option_map (λ q. q.quota) (get (settle w x).quotas name) ≡ option_map (λ q. q.quota) (get x.quotas name)
quota_after w x name = settled_quota w x name (λ q. q.quota) same_limits

pub put_quota_is_there : law.PutQuotaIsThere
unfolding administer put_quota
put_quota_is_there secret name quota s s' reply e = admin_does s secret (AdminCommand.PutQuota name quota)
    (λ y. (quota_at y name ≡ Some quota) × KeepsOtherQuotas name s y)
    (does_lift _ (with_world s.acl) (put_quota name quota s.world) (does_unless _ _ _ _ (λ _. (
      quota_after s.world x name ∙ ap (option_map (λ q. q.quota)) (put_there s.world.quotas name q),
      λ other differs. quota_after s.world x other ∙ ap (option_map (λ q. q.quota)) (put_elsewhere s.world.quotas name q other differs),
    )))) s' reply e
  where
    q : QuotaRows
    q = with_quota quota (get s.world.quotas name)

    x : World
    x = record s.world { quotas = insert s.world.quotas name q }

pub deleted_quota_is_gone : law.DeletedQuotaIsGone
unfolding administer delete_quota
deleted_quota_is_gone secret name s s' reply e = admin_does s secret (AdminCommand.DeleteQuota name)
    (λ y. (quota_at y name ≡ None) × KeepsOtherQuotas name s y)
    (does_lift _ (with_world s.acl) (delete_quota name s.world) (does_found _ (get s.world.quotas name) _ (λ q is. does_unless _ _ _ _ (λ _. (
      quota_after s.world x name ∙ ap (option_map (λ q. q.quota)) (removed s.world.quotas name),
      λ other differs. quota_after s.world x other ∙ ap (option_map (λ q. q.quota)) (removed_elsewhere s.world.quotas name other differs),
    ))))) s' reply e
  where
    x : World
    x = record s.world { quotas = remove s.world.quotas name }

-- ---- pools

pool_after : (w x : World) (name : Name) → option_map (λ p. p.pool) (get (settle w x).pools name) ≡ option_map (λ p. p.pool) (get x.pools name)
pool_after w x name = settled_pool w x name (λ p. p.pool) same_record

is_put : (pool : Pool) (old : Option PoolRows) → (with_pool pool old).pool ≡ pool
is_put pool None = refl
is_put pool (Some p) = refl

pub put_pool_is_there : law.PutPoolIsThere
unfolding administer put_pool_record
put_pool_is_there secret name pool s s' reply e = admin_does s secret (AdminCommand.PutPool name pool)
    (λ y. (pool_at y name ≡ Some pool) × KeepsOtherPools name s y × KeepsNodes s y)
    (does_lift _ (with_world s.acl) (put_pool_record name pool s.world) (does_unless _ _ _ _ (λ _. (
      pool_after s.world x name ∙ ap (option_map (λ p. p.pool)) (put_there s.world.pools name p) ∙ ap Some (is_put pool (get s.world.pools name)),
      λ other differs. pool_after s.world x other ∙ ap (option_map (λ p. p.pool)) (put_elsewhere s.world.pools name p other differs),
      λ other node. settled_node s.world x other node ∙ node_same other node (same_name other name) refl,
    )))) s' reply e
  where
    p : PoolRows
    p = with_pool pool (get s.world.pools name)

    x : World
    x = put_pool name p s.world

    -- a new pool has no node
    its_nodes : (node : Name) (old : Option PoolRows) → get (with_pool pool old).nodes node ≡ option_and_then (λ p. get p.nodes node) old
    its_nodes node None = get-empty name_cmp node
    its_nodes node (Some old) = refl

    node_same : (other node : Name) (b : Bool) → same_name other name ≡ b → node_at x other node ≡ node_at s.world other node
    node_same other node true e = subst (λ k. node_at x k node ≡ node_at s.world k node) (sym (same_name_is other name e))
        (ap (option_and_then (λ p. get p.nodes node)) (put_there s.world.pools name p) ∙ its_nodes node (get s.world.pools name))
    node_same other node false e = ap (option_and_then (λ p. get p.nodes node)) (get_other names one_name s.world.pools name p other e)

pub deleted_pool_is_gone : law.DeletedPoolIsGone
unfolding administer delete_pool
deleted_pool_is_gone secret name s s' reply e = admin_does s secret (AdminCommand.DeletePool name)
    (λ y. (pool_at y name ≡ None) × KeepsOtherPools name s y)
    (does_lift _ (with_world s.acl) (delete_pool name s.world)
    (does_found _ (get s.world.pools name) _ (λ p is. does_unless _ _ _ _ (λ _. does_unless _ _ _ _ (λ _. (
      pool_after s.world x name ∙ ap (option_map (λ p. p.pool)) (removed s.world.pools name),
      λ other differs. pool_after s.world x other ∙ ap (option_map (λ p. p.pool)) (removed_elsewhere s.world.pools name other differs),
    )))))) s' reply e
  where
    x : World
    x = record s.world { pools = remove s.world.pools name }
