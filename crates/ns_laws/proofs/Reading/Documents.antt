-- What reads of quotas, namespaces, policies, pools and nodes show.
use Rattle.std.specs.Prelude.{◌≡◌, true, Some}
use Rattle.std.proofs.Common.{refl}
use Rattle.std.specs.FinMap.{get}
use Rattle.ns_types.specs.declared.node.Node.{Node}
use Rattle.ns_types.specs.declared.reply.Content.{Content}
use Rattle.ns_types.specs.declared.reply.NamespaceShown.{NamespaceShown}
use Rattle.ns_types.specs.declared.reply.NodeShown.{NodeShown}
use Rattle.ns_types.specs.declared.reply.PolicyShown.{PolicyShown}
use Rattle.ns_types.specs.declared.reply.PoolShown.{PoolShown}
use Rattle.ns_types.specs.declared.reply.QuotaShown.{QuotaShown}
use Rattle.ns_types.specs.declared.step.AdminCommand.{AdminCommand}
use Rattle.ns_types.specs.declared.step.AskCommand.{AskCommand}
use Rattle.ns_types.specs.declared.step.NodeCommand.{NodeCommand}
use Rattle.ns_types.specs.declared.step.Step.{Step}
use Rattle.ns_types.specs.Access.Rights.{has_any, rights_of, pool_rights_of}
use Rattle.ns_types.specs.Asking.Nodes.{ask_pool}
use Rattle.ns_types.specs.Asking.Policies.{administer, with_acl, with_world, read_policy}
use Rattle.ns_types.specs.Asking.Admins.{read_quota}
use Rattle.ns_types.specs.State.Names.{Name}
use Rattle.ns_types.specs.State.Rows.{Tenant, PoolRows, QuotaRows}
use Rattle.ns_types.specs.State.Sums.{node_load}
use Rattle.ns_types.specs.Steps.{act, is_allowed}
use Rattle.ns_types.proofs.Named.{names, one_name}
use Rattle.ns_laws.specs.Reads as law
use Rattle.ns_laws.specs.Reads.{ShowsOne, ShowsRows}
use Rattle.ns_laws.proofs.Effect.Rows.{does_found, does_lift}
use Rattle.ns_laws.proofs.Reading.Shown.{made_shows, shows_all, shows_one, shows_rows}
use Rattle.ns_laws.proofs.Reading.Use.{load_is}

-- ---- quotas

pub quota_is_shown : law.QuotaIsShown
unfolding act administer
quota_is_shown secret name s s' reply e = made_shows (Step.Admin secret (AdminCommand.ReadQuota name)) s s' reply
    (λ r. ShowsOne s.world.quotas name (λ shown. shown.name) (λ q (shown : QuotaShown). shown.row ≡ q.quota) Content.Quota r.content)
    (does_lift _ (with_world s.acl) (read_quota name s.world) (does_found _ (get s.world.quotas name) _
    (λ q at. (refl, shows_one q (record { name = name; row = q.quota }) at refl refl)))) e

pub quotas_are_listed : law.QuotasAreListed
unfolding act administer
quotas_are_listed secret s s' reply e = made_shows (Step.Admin secret AdminCommand.ListQuotas) s s' reply
    (λ r. ShowsRows s.world.quotas law.All (λ shown. shown.name) (λ q (shown : QuotaShown). shown.row ≡ q.quota) Content.Quotas r.content) (
      refl,
      shows_all names one_name s.world.quotas (λ (q : Name × QuotaRows). record { name = q.0; row = q.1.quota }) (λ (shown : QuotaShown). shown.name)
          (λ q (shown : QuotaShown). shown.row ≡ q.quota) Content.Quotas (λ name q. refl) (λ name q. refl),
    ) e

-- ---- what a secret may see

pub namespaces_are_listed : law.NamespacesAreListed
unfolding act administer
namespaces_are_listed secret s s' reply e =
    let May : Name → Tenant → Type 0 = (λ ns _. is_allowed (Step.Ask ns secret AskCommand.ReadNamespace) s.acl ≡ true) in
    let Shows : Tenant → NamespaceShown → Type 0 = (λ t shown. shown.row ≡ t.namespace) in
    made_shows (Step.Admin secret AdminCommand.ListNamespaces) s s' reply
    (λ r. ShowsRows s.world.tenants May (λ shown. shown.name) Shows Content.Namespaces r.content) (
      refl,
      shows_rows names one_name s.world.tenants (λ (t : Name × Tenant). has_any (rights_of s.acl secret t.0))
          (λ t. record { name = t.0; row = t.1.namespace }) May (λ (shown : NamespaceShown). shown.name) Shows Content.Namespaces
          (λ ns t. refl) (λ ns t may. may) (λ ns t may. may) (λ ns t. refl),
    ) e

pub pools_are_listed : law.PoolsAreListed
unfolding act administer
pools_are_listed secret s s' reply e =
    let May : Name → PoolRows → Type 0 = (λ pool _. is_allowed (Step.Node pool secret NodeCommand.ReadPool) s.acl ≡ true) in
    let Shows : PoolRows → PoolShown → Type 0 = (λ p shown. shown.row ≡ p.pool) in
    made_shows (Step.Admin secret AdminCommand.ListPools) s s' reply
    (λ r. ShowsRows s.world.pools May (λ shown. shown.name) Shows Content.Pools r.content) (
      refl,
      shows_rows names one_name s.world.pools (λ (p : Name × PoolRows). (pool_rights_of s.acl secret p.0).read)
          (λ p. record { name = p.0; row = p.1.pool }) May (λ (shown : PoolShown). shown.name) Shows Content.Pools
          (λ pool p. refl) (λ pool p may. may) (λ pool p may. may) (λ pool p. refl),
    ) e

-- ---- policies, pools and nodes

pub policy_is_shown : law.PolicyIsShown
unfolding act administer
policy_is_shown secret name s s' reply e = made_shows (Step.Admin secret (AdminCommand.ReadPolicy name)) s s' reply
    (λ r. ShowsOne s.acl.policies name (λ shown. shown.name) (λ policy (shown : PolicyShown). shown.row ≡ policy) Content.Policy r.content)
    (does_lift _ (with_acl s.world) (read_policy name s.acl) (does_found _ (get s.acl.policies name) _
    (λ policy at. (refl, shows_one policy (record { name = name; row = policy }) at refl refl)))) e

pub pool_is_shown : law.PoolIsShown
unfolding act ask_pool
pool_is_shown pool secret s s' reply e = made_shows (Step.Node pool secret NodeCommand.ReadPool) s s' reply
    (λ r. ShowsOne s.world.pools pool (λ shown. shown.name) (λ p (shown : PoolShown). shown.row ≡ p.pool) Content.Pool r.content)
    (does_lift _ (with_world s.acl) (ask_pool pool NodeCommand.ReadPool s.world) (does_found _ (get s.world.pools pool) _
    (λ p at. (refl, shows_one p (record { name = pool; row = p.pool }) at refl refl)))) e

pub nodes_are_listed : law.NodesAreListed
unfolding act ask_pool
nodes_are_listed pool secret s s' reply e = made_shows (Step.Node pool secret NodeCommand.ListNodes) s s' reply
    (λ r. (rows : PoolRows) × (get s.world.pools pool ≡ Some rows)
    × ShowsRows rows.nodes law.All (λ shown. shown.name) (law.ShowsNode s.world pool) Content.Nodes r.content)
    (does_lift _ (with_world s.acl) (ask_pool pool NodeCommand.ListNodes s.world) (does_found _ (get s.world.pools pool) _ (λ p at. (
      refl,
      (
        p,
        at,
        shows_all names one_name p.nodes (λ (n : Name × Node). record { pool = pool; name = n.0; row = n.1; used = node_load s.world pool n.0 })
            (λ (shown : NodeShown). shown.name) (law.ShowsNode s.world pool) Content.Nodes (λ name node. refl)
            (λ name node. record { in_pool = refl; row = refl; used = load_is s.world pool name }),
      ),
    )))) e
