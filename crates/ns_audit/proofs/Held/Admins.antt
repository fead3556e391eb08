-- What administrators ask leaves allocations with their clients, or takes a namespace with all that it has.
use Rattle.std.specs.Prelude.{◌≡◌, Bool, true, false, cond, Option, Some, None}
use Rattle.std.proofs.Common.{◌⊎◌, inl, inr, refl, sym, ap, ◌∙◌}
use Rattle.std.specs.FinMap.{get, get-empty, get-remove, remove}
use Rattle.std.specs.Ordering.{nat_cmp}
use Rattle.ns_types.specs.declared.records.Namespace.{Namespace}
use Rattle.ns_types.specs.declared.step.AdminCommand.{AdminCommand}
use Rattle.ns_types.specs.Asking.Admins.{new_tenant, with_namespace, put_namespace, delete_namespace, put_quota, delete_quota, read_quota, put_pool_record}
use Rattle.ns_types.specs.Asking.Admins.{delete_pool}
use Rattle.ns_types.specs.Asking.Policies.{with_world, with_acl, administer}
use Rattle.ns_types.specs.Settling.Making.{put_tenant}
use Rattle.ns_types.specs.Settling.Outcome.{Outcome, lift}
use Rattle.ns_types.specs.State.Names.{Name, same_name}
use Rattle.ns_types.specs.State.Rows.{State, World, Acl, Tenant}
use Rattle.ns_types.proofs.Leads.{Leads, leads_unless, leads_found, leads_lift, leads_whole}
use Rattle.ns_types.proofs.Named.{names, one_name}
use Rattle.ns_types.proofs.TableRows.{row_of_insert}
use Rattle.ns_types.proofs.Tests.{not_Some}
use Rattle.ns_audit.proofs.ValidAllocations.Going.{onward_put}
use Rattle.ns_audit.proofs.Held.Rows.{Ends, ends_quiet, ends_still, WasHeld, Holds, holds_ended, holds_same}

-- ---- namespaces

module _ (w : World) (name : Name) where
  -- a new one has no allocation
  new_holds : (namespace : Namespace) → Holds w (put_tenant name (new_tenant namespace) w)
  new_holds namespace ns t n b is at held dead = by (row_of_insert names one_name w.tenants name (new_tenant namespace) ns t is)
    where
      by : ((ns ≡ name) × (new_tenant namespace ≡ t)) ⊎ (get w.tenants ns ≡ Some t) → WasHeld w ns n b.pool
      by (inl e) = absurd (not_Some _ (sym (get-empty nat_cmp n) ∙ ap (λ (t : Tenant). get t.allocations n) e.1 ∙ at))
      by (inr was) = record { tenant = t; is_tenant = was; row = b; is_row = at; held = held; same = refl }

  put_holds : (namespace : Namespace) (o : Option Tenant) → get w.tenants name ≡ o → Holds w (put_tenant name (with_namespace namespace o) w)
  put_holds namespace None was = new_holds namespace
  put_holds namespace (Some t) was =
      let t' = record t { namespace = namespace } in
      holds_ended w (put_tenant name t' w) (onward_put Ends ends_still w name t t' was (ends_quiet t t' refl))

  namespace_put : (namespace : Namespace) → Leads (Holds w) (put_namespace name namespace w)
  unfolding put_namespace
  namespace_put namespace = leads_unless (Holds w) _ _ _
      (λ _. leads_unless (Holds w) _ _ _ (λ _. leads_unless (Holds w) _ _ _
      (λ _. leads_unless (Holds w) _ _ _ (λ _. leads_unless (Holds w) _ _ _ (λ _. put_holds namespace (get w.tenants name) refl)))))

  gone_holds : Holds w (record w { tenants = remove w.tenants name })
  gone_holds ns t n b is at held dead = by (same_name ns name) (sym (get-remove names w.tenants name ns) ∙ is)
    where
      by : (c : Bool) → cond c None (get w.tenants ns) ≡ Some t → WasHeld w ns n b.pool
      by true gone = absurd (not_Some _ gone)
      by false was = record { tenant = t; is_tenant = was; row = b; is_row = at; held = held; same = refl }

  namespace_deleted : Leads (Holds w) (delete_namespace name w)
  unfolding delete_namespace
  namespace_deleted = leads_found (Holds w) (get w.tenants name) _
      (λ t _. leads_unless (Holds w) _ _ _ (λ _. leads_unless (Holds w) _ _ _ (λ _. gone_holds)))

-- ---- commands

module _ (s : State) where
  abbrev pub HoldsIn : State → Type 0
  HoldsIn x = Holds s.world x.world

  pub of_world : (c : Outcome World) → Leads (Holds s.world) c → Leads HoldsIn (lift (with_world s.acl) c)
  of_world = leads_lift HoldsIn (with_world s.acl) (Holds s.world) (λ w h. h)

  still : Holds s.world s.world
  still = holds_same s.world s.world refl

  of_acl : (c : Outcome Acl) → Leads HoldsIn (lift (with_acl s.world) c)
  of_acl = leads_whole HoldsIn (with_acl s.world) (λ acl. still)

  pub administer_holds : (secret : Option Name) (command : AdminCommand) → Leads HoldsIn (administer secret command s)
  unfolding administer put_quota delete_quota put_pool_record delete_pool
  administer_holds secret AdminCommand.ListNamespaces = still
  administer_holds secret (AdminCommand.PutNamespace name namespace) = of_world _ (namespace_put s.world name namespace)
  administer_holds secret (AdminCommand.DeleteNamespace name) = of_world _ (namespace_deleted s.world name)
  administer_holds secret AdminCommand.ListQuotas = still
  administer_holds secret (AdminCommand.ReadQuota name) =
      of_world (read_quota name s.world) (leads_found (Holds s.world) (get s.world.quotas name) _ (λ q _. still))
  administer_holds secret (AdminCommand.PutQuota name quota) =
      of_world (put_quota name quota s.world) (leads_unless (Holds s.world) _ _ _ (λ _. still))
  administer_holds secret (AdminCommand.DeleteQuota name) =
      of_world (delete_quota name s.world) (leads_found (Holds s.world) (get s.world.quotas name) _
      (λ q _. leads_unless (Holds s.world) _ _ _ (λ _. still)))
  administer_holds secret AdminCommand.ListPools = still
  administer_holds secret (AdminCommand.PutPool name pool) =
      of_world (put_pool_record name pool s.world) (leads_unless (Holds s.world) _ _ _ (λ _. still))
  administer_holds secret (AdminCommand.DeletePool name) =
      of_world (delete_pool name s.world) (leads_found (Holds s.world) (get s.world.pools name) _
      (λ p _. leads_unless (Holds s.world) _ _ _ (λ _. leads_unless (Holds s.world) _ _ _ (λ _. still))))
  administer_holds secret (AdminCommand.ReadPolicy name) = of_acl _
  administer_holds secret (AdminCommand.PutPolicy name policy) = of_acl _
  administer_holds secret (AdminCommand.DeletePolicy name) = of_acl _
  administer_holds secret (AdminCommand.CreateToken new) = of_acl _
  administer_holds secret (AdminCommand.DeleteToken accessor) = of_acl _
