-- What administrators ask: allocations stay sound.
use Rattle.std.specs.Prelude.{◌≡◌, ℕ, ◌≤◌, Bool, true, false, cond, not, Option, Some, None, ◌&&◌}
use Rattle.std.proofs.Common.{◌⊎◌, inl, inr, refl, sym, ap, subst, ◌∙◌}
use Rattle.std.specs.FinMap.{get, get-empty, get-remove, remove}
use Rattle.std.specs.Option.{option_map_or, option_and_then}
use Rattle.std.specs.Ordering.{nat_cmp}
use Rattle.ns_types.specs.declared.allocation.Allocation.{Allocation}
use Rattle.ns_types.specs.declared.node.Node.{Node}
use Rattle.ns_types.specs.declared.records.Namespace.{Namespace}
use Rattle.ns_types.specs.declared.records.Pool.{Pool}
use Rattle.ns_types.specs.declared.step.AdminCommand.{AdminCommand}
use Rattle.ns_types.specs.Asking.Policies.{with_world, with_acl, administer}
use Rattle.ns_types.specs.Asking.Admins.{looks_to_pool, uses_pool, new_tenant, with_namespace, is_withdrawn, forbids_put, put_namespace, delete_namespace}
use Rattle.ns_types.specs.Asking.Admins.{put_quota, delete_quota, read_quota, with_pool, put_pool_record, delete_pool}
use Rattle.ns_types.specs.Settling.Making.{put_tenant}
use Rattle.ns_types.specs.State.Names.{Name, name_cmp, same_name}
use Rattle.ns_types.specs.Settling.Outcome.{Outcome, lift}
use Rattle.ns_types.specs.State.Rows.{State, World, Acl, Tenant, PoolRows, is_live, node_at}
use Rattle.ns_types.specs.Access.Sharing.{permits}
use Rattle.ns_types.specs.State.Tables.{any_row}
use Rattle.ns_types.proofs.Lists.{not_both, left_none, right_none}
use Rattle.ns_types.proofs.Named.{names, one_name, one_number, same_name_is}
use Rattle.ns_types.proofs.Tables.{none_of_any}
use Rattle.ns_types.proofs.Tests.{not_Some, same_Some}
use Rattle.ns_types.proofs.TableRows.{row_of_insert}
use Rattle.ns_audit.proofs.ValidAllocations.Statement.{IsAllocated}
use Rattle.ns_types.proofs.Leads.{Leads, leads_unless, leads_found, leads_lift, leads_whole}
use Rattle.ns_audit.proofs.ValidAllocations.Sound.{le_same, ComesFrom, IsFrom, allocated_from, nodes_stay, nodes_hold}
use Rattle.ns_audit.proofs.ValidAllocations.Going.{comes_same, Goes, goes_still, SameIndex, Allocates, allocates_still}
use Rattle.ns_audit.proofs.ValidAllocations.Nodes.{node_in_put}
use Rattle.ns_audit.proofs.ValidAllocations.Work.{Continues, continues_allocates, continues_same}

-- ---- namespaces

-- permitted, and not withdrawn
permitted_still : (old new : Namespace) (pool : Name) → permits old pool ≡ true → is_withdrawn old new pool ≡ false → permits new pool ≡ true
permitted_still old new pool was kept = by (permits old pool) (permits new pool) was kept
  where
    by : (a b : Bool) → a ≡ true → (a && not b) ≡ false → b ≡ true
    by a true was kept = refl
    by true false was kept = sym kept
    by false false was kept = was

module _ (w : World) (s : IsAllocated w) (name : Name) (namespace : Namespace) where
  abbrev put : Tenant → World
  put t = put_tenant name t w

  new_from : IsFrom w (put (new_tenant namespace))
  new_from ns t n b is at = by (row_of_insert names one_name w.tenants name (new_tenant namespace) ns t is)
    where
      by : ((ns ≡ name) × (new_tenant namespace ≡ t)) ⊎ (get w.tenants ns ≡ Some t) → ComesFrom w ns t n b
      by (inl e) = absurd (not_Some _ (sym (get-empty nat_cmp n) ∙ ap (λ (t : Tenant). get t.allocations n) e.1 ∙ at))
      by (inr was) = comes_same w s ns t n b was at

  module _ (o : Tenant) (was : get w.tenants name ≡ Some o) (free : forbids_put namespace o ≡ false) where
    abbrev renamed : Tenant
    renamed = record o { namespace = namespace }

    row_from : (ns : Name) → ns ≡ name → (t : Tenant) → renamed ≡ t → (n : ℕ) (b : Allocation) → get t.allocations n ≡ Some b → ComesFrom w ns t n b
    row_from ns here t is n b at =
        let there = ap (λ (t : Tenant). get t.allocations n) is ∙ at in
        let a = s.allocation name o n b was there in record {
          tenant = o;
          is_tenant = ap (get w.tenants) here ∙ was;
          row = b;
          is_row = there;
          same = refl;
          live = λ live. live;
          permitted = λ live allowed. ap (λ (t : Tenant). permits t.namespace b.pool) (sym is) ∙
              permitted_still o.namespace namespace b.pool allowed (used n b there live);
          index = le_same o.index t.index (ap (λ (t : Tenant). t.index) is);
          evaluations = le_same o.evaluation_number t.evaluation_number (ap (λ (t : Tenant). t.evaluation_number) is);
          number = le_same o.allocation_number t.allocation_number (ap (λ (t : Tenant). t.allocation_number) is);
          created = subst (λ (t : Tenant). b.create_index ≤ t.index) is a.created;
          modified = subst (λ (t : Tenant). b.modify_index ≤ t.index) is a.modified;
        }
      where
        used : (n : ℕ) (b : Allocation) → get o.allocations n ≡ Some b → is_live b ≡ true → is_withdrawn o.namespace namespace b.pool ≡ false
        used n b there live = ap (λ l. l && is_withdrawn o.namespace namespace b.pool) (sym live)
            ∙ none_of_any one_number (λ _ (a : Allocation). is_live a && is_withdrawn o.namespace namespace a.pool) o.allocations n b
            (right_none (looks_to_pool (is_withdrawn o.namespace namespace) o) _ (left_none (uses_pool (is_withdrawn o.namespace namespace) o) _ free))
            there

    renamed_from : IsFrom w (put renamed)
    renamed_from ns t n b is at = by (row_of_insert names one_name w.tenants name renamed ns t is)
      where
        by : ((ns ≡ name) × (renamed ≡ t)) ⊎ (get w.tenants ns ≡ Some t) → ComesFrom w ns t n b
        by (inl e) = row_from ns e.0 t e.1 n b at
        by (inr old) = comes_same w s ns t n b old at

  put_index : SameIndex w (put (with_namespace namespace (get w.tenants name)))
  put_index ns o t was is = by (row_of_insert names one_name w.tenants name (with_namespace namespace (get w.tenants name)) ns t is)
    where
      of_row : (r : Option Tenant) → r ≡ Some o → (with_namespace namespace r).index ≡ o.index
      of_row None e = absurd (not_Some _ e)
      of_row (Some x) e = ap (λ (t : Tenant). t.index) (same_Some x o e)

      by : ((ns ≡ name) × (with_namespace namespace (get w.tenants name) ≡ t)) ⊎ (get w.tenants ns ≡ Some t) → t.index ≡ o.index
      by (inl e) = ap (λ (t : Tenant). t.index) (sym e.1) ∙ of_row (get w.tenants name) (ap (get w.tenants) (sym e.0) ∙ was)
      by (inr old) = ap (λ (t : Tenant). t.index) (same_Some t o (sym old ∙ was))

  put_world : (o : Option Tenant) → get w.tenants name ≡ o → option_map_or (forbids_put namespace) o false ≡ false →
      IsAllocated (put (with_namespace namespace o))
  put_world None was free = allocated_from w (put (new_tenant namespace)) s new_from (nodes_stay w (put (new_tenant namespace)) (λ pool n. refl))
      (nodes_hold w (put (new_tenant namespace)) s (λ pool n. refl))
  put_world (Some o) was free = allocated_from w (put (renamed o was free)) s (renamed_from o was free)
      (nodes_stay w (put (renamed o was free)) (λ pool n. refl)) (nodes_hold w (put (renamed o was free)) s (λ pool n. refl))

  namespace_put : Leads (Allocates w) (put_namespace name namespace w)
  unfolding put_namespace
  namespace_put = leads_unless (Allocates w) _ _ _
      (λ _. leads_unless (Allocates w) _ _ _ (λ _. leads_unless (Allocates w) _ _ _
      (λ _. leads_unless (Allocates w) _ _ _ (λ free. leads_unless (Allocates w) _ _ _ (λ _.
      record { allocated = put_world (get w.tenants name) refl free; index = put_index })))))

module _ (w : World) (name : Name) where
  namespace_deleted : Leads (Continues w) (delete_namespace name w)
  unfolding delete_namespace
  namespace_deleted = leads_found (Continues w) (get w.tenants name) _
      (λ t is. leads_unless (Continues w) _ _ _ (λ _. leads_unless (Continues w) _ _ _ (λ _. gone)))
    where
      gone : Continues w (record w { tenants = remove w.tenants name })
      gone = record { nodes = λ pool n. refl; goes = λ k t at. by k t (same_name k name) (sym (get-remove names w.tenants name k) ∙ at) }
        where
          by : (k : Name) (t : Tenant) (b : Bool) → cond b None (get w.tenants k) ≡ Some t → (u : Tenant) × (get w.tenants k ≡ Some u) × Goes u t
          by k t true at = absurd (not_Some _ at)
          by k t false at = (t, at, goes_still t)

  -- ---- pools

  pool_put : (pool : Pool) → Leads (Continues w) (put_pool_record name pool w)
  unfolding put_pool_record
  pool_put pool = leads_unless (Continues w) _ _ _
      (λ _. record {
        goes = (continues_same w w refl refl).goes;
        nodes = λ q n. node_in_put w name (with_pool pool (get w.pools name)) q n ∙
            by q n (same_name q name) refl;
      })
    where
      of_row : (o : Option PoolRows) (n : Name) → get (with_pool pool o).nodes n ≡ option_and_then (λ (p : PoolRows). get p.nodes n) o
      of_row None n = get-empty name_cmp n
      of_row (Some p) n = refl

      by : (q n : Name) (b : Bool) → same_name q name ≡ b → cond b (get (with_pool pool (get w.pools name)).nodes n) (node_at w q n) ≡ node_at w q n
      by q n false _ = refl
      by q n true e = of_row (get w.pools name) n ∙ ap (λ k. node_at w k n) (sym (same_name_is q name e))

  pool_deleted : Leads (Continues w) (delete_pool name w)
  unfolding delete_pool
  pool_deleted = leads_found (Continues w) (get w.pools name) _ (λ p is. leads_unless (Continues w) _ _ _ (λ _. leads_unless (Continues w) _ _ _ (λ free.
      record {
        goes = (continues_same w w refl refl).goes;
        nodes =
            λ q n. ap (option_and_then (λ (p : PoolRows). get p.nodes n)) (get-remove names w.pools name q) ∙
            by p is (left_none (any_row (λ _ node. true) p.nodes) _ free) q n (same_name q name) refl;
      })))
    where
      none : (p : PoolRows) → any_row (λ _ node. true) p.nodes ≡ false → (n : Name) (o : Option Node) → get p.nodes n ≡ o → None ≡ o
      none p free n None at = refl
      none p free n (Some node) at = not_both refl (none_of_any one_name (λ _ node. true) p.nodes n node free at)

      by : (p : PoolRows) → get w.pools name ≡ Some p → any_row (λ _ node. true) p.nodes ≡ false → (q n : Name) (b : Bool) → same_name q name ≡ b →
          option_and_then (λ (p : PoolRows). get p.nodes n) (cond b None (get w.pools q)) ≡ node_at w q n
      by p is free q n false _ = refl
      by p is free q n true e = none p free n (get p.nodes n) refl ∙
          sym (ap (option_and_then (λ (p : PoolRows). get p.nodes n)) (ap (get w.pools) (same_name_is q name e) ∙ is))

-- ---- commands

module _ (s : State) (o : IsAllocated s.world) where
  abbrev Next : State → Type 0
  Next x = Allocates s.world x.world

  pub of_world : (c : Outcome World) → Leads (Allocates s.world) c → Leads Next (lift (with_world s.acl) c)
  of_world = leads_lift Next (with_world s.acl) (Allocates s.world) (λ w h. h)

  pub of_continuing : (c : Outcome World) → Leads (Continues s.world) c → Leads Next (lift (with_world s.acl) c)
  of_continuing = leads_lift Next (with_world s.acl) (Continues s.world) (λ w h. continues_allocates s.world w o h)

  of_acl : (c : Outcome Acl) → Leads Next (lift (with_acl s.world) c)
  of_acl = leads_whole Next (with_acl s.world) (λ acl. allocates_still s.world o)

  pub administer_allocates : (secret : Option Name) (command : AdminCommand) → Leads Next (administer secret command s)
  unfolding administer put_quota delete_quota
  administer_allocates secret AdminCommand.ListNamespaces = allocates_still s.world o
  administer_allocates secret (AdminCommand.PutNamespace name namespace) = of_world _ (namespace_put s.world o name namespace)
  administer_allocates secret (AdminCommand.DeleteNamespace name) = of_continuing _ (namespace_deleted s.world name)
  administer_allocates secret AdminCommand.ListQuotas = allocates_still s.world o
  administer_allocates secret (AdminCommand.ReadQuota name) =
      of_continuing (read_quota name s.world) (leads_found (Continues s.world) (get s.world.quotas name) _ (λ q _. continues_same s.world s.world refl refl))
  administer_allocates secret (AdminCommand.PutQuota name quota) =
      of_continuing (put_quota name quota s.world) (leads_unless (Continues s.world) _ _ _ (λ _. continues_same s.world _ refl refl))
  administer_allocates secret (AdminCommand.DeleteQuota name) =
      of_continuing (delete_quota name s.world) (leads_found (Continues s.world) (get s.world.quotas name) _
      (λ q _. leads_unless (Continues s.world) _ _ _ (λ _. continues_same s.world _ refl refl)))
  administer_allocates secret AdminCommand.ListPools = allocates_still s.world o
  administer_allocates secret (AdminCommand.PutPool name pool) = of_continuing _ (pool_put s.world name pool)
  administer_allocates secret (AdminCommand.DeletePool name) = of_continuing _ (pool_deleted s.world name)
  administer_allocates secret (AdminCommand.ReadPolicy name) = of_acl _
  administer_allocates secret (AdminCommand.PutPolicy name policy) = of_acl _
  administer_allocates secret (AdminCommand.DeletePolicy name) = of_acl _
  administer_allocates secret (AdminCommand.CreateToken new) = of_acl _
  administer_allocates secret (AdminCommand.DeleteToken accessor) = of_acl _
