-- What administrators ask leaves each live allocation where it is.
use Rattle.std.specs.Prelude.{◌≡◌, ℕ, Bool, true, false, cond, ◌&&◌, Option, Some, None, Result, Ok, Err, is_some}
use Rattle.std.proofs.Common.{refl, sym, ap, subst, ◌∙◌}
use Rattle.std.specs.FinMap.{empty, get, get-empty, get-insert, get-remove, insert, remove}
use Rattle.std.specs.Option.{option_and_then}
use Rattle.std.specs.Ordering.{nat_cmp}
use Rattle.ns_types.specs.declared.allocation.Allocation.{Allocation}
use Rattle.ns_types.specs.declared.node.Node.{Node}
use Rattle.ns_types.specs.declared.records.Namespace.{Namespace}
use Rattle.ns_types.specs.declared.records.Pool.{Pool}
use Rattle.ns_types.specs.declared.refusal.Refusal.{Refusal}
use Rattle.ns_types.specs.declared.reply.Content.{Content}
use Rattle.ns_types.specs.declared.step.AdminCommand.{AdminCommand}
use Rattle.ns_types.specs.Asking.Admins.{delete_namespace, delete_pool, delete_quota, has_live, put_namespace, put_pool_record, put_quota}
use Rattle.ns_types.specs.Asking.Admins.{is_pool_in_use, read_quota, with_namespace, with_pool}
use Rattle.ns_types.specs.Asking.Policies.{administer, with_acl, with_world}
use Rattle.ns_types.specs.Settling.Outcome.{Changes, Outcome, lift}
use Rattle.ns_types.specs.State.Names.{Key, Name, ByName, default_name, name_cmp, same_name}
use Rattle.ns_types.specs.State.Rows.{Acl, PoolRows, State, Tenant, World, allocation_at, is_live, node_at}
use Rattle.ns_types.specs.State.Tables.{any_row}
use Rattle.ns_types.specs.Steps.{opening, opening_tenant}
use Rattle.ns_types.proofs.Leads.{Leads, leads_found, leads_lift, leads_unless, leads_whole}
use Rattle.ns_types.proofs.Lists.{left_none, not_both, right_none}
use Rattle.ns_types.proofs.Named.{names, one_name, one_number}
use Rattle.ns_types.proofs.Tables.{none_of_any, tied}
use Rattle.ns_live_index.specs.Index.{IsRight}
use Rattle.ns_live_index.specs.Laws.{AdministrationKeepsRight, EmptyIsRightAtFirst, SoundLoadsFit}
use Rattle.ns_live_index.specs.Naming.{AreNamed, KeepsNodes, is_quota, use_in}
use Rattle.ns_live_index.specs.Shown.{base_in, live_row, shown_in}
use Rattle.ns_live_index.specs.declared.live.Live.{Live}
use Rattle.ns_live_index.proofs.Kept.{pools_kept}
use Rattle.ns_live_index.proofs.PutLoads.{empty_indexes, still_loaded}
use Rattle.ns_live_index.proofs.Bounded.{load_counted, sound_within}
use Rattle.ns_live_index.proofs.Totals.{total_free}
use Rattle.ns_live_index.proofs.Unmoved.{is_live_there, live_alike, no_live_row, none_shown, same_until, shown_still}

-- ---- what is live in a namespace, where it is there

abbrev lives_in : Option Tenant → Name → Name → ℕ → Option Allocation
lives_in t pool node n = live_row pool node (option_and_then (λ t. get t.allocations n) t)

-- the same rows are live everywhere, and the nodes are the same
record SameLive (w w' : World) : Type 0 where
  pub rows : (pool node ns : Name) (n : ℕ) → lives_in (get w'.tenants ns) pool node n ≡ lives_in (get w.tenants ns) pool node n
  pub nodes : (pool name : Name) → node_at w' pool name ≡ node_at w pool name

right_again : (w w' : World) (live live' : Live) → SameLive w w' → IsRight w live → KeepsNodes live live' → AreNamed w' live' → IsRight w' live'
right_again w w' live live' same right nodes named = record {
  index = still_loaded (allocation_at w) (allocation_at w') live live' right.index
      (λ pool node key. (pools_kept live live' nodes.0).keys pool node key ∙ right.index.keys pool node key
      ∙ sym (live_alike pool node (allocation_at w key) (allocation_at w' key) (same.rows pool node key.0 key.1)))
      (pools_kept live live' nodes.0).loads
      (λ pool node key. same.rows pool node key.0 key.1);
  shown = shown_still w w' live live' right (λ pool name node is.
      (ap (λ shown. shown_in shown pool name) (sym nodes.1) ∙ is, ((λ key. same.rows pool name key.0 key.1), same.nodes pool name)))
      (λ pool name seen is. (
        ap (λ shown. base_in shown pool name) (sym nodes.1) ∙ is,
        same_until pool name seen.last (allocation_at w) (allocation_at w') (λ key. same.rows pool name key.0 key.1),
      ));
  quotas = named;
}

module _ (tenants : ByName Tenant) (name : Name) where
  put_same : (t : Tenant) → ((pool node : Name) (n : ℕ) → lives_in (Some t) pool node n ≡ lives_in (get tenants name) pool node n) →
      (pool node ns : Name) (n : ℕ) → lives_in (get (insert tenants name t) ns) pool node n ≡ lives_in (get tenants ns) pool node n
  put_same t alike pool node ns n = ap (λ r. lives_in r pool node n) (get-insert names tenants name t ns) ∙ by (same_name ns name) refl
    where
      by : (b : Bool) → same_name ns name ≡ b → lives_in (cond b (Some t) (get tenants ns)) pool node n ≡ lives_in (get tenants ns) pool node n
      by true e = alike pool node n ∙ ap (λ ns. lives_in (get tenants ns) pool node n) (sym (tied one_name ns name e))
      by false e = refl

  gone_same : ((pool node : Name) (n : ℕ) → lives_in (get tenants name) pool node n ≡ None) →
      (pool node ns : Name) (n : ℕ) → lives_in (get (remove tenants name) ns) pool node n ≡ lives_in (get tenants ns) pool node n
  gone_same dead pool node ns n = ap (λ r. lives_in r pool node n) (get-remove names tenants name ns) ∙ by (same_name ns name) refl
    where
      by : (b : Bool) → same_name ns name ≡ b → lives_in (cond b None (get tenants ns)) pool node n ≡ lives_in (get tenants ns) pool node n
      by true e = sym (dead pool node n) ∙ ap (λ ns. lives_in (get tenants ns) pool node n) (sym (tied one_name ns name e))
      by false e = refl

none_live : (t : Tenant) → has_live t ≡ false → (pool node : Name) (n : ℕ) → lives_in (Some t) pool node n ≡ None
none_live t none pool node n = by (get t.allocations n) refl
  where
    by : (r : Option Allocation) → get t.allocations n ≡ r → live_row pool node r ≡ None
    by None at = refl
    by (Some row) at = no_live_row pool node (Some row) (ap (λ b. b && (same_name pool row.pool && same_name node row.node)) (none_of_any one_number
        (λ _ a. is_live a) t.allocations n row none at))

-- a new namespace has none
put_alike : (namespace : Namespace) (old : Option Tenant) (pool node : Name) (n : ℕ) →
    lives_in (Some (with_namespace namespace old)) pool node n ≡ lives_in old pool node n
put_alike namespace None pool node n = ap (live_row pool node) (get-empty nat_cmp n)
put_alike namespace (Some t) pool node n = refl

-- ---- the nodes of a pool, where it is there

abbrev node_in : Option PoolRows → Name → Option Node
node_in p name = option_and_then (λ p. get p.nodes name) p

module _ (pools : ByName PoolRows) (pool : Name) where
  pool_same : (p : PoolRows) → ((name : Name) → node_in (Some p) name ≡ node_in (get pools pool) name) →
      (q name : Name) → node_in (get (insert pools pool p) q) name ≡ node_in (get pools q) name
  pool_same p alike q name = ap (λ r. node_in r name) (get-insert names pools pool p q) ∙ by (same_name q pool) refl
    where
      by : (b : Bool) → same_name q pool ≡ b → node_in (cond b (Some p) (get pools q)) name ≡ node_in (get pools q) name
      by true e = alike name ∙ ap (λ q. node_in (get pools q) name) (sym (tied one_name q pool e))
      by false e = refl

  pool_gone : ((name : Name) → node_in (get pools pool) name ≡ None) → (q name : Name) → node_in (get (remove pools pool) q) name ≡ node_in (get pools q) name
  pool_gone none q name = ap (λ r. node_in r name) (get-remove names pools pool q) ∙ by (same_name q pool) refl
    where
      by : (b : Bool) → same_name q pool ≡ b → node_in (cond b None (get pools q)) name ≡ node_in (get pools q) name
      by true e = sym (none name) ∙ ap (λ q. node_in (get pools q) name) (sym (tied one_name q pool e))
      by false e = refl

no_node : (p : PoolRows) → any_row (λ _ node. true) p.nodes ≡ false → (name : Name) → node_in (Some p) name ≡ None
no_node p none name = by (get p.nodes name) refl
  where
    by : (r : Option Node) → get p.nodes name ≡ r → get p.nodes name ≡ None
    by None at = at
    by (Some node) at = not_both refl (none_of_any one_name (λ _ node. true) p.nodes name node none at)

-- a new pool has none
pool_alike : (pool : Pool) (old : Option PoolRows) (name : Name) → node_in (Some (with_pool pool old)) name ≡ node_in old name
pool_alike pool None name = get-empty name_cmp name
pool_alike pool (Some old) name = refl

-- ---- what each command leads to

module _ (w : World) where
  here : SameLive w w
  here = record { rows = λ pool node ns n. refl; nodes = λ pool name. refl }

  put : (name : Name) (namespace : Namespace) → Leads (SameLive w) (put_namespace name namespace w)
  unfolding put_namespace
  put name namespace = leads_unless (SameLive w) _ _ _ (λ _. leads_unless (SameLive w) _ _ _ (λ _. leads_unless (SameLive w) _ _ _ (λ _.
      leads_unless (SameLive w) _ _ _ (λ _. leads_unless (SameLive w) _ _ _ (λ _. record {
        rows = put_same w.tenants name (with_namespace namespace (get w.tenants name)) (put_alike namespace (get w.tenants name));
        nodes = λ pool name. refl;
      })))))

  deleted : (name : Name) → Leads (SameLive w) (delete_namespace name w)
  unfolding delete_namespace
  deleted name = leads_found (SameLive w) (get w.tenants name) _ (λ t is. leads_unless (SameLive w) _ _ _ (λ _. leads_unless (SameLive w) _ _ _ (λ idle.
      record {
        rows = gone_same w.tenants name (λ pool node n. ap (λ r. lives_in r pool node n) is ∙ none_live t (right_none _ (has_live t) idle) pool node n);
        nodes = λ pool name. refl;
      })))

  quota_put : (name : Name) (quota : _) → Leads (SameLive w) (put_quota name quota w)
  unfolding put_quota
  quota_put name quota = leads_unless (SameLive w) _ _ _ (λ _. record { rows = λ pool node ns n. refl; nodes = λ pool name. refl })

  quota_deleted : (name : Name) → Leads (SameLive w) (delete_quota name w)
  unfolding delete_quota
  quota_deleted name = leads_found (SameLive w) (get w.quotas name) _ (λ q _. leads_unless (SameLive w) _ _ _ (λ _.
      record { rows = λ pool node ns n. refl; nodes = λ pool name. refl }))

  pool_put : (name : Name) (pool : Pool) → Leads (SameLive w) (put_pool_record name pool w)
  unfolding put_pool_record
  pool_put name pool = leads_unless (SameLive w) _ _ _ (λ _. record {
    rows = λ pool node ns n. refl;
    nodes = pool_same w.pools name (with_pool pool (get w.pools name)) (pool_alike pool (get w.pools name));
  })

  pool_deleted : (name : Name) → Leads (SameLive w) (delete_pool name w)
  unfolding delete_pool
  pool_deleted name = leads_found (SameLive w) (get w.pools name) _ (λ p is. leads_unless (SameLive w) _ _ _ (λ _. leads_unless (SameLive w) _ _ _ (λ idle.
      record {
        rows = λ pool node ns n. refl;
        nodes = pool_gone w.pools name (λ n. ap (λ r. node_in r n) is ∙ no_node p (left_none _ (is_pool_in_use name w) idle) n);
      })))

module _ (s : State) where
  abbrev Alike : State → Type 0
  Alike s' = SameLive s.world s'.world

  of_world : (o : Outcome World) → Leads (SameLive s.world) o → Leads Alike (lift (with_world s.acl) o)
  of_world = leads_lift Alike (with_world s.acl) (SameLive s.world) (λ w h. h)

  of_acl : (o : Outcome Acl) → Leads Alike (lift (with_acl s.world) o)
  of_acl = leads_whole Alike (with_acl s.world) (λ a. here s.world)

  administered : (secret : Option Name) (command : AdminCommand) → Leads Alike (administer secret command s)
  unfolding administer
  administered secret AdminCommand.ListNamespaces = here s.world
  administered secret (AdminCommand.PutNamespace name namespace) = of_world _ (put s.world name namespace)
  administered secret (AdminCommand.DeleteNamespace name) = of_world _ (deleted s.world name)
  administered secret AdminCommand.ListQuotas = here s.world
  administered secret (AdminCommand.ReadQuota name) = of_world (read_quota name s.world)
      (leads_found (SameLive s.world) (get s.world.quotas name) _ (λ q _. here s.world))
  administered secret (AdminCommand.PutQuota name quota) = of_world _ (quota_put s.world name quota)
  administered secret (AdminCommand.DeleteQuota name) = of_world _ (quota_deleted s.world name)
  administered secret AdminCommand.ListPools = here s.world
  administered secret (AdminCommand.PutPool name pool) = of_world _ (pool_put s.world name pool)
  administered secret (AdminCommand.DeletePool name) = of_world _ (pool_deleted s.world name)
  administered secret (AdminCommand.ReadPolicy name) = of_acl _
  administered secret (AdminCommand.PutPolicy name policy) = of_acl _
  administered secret (AdminCommand.DeletePolicy name) = of_acl _
  administered secret (AdminCommand.CreateToken new) = of_acl _
  administered secret (AdminCommand.DeleteToken accessor) = of_acl _

  changed_alike : (o : Outcome State) (result : Result Content Refusal) (s' : State) → Leads Alike o → Changes o s result s' → Alike s'
  changed_alike o (Ok content) s' h is = subst (Leads Alike) is h
  changed_alike o (Err Refusal.Memory) s' h is = subst Alike (sym is.1) (here s.world)
  changed_alike o (Err refusal) s' h is = subst Alike (sym is.1) (here s.world)

pub administration_right : AdministrationKeepsRight
administration_right secret command s s' result live live' changes =
    right_again s.world s'.world live live' (changed_alike s (administer secret command s) result s' (administered s secret command) changes)

-- ---- at first

pub empty_right : EmptyIsRightAtFirst
unfolding opening
empty_right secret live none = record {
  index = empty_indexes (allocation_at (opening secret).world) live
      (λ pool node key. none.keys pool node key ∙ sym (is_live_there pool node (allocation_at (opening secret).world key)
      ∙ ap is_some (dead pool node key))) none.loads dead;
  shown = none_shown (opening secret).world live none.shown;
  quotas = record {
    names = λ quota ns. none.names quota ns ∙ sym (ap (λ r. is_quota (option_and_then (λ (t : Tenant). t.namespace.quota) r) quota)
        (get-insert names empty default_name opening_tenant ns) ∙ unnamed quota ns (same_name ns default_name));
    totals = λ quota. total_free (use_in (opening secret).world.tenants) live.quotas quota (none.names quota) (none.totals quota);
  };
}
  where
    unnamed : (quota ns : Name) (b : Bool) →
        is_quota (option_and_then (λ (t : Tenant). t.namespace.quota) (cond b (Some opening_tenant) (get (empty {X = Tenant} {R = name_cmp}) ns))) quota ≡ false
    unnamed quota ns true = refl
    unnamed quota ns false = ap (λ r. is_quota (option_and_then (λ (t : Tenant). t.namespace.quota) r) quota) (get-empty name_cmp ns)

    at_first : (pool node : Name) (n : ℕ)
        → lives_in (Some opening_tenant) pool node n ≡ lives_in (get (empty {X = Tenant} {R = name_cmp}) default_name) pool node n
    at_first pool node n = ap (live_row pool node) (get-empty nat_cmp n)
        ∙ sym (ap (λ r. lives_in r pool node n) (get-empty name_cmp default_name))

    dead : (pool node : Name) (key : Key) → live_row pool node (allocation_at (opening secret).world key) ≡ None
    dead pool node key = put_same empty default_name opening_tenant at_first pool node key.0 key.1
        ∙ ap (λ r. lives_in r pool node key.1) (get-empty name_cmp key.0)

-- ---- loads

pub loads_fit : SoundLoadsFit
loads_fit w sound pool node = load_counted w (sound_within w sound) pool node
