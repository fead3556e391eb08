-- What every step does at its end goes along with a choice of owners over whose border nothing reaches.
use Rattle.std.specs.Prelude.{◌≡◌, ℕ, Bool, true, false, cond, not, T, List, [], ◌∷◌, ◌++◌, map, Option, Some, None, ◌&&◌, ◌||◌, filter, fold}
use Rattle.std.proofs.Common.{refl, sym, ap, subst, ◌∙◌}
use Rattle.std.specs.Option.{option_map_or}
use Rattle.std.specs.List.{list_any}
use Rattle.std.specs.FinMap.{get, entries, retain_keys}
use Rattle.ns_types.specs.declared.allocation.Allocation.{Allocation}
use Rattle.ns_types.specs.declared.evaluation.Evaluation.{Evaluation}
use Rattle.ns_types.specs.declared.node.Node.{Node}
use Rattle.ns_types.specs.declared.records.Namespace.{Namespace}
use Rattle.ns_types.specs.Isolation.{Part, alone_in}
use Rattle.ns_types.specs.State.Names.{Name, Key, same_name, has_key}
use Rattle.ns_types.specs.Working.Queue.{queue, is_of_job, is_busy}
use Rattle.ns_types.specs.Settling.Releases.{ends, is_on, counts_in, gives_room, released_classes}
use Rattle.ns_types.specs.Settling.Releases.{classes_of, changes_limits, releases_quota, wakes_by, released_between}
use Rattle.ns_types.specs.Settling.Releases.{is_released_quota, can_use, wakes, woken, same_offer}
use Rattle.ns_types.specs.State.Rows.{World, Tenant, PoolRows, QuotaRows, is_live, is_free, class_of, evaluation_at}
use Rattle.ns_types.specs.Settling.Settle.{unblocked_in, pending, wake, after_release, after_quota_release, number_releases, stamp_tenant, stamp, settle}
use Rattle.ns_types.specs.State.Tables.{map_rows, any_row}
use Rattle.ns_types.proofs.Lists.{not_both, filter_chosen, any_chosen, each, each_map, fold_chosen}
use Rattle.ns_types.proofs.Named.{names, one_name, numbers, one_number, same_name_is, first_of_both}
use Rattle.ns_types.proofs.Tables.{retain-map_rows, any_row-retain, any_row-none}
use Rattle.ns_audit.specs.Apart.{IsApart, IsWith}
use Rattle.ns_audit.proofs.Alone.Chosen.{tenant_alone, pool_alone, quota_alone, evaluation_alone, allocation_alone, node_alone, has_key_alone, GoesAlone}
use Rattle.ns_audit.proofs.Alone.Chosen.{goes_if, goes_with, goes_nowhere, goes_ready}

module _ (part : Part) where
  -- ---- releases

  ends_alone : (w w' : World) (passes : Namespace → Allocation → Bool)
      → ((ns : Name) (t : Tenant) (n : ℕ) (a : Allocation) → get w.tenants ns ≡ Some t → get t.allocations n ≡ Some a → is_live a ≡ true →
      passes t.namespace a ≡ true → part.spaces ns ≡ true)
      → ends w w' passes ≡ ends (alone_in part w) (alone_in part w') passes
  unfolding ends
  ends_alone w w' passes inside = any_row-retain names one_name _ _ w.tenants part.spaces (λ ns t is. (
    (λ own i. any_row (λ n a. is_live a && passes t.namespace a && not (option_map_or is_live (sym (allocation_alone part w' (ns, n) own) i) false))
        t.allocations),
    (λ other. any_row-none numbers one_number _ t.allocations (λ n a at. outside ns t n a is at other (is_live a) refl (passes t.namespace a) refl _)),
  ))
    where
      outside : (ns : Name) (t : Tenant) (n : ℕ) (a : Allocation) → get w.tenants ns ≡ Some t → get t.allocations n ≡ Some a → part.spaces ns ≡ false
          → (l : Bool) → is_live a ≡ l → (p : Bool) → passes t.namespace a ≡ p → (r : Bool) → (l && p && r) ≡ false
      outside ns t n a is at other false _ p _ r = refl
      outside ns t n a is at other true live false _ r = refl
      outside ns t n a is at other true live true pass r = not_both (inside ns t n a is at live pass) other

  module _ (w w' : World) (apart : IsApart part w) where
    ends_on_alone : (p node : Name) → part.pools p ≡ true → ends w w' (is_on p node) ≡ ends (alone_in part w) (alone_in part w') (is_on p node)
    ends_on_alone p node own = ends_alone w w' (is_on p node) (λ ns t n a is at live on.
        sym (apart.allocation ns t n a is at live) ∙ ap part.pools (sym (same_name_is p a.pool (first_of_both _ _ on))) ∙ own)

    ends_quota_alone : (q : Name) → part.quotas q ≡ true → ends w w' (counts_in q) ≡ ends (alone_in part w) (alone_in part w') (counts_in q)
    ends_quota_alone q own = ends_alone w w' (counts_in q) (λ ns t n a is at live on. named ns t is (t.namespace.quota) refl on)
      where
        named : (ns : Name) (t : Tenant) → get w.tenants ns ≡ Some t → (r : Option Name) → t.namespace.quota ≡ r → option_map_or (same_name q) r false ≡ true →
            part.spaces ns ≡ true
        named ns t is None e on = absurd (subst T (sym on) tt)
        named ns t is (Some r) e on = sym (apart.quota ns t r is e) ∙ ap part.quotas (sym (same_name_is q r on)) ∙ own

    gives_room_alone : (p name : Name) (node : Node) → part.pools p ≡ true →
        gives_room w w' p name node ≡ gives_room (alone_in part w) (alone_in part w') p name node
    gives_room_alone p name node own = λ i. is_free node
        && (option_map_or (λ old. not (is_free old) || not (same_offer old.offer node.offer)) (sym (node_alone part w p name own) i) true
        || ends_on_alone p name own i)

    pub released_classes_alone : (p : Name) (pool : PoolRows) → part.pools p ≡ true →
        released_classes w w' p pool ≡ released_classes (alone_in part w) (alone_in part w') p pool
    unfolding released_classes
    released_classes_alone p pool own = λ i. map (λ e. class_of e.1) (filter (λ e. gives_room_alone p e.0 e.1 own i) (entries pool.nodes))

    pub releases_quota_alone : (q : Name) (quota : QuotaRows) → part.quotas q ≡ true →
        releases_quota w w' q quota ≡ releases_quota (alone_in part w) (alone_in part w') q quota
    unfolding releases_quota
    releases_quota_alone q quota own = λ i. option_map_or (λ old. changes_limits old quota) (sym (quota_alone part w q own) i) false || ends_quota_alone q own i

    classes_of_alone : (p : Name) → part.pools p ≡ true → classes_of w w' p ≡ classes_of (alone_in part w) (alone_in part w') p
    classes_of_alone p own = λ i. option_map_or (λ pool. released_classes_alone p pool own i) (sym (pool_alone part w' p own) i) []

    is_released_quota_alone : (q : Name) → part.quotas q ≡ true → is_released_quota w w' q ≡ is_released_quota (alone_in part w) (alone_in part w') q
    is_released_quota_alone q own = λ i. option_map_or (λ quota. releases_quota_alone q quota own i) (sym (quota_alone part w' q own) i) false

    -- ---- wakes

    wakes_alone : (ns : Name) (e : Evaluation) → IsWith part ns e.pool e.quota → part.spaces ns ≡ true →
        wakes w w' e ≡ wakes (alone_in part w) (alone_in part w') e
    unfolding wakes
    wakes_alone ns e with own = by e.quota refl
      where
        by : (q : Option Name) → e.quota ≡ q → wakes_by (released_between w w') e q ≡ wakes_by (released_between (alone_in part w) (alone_in part w')) e q
        by (Some q) is = is_released_quota_alone q (with.quota_with q is ∙ own)
        by None is = λ i. list_any (can_use e) (classes_of_alone e.pool (with.pool_with ∙ own) i)

    pub woken_alone : filter (λ key. part.spaces key.0) (woken w w') ≡ woken (alone_in part w) (alone_in part w')
    unfolding woken
    woken_alone = filter_chosen (λ key. part.spaces key.0) _ _ w.blocked (each_map (λ key with own.
        (λ i. has_key_alone part w'.blocked key own i
        && (row key with own (evaluation_at w key) refl ∙
        ap (λ e. option_map_or (wakes (alone_in part w) (alone_in part w')) e false) (sym (evaluation_alone part w key own))) i)) w.blocked apart.blocked)
      where
        row : (key : Key) → ((e : Evaluation) → evaluation_at w key ≡ Some e → IsWith part key.0 e.pool e.quota) → part.spaces key.0 ≡ true
            → (e : Option Evaluation) → evaluation_at w key ≡ e →
            option_map_or (wakes w w') e false ≡ option_map_or (wakes (alone_in part w) (alone_in part w')) e false
        row key with own None is = refl
        row key with own (Some e) is = wakes_alone key.0 e (with e is) own

  -- ---- the queue

  is_of_job_alone : (w : World) (ns job : Name) (key : Key) → part.spaces ns ≡ true → is_of_job w ns job key ≡ is_of_job (alone_in part w) ns job key
  is_of_job_alone w ns job key own = by (same_name ns key.0) refl
    where
      by : (b : Bool) → same_name ns key.0 ≡ b → (b && option_map_or (λ e. same_name job e.job) (evaluation_at w key) false) ≡
          (b && option_map_or (λ e. same_name job e.job) (evaluation_at (alone_in part w) key) false)
      by false _ = refl
      by true is = ap (λ e. option_map_or (λ e. same_name job e.job) e false)
          (sym (evaluation_alone part w key (ap part.spaces (sym (same_name_is ns key.0 is)) ∙ own)))

  pub is_busy_alone : (w : World) (ns job : Name) → part.spaces ns ≡ true → is_busy w ns job ≡ is_busy (alone_in part w) ns job
  is_busy_alone w ns job own = λ i. entry i || worker i
    where
      foreign : (key : Key) → part.spaces key.0 ≡ false → (b : Bool) → same_name ns key.0 ≡ b → (r : Bool) → (b && r) ≡ false
      foreign key other false _ r = refl
      foreign key other true is r = not_both (ap part.spaces (sym (same_name_is ns key.0 is)) ∙ own) other

      entry : list_any (is_of_job w ns job) w.ready ≡ list_any (is_of_job (alone_in part w) ns job) (filter (λ key. part.spaces key.0) w.ready)
      entry = any_chosen (λ key. part.spaces key.0) (is_of_job w ns job) w.ready (each _ (λ key other. foreign key other (same_name ns key.0) refl _) w.ready)
          ∙ ap (λ f. list_any f (filter (λ key. part.spaces key.0) w.ready)) (λ i key. is_of_job_alone w ns job key own i)

      worker : option_map_or (λ t. any_row (λ _ worker. is_of_job w ns job (ns, worker.evaluation)) t.workers) (get w.tenants ns) false
          ≡ option_map_or (λ t. any_row (λ _ worker. is_of_job (alone_in part w) ns job (ns, worker.evaluation)) t.workers) (get (alone_in part w).tenants ns)
          false
      worker = λ i. option_map_or (λ t. any_row (λ _ worker. is_of_job_alone w ns job (ns, worker.evaluation) own i) t.workers)
          (sym (tenant_alone part w ns own) i) false

  pub goes_queue : (b : Bool) (key : Key) → part.spaces key.0 ≡ b → GoesAlone part b (λ w. queue w key)
  unfolding queue
  goes_queue b key side = goes_with part b (λ w. evaluation_at w key) (λ e w. cond (is_busy w key.0 e.job) w (record w { ready = w.ready ++ key ∷ [] }))
      (λ w own. sym (evaluation_alone part w key (side ∙ own)))
      (λ e. goes_if part b (λ w. is_busy w key.0 e.job) (λ w. w) (λ w. record w { ready = w.ready ++ key ∷ [] })
      (λ w own. is_busy_alone w key.0 e.job (side ∙ own))
      (goes_nowhere part b) (goes_ready part b key.0 side key.1))

  -- ---- the passes

  wake_alone : (keys : List Key) (w : World) → alone_in part (wake keys w) ≡ wake (filter (λ key. part.spaces key.0) keys) (alone_in part w)
  unfolding wake
  wake_alone keys w = fold_chosen (alone_in part) queue (λ key. part.spaces key.0) (λ w key. goes_queue (part.spaces key.0) key refl w) keys _
      ∙ ap (λ x. fold queue x (filter (λ key. part.spaces key.0) keys)) (λ i. record (alone_in part w) { tenants = rows i; blocked = entries i })
    where
      rows : retain_keys (map_rows (unblocked_in keys) w.tenants) part.spaces ≡ map_rows (unblocked_in (filter (λ key. part.spaces key.0) keys))
          (alone_in part w).tenants
      rows = retain-map_rows names one_name _ _ w.tenants part.spaces
          (λ ns t own is i. record t { evaluations = map_rows (λ n e. cond (has_key_alone part keys (ns, n) own i) (pending e) e) t.evaluations })

      entries : filter (λ key. part.spaces key.0) (filter (λ key. not (has_key keys key)) w.blocked) ≡ filter
          (λ key. not (has_key (filter (λ key. part.spaces key.0) keys) key)) (alone_in part w).blocked
      entries = filter_chosen (λ key. part.spaces key.0) _ _ w.blocked (each _ (λ key own. ap not (has_key_alone part keys key own)) w.blocked)

  number_releases_alone : (w w' x : World) → IsApart part w → alone_in part (number_releases w w' x) ≡ number_releases (alone_in part w) (alone_in part w')
      (alone_in part x)
  unfolding number_releases
  number_releases_alone w w' x apart = λ i. record (alone_in part x) {
    pools = retain-map_rows names one_name _ (λ name pool. after_release (released_classes (alone_in part w) (alone_in part w') name pool) pool)
        x.pools part.pools
        (λ name pool own is. ap (λ classes. after_release classes pool) (released_classes_alone w w' apart name pool own)) i;
    quotas = retain-map_rows names one_name _ (λ name quota. after_quota_release (releases_quota (alone_in part w) (alone_in part w') name quota) quota)
        x.quotas part.quotas
        (λ name quota own is. ap (λ b. after_quota_release b quota) (releases_quota_alone w w' apart name quota own)) i;
  }

  stamp_alone : (w x : World) → alone_in part (stamp w x) ≡ stamp (alone_in part w) (alone_in part x)
  unfolding stamp
  stamp_alone w x = λ i. record (alone_in part x) {
    tenants = retain-map_rows names one_name _ (λ ns t. stamp_tenant (get (alone_in part w).tenants ns) t) x.tenants part.spaces
        (λ ns t own is. ap (λ old. stamp_tenant old t) (sym (tenant_alone part w ns own))) i;
  }

  -- what a step does at its end, it does among the chosen owners as if they were alone
  pub settle_alone : (w w' : World) → IsApart part w → alone_in part (settle w w') ≡ settle (alone_in part w) (alone_in part w')
  unfolding settle
  settle_alone w w' apart = stamp_alone w _ ∙ ap (stamp (alone_in part w)) (number_releases_alone w w' _ apart
      ∙ ap (number_releases (alone_in part w) (alone_in part w'))
      (wake_alone (woken w w') w' ∙ ap (λ keys. wake keys (alone_in part w')) (woken_alone w w' apart)))
