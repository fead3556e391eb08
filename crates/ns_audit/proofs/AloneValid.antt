-- What a namespace that is apart has with its pools and its quotas, kept alone, is valid.
use Rattle.std.specs.Prelude.{◌≡◌, ℕ, ◌≤◌, Bool, true, false, ◌||◌, List, [], ◌∷◌, ◌++◌, Option, Some, None, filter, length, map, is_some}
use Rattle.std.proofs.Common.{refl, sym, ap, subst, ◌∙◌, arith}
use Rattle.std.specs.FinMap.{contains_key, entries, get, len, len-entries, retain_keys}
use Rattle.std.specs.Option.{option_and_then}
use Rattle.std.proofs.lemmas.Bool.{or_right}
use Rattle.ns_types.specs.declared.allocation.Allocation.{Allocation}
use Rattle.ns_types.specs.declared.snapshot.Snapshot.{Snapshot}
use Rattle.ns_types.specs.Access.Sharing.{permits, permits_by, is_apart}
use Rattle.ns_types.specs.Asking.Admins.{most_rows}
use Rattle.ns_types.specs.Isolation.{alone, alone_in, part_of}
use Rattle.ns_types.specs.State.Limits.{is_distinct}
use Rattle.ns_types.specs.State.Lists.{Each}
use Rattle.ns_types.specs.State.Names.{ByName, Key, Name, has_key, has_name, same_key, same_name}
use Rattle.ns_types.specs.State.Resources.{is_within}
use Rattle.ns_types.specs.State.Rows.{PoolRows, Tenant, World, allocation_at, evaluation_at}
use Rattle.ns_types.specs.Steps.{is_past_bound}
use Rattle.ns_types.specs.Validity.{IsAllowed, IsLiveAt, IsPlaced, IsPlanned, IsReady, IsSound}
use Rattle.ns_types.specs.Validity.{IsSoundPool, IsSoundRecord, IsSoundSnapshot, IsSoundTenant, IsSoundWorker, jobs_at, same_found}
use Rattle.ns_types.specs.Working.Worker.{Worker}
use Rattle.ns_types.proofs.Elements.{all_from_each, any_kept, each_both, each_from_all, each_of, each_passes, filter_shorter}
use Rattle.ns_types.proofs.Lists.{filter_all, not_both}
use Rattle.ns_types.proofs.Named.{first_of_both, names, one_name, same_key_is, same_name_is, same_name_refl, second_of_both}
use Rattle.ns_types.proofs.Tables.{chosen, entries-retain}
use Rattle.ns_types.proofs.Tests.{not_Some}
use Rattle.ns_audit.specs.Apart.{IsApart}
use Rattle.ns_audit.specs.Laws.{IsFit}
use Rattle.ns_audit.proofs.Alone.Chosen.{evaluation_alone, has_key_alone, node_alone, pool_alone, quota_alone, tenant_alone}
use Rattle.ns_audit.proofs.Alone.Running.{valid_is_steady}
use Rattle.ns_audit.proofs.Alone.Sides.{over_part}
use Rattle.ns_audit.proofs.Alone.Summing.{node_load_alone}
use Rattle.ns_audit.proofs.ValidEvaluations.Pairs.{distinct_of_pairs, pairs_of_distinct, pairs_still}
use Rattle.ns_audit.specs.Parted.{AloneIsValid}
use Rattle.ns_audit.proofs.Alone.Bordering.{confined, fit_apart}

-- ---- lists and tables of which a part is kept

-- what holds of each name that a list has holds of each of it
each_named : (P : Name → Type 0) (xs : List Name) → ((name : Name) → has_name xs name ≡ true → P name) → Each P xs
each_named P [] h = tt
each_named P (x ∷ xs) h = (
  h x (ap (λ b. b || has_name xs x) (same_name_refl x)),
  each_named P xs (λ name has. h name (or_right (same_name name x) _ has)),
)

filter_twice : {A : Type 0} (f : A → Bool) (xs : List A) → filter f (filter f xs) ≡ filter f xs
filter_twice f xs = filter_all f (filter f xs) (each_passes f xs)

few_kept : {X : Type 0} (m : ByName X) (p : Name → Bool) (most : ℕ) → len m ≤ most → len (retain_keys m p) ≤ most
few_kept m p most h =
    let fewer : len (retain_keys m p) ≤ len m = subst (λ n. len (retain_keys m p) ≤ n) (sym (len-entries m))
    (subst (λ n. n ≤ length (entries m)) (sym (len-entries (retain_keys m p) ∙ ap length (entries-retain names one_name m p)))
    (filter_shorter (λ e. p e.0) (entries m))) in
    omega (arith, fewer, h)

-- an entry of the part is an entry of a chosen namespace
listed : (p : Name → Bool) (keys : List Key) (key : Key) → has_key (filter (λ k. p k.0) keys) key ≡ true → (has_key keys key ≡ true) × (p key.0 ≡ true)
listed p keys key has =
    let both = sym (any_kept (same_key key) (λ k. p k.0) (p key.0) (λ k same. ap p (sym (same_key_is key k same).0)) keys) ∙ has in
    (first_of_both _ _ both, second_of_both (has_key keys key) _ both)

once_kept : (f : Key → Bool) (keys : List Key) → is_distinct same_key keys ≡ true → is_distinct same_key (filter f keys) ≡ true
once_kept f keys once = distinct_of_pairs same_key (filter f keys)
    (pairs_still (λ x y. same_key x y ≡ false) f keys (pairs_of_distinct same_key keys once))

-- ---- a namespace whose pools and quotas are kept

module _ (ns : Name) (pools quotas : List Name) (w : World) (apart : IsApart (part_of ns pools quotas) w) (t : Tenant)
    (is : get w.tenants ns ≡ Some t) (r : IsSoundTenant w ns t)
    (confined : (allowed : List Name) × (t.namespace.allowed ≡ Some allowed)) where
  abbrev rest : World
  rest = alone_in (part_of ns pools quotas) w

  its_pool : (pool : Name) → permits t.namespace pool ≡ true → (part_of ns pools quotas).pools pool ≡ true
  its_pool pool e = apart.pool ns t pool is e ∙ same_name_refl ns

  pool_there : (pool : Name) → permits t.namespace pool ≡ true → contains_key w.pools pool ≡ true → contains_key rest.pools pool ≡ true
  pool_there pool e there = ap is_some (pool_alone (part_of ns pools quotas) w pool (its_pool pool e)) ∙ there

  still_allowed : (pool : Name) (quota : Option Name) → IsAllowed w t pool quota → IsAllowed rest t pool quota
  still_allowed pool quota a = record { exists = pool_there pool a.permitted a.exists; permitted = a.permitted; its_quota = a.its_quota }

  still_listed : (keys : List Key) (n : ℕ) → has_key (filter (λ key. (part_of ns pools quotas).spaces key.0) keys) (ns, n) ≡ has_key keys (ns, n)
  still_listed keys n = sym (has_key_alone (part_of ns pools quotas) keys (ns, n) (same_name_refl ns))

  -- ---- its record

  permits_default : permits t.namespace t.namespace.default_pool ≡ true
  permits_default = ap (λ a. permits_by a t.namespace t.namespace.default_pool) confined.1
      ∙ ap (λ b. b || has_name confined.0 t.namespace.default_pool) (same_name_refl t.namespace.default_pool)

  permits_listed : (pools : List Name) → t.namespace.allowed ≡ Some pools → (pool : Name) → has_name pools pool ≡ true → permits t.namespace pool ≡ true
  permits_listed pools e pool has = ap (λ a. permits_by a t.namespace pool) e ∙ or_right (same_name pool t.namespace.default_pool) _ has

  record_alone : IsSoundRecord rest t.namespace
  record_alone = record {
    good = r.namespace.good;
    default = pool_there t.namespace.default_pool permits_default r.namespace.default;
    allowed = λ pools e. all_from_each (contains_key rest.pools) pools
        (each_of (λ pool. (permits t.namespace pool ≡ true) × (contains_key w.pools pool ≡ true)) (λ pool. contains_key rest.pools pool ≡ true)
        (λ pool h. pool_there pool h.0 h.1) pools
        (each_both (λ pool. permits t.namespace pool ≡ true) (λ pool. contains_key w.pools pool ≡ true) pools
        (each_named (λ pool. permits t.namespace pool ≡ true) pools (permits_listed pools e))
        (each_from_all (contains_key w.pools) pools (r.namespace.allowed pools e))));
    quota = λ q e. ap is_some (quota_alone (part_of ns pools quotas) w q (apart.quota ns t q is e ∙ same_name_refl ns)) ∙ r.namespace.quota q e;
  }

  -- ---- its rows

  allocation_placed : (a : Allocation) → IsPlaced w t a → IsPlaced rest t a
  allocation_placed a p = record {
    allowed = still_allowed a.pool None p.allowed;
    row = p.row;
    there = node_alone (part_of ns pools quotas) w a.pool a.node (its_pool a.pool p.allowed.permitted) ∙ p.there;
    ready = p.ready;
    counted = p.counted;
  }

  snapshot_alone : (worker : Worker) (kept : Snapshot) → IsSoundSnapshot w ns t worker kept → IsSoundSnapshot rest ns t worker kept
  snapshot_alone worker kept k = record {
    namespace = k.namespace;
    number = k.number;
    row = k.row;
    allowed = still_allowed kept.pool _ k.allowed;
    job_good = k.job_good;
    nodes_once = k.nodes_once;
    countable = k.countable;
    seen = λ p at. k.seen p (chosen names one_name w.pools (part_of ns pools quotas).pools kept.pool p at).0;
    quota_seen = λ q rows has at. k.quota_seen q rows has (chosen names one_name w.quotas (part_of ns pools quotas).quotas q.name rows at).0;
  }

  worker_alone : (n : ℕ) (worker : Worker) → IsSoundWorker w ns t n worker → IsSoundWorker rest ns t n worker
  worker_alone n worker k = record {
    below = k.below;
    row = k.row;
    is_row = k.is_row;
    pending = k.pending;
    not_ready = still_listed w.ready worker.evaluation ∙ k.not_ready;
    snapshot = λ kept has. snapshot_alone worker kept (k.snapshot kept has);
    keeps_one = k.keeps_one;
    fit = k.fit;
    least = k.least;
    most = k.most;
    plan_listed = still_listed w.plans worker.evaluation ∙ k.plan_listed;
  }

  tenant_sound : IsSoundTenant rest ns t
  tenant_sound = record {
    named = r.named;
    namespace = record_alone;
    few_jobs = r.few_jobs;
    job = λ id j at. let k = r.job id j at in record {
      named = k.named;
      good = k.good;
      allowed = still_allowed j.document.pool None k.allowed;
      created = k.created;
      modified = k.modified;
      versions = k.versions;
    };
    evaluation = λ n e at. let k = r.evaluation n e at in record {
      below = k.below;
      named = k.named;
      priority = k.priority;
      allowed = λ open_. still_allowed e.pool e.quota (k.allowed open_);
      previous = k.previous;
      follower = k.follower;
      given_back = k.given_back;
      few_nacks = k.few_nacks;
      created = k.created;
      modified = k.modified;
    };
    allocation = λ n a at. let k = r.allocation n a at in record {
      below = k.below;
      named = k.named;
      sized = k.sized;
      priority = k.priority;
      placed = λ live. allocation_placed a (k.placed live);
      made_by = k.made_by;
      made_for = k.made_for;
      created = k.created;
      modified = k.modified;
    };
    worker = λ n worker at. worker_alone n worker (r.worker n worker at);
    one_each = r.one_each;
    one_busy = ap (λ keys. is_distinct same_found (jobs_at t (keys ++ map (λ worker. (ns, worker.1.evaluation)) (entries t.workers))))
        (filter_twice (λ (key : Key). same_name ns key.0) w.ready) ∙ r.one_busy;
    one_blocked = r.one_blocked;
    blocked_listed = λ n e at. still_listed w.blocked n ∙ r.blocked_listed n e at;
    few_events = r.few_events;
    events_below = r.events_below;
  }

-- ---- all that is kept

module _ (ns : Name) (pools quotas : List Name) (w : World) (apart : IsApart (part_of ns pools quotas) w) (sound : IsSound w)
    (confined : (t : Tenant) → get w.tenants ns ≡ Some t → (allowed : List Name) × (t.namespace.allowed ≡ Some allowed)) where
  abbrev kept : World
  kept = alone_in (part_of ns pools quotas) w

  tenant_of : (k : Name) (t : Tenant) → get kept.tenants k ≡ Some t → (get w.tenants k ≡ Some t) × (same_name ns k ≡ true)
  tenant_of k t at = chosen names one_name w.tenants (same_name ns) k t at

  each_tenant : (k : Name) (t : Tenant) → get kept.tenants k ≡ Some t → IsSoundTenant kept k t
  each_tenant k t at =
      let c = tenant_of k t at in
      let same : ns ≡ k = same_name_is ns k c.1 in
      let is : get w.tenants ns ≡ Some t = ap (get w.tenants) same ∙ c.0 in
      subst (λ k. IsSoundTenant kept k t) same (tenant_sound ns pools quotas w apart t is (sound.tenant ns t is) (confined t is))

  each_pool : (name : Name) (p : PoolRows) → get kept.pools name ≡ Some p → IsSoundPool kept name p
  each_pool name p at =
      let c = chosen names one_name w.pools (part_of ns pools quotas).pools name p at in
      let k = sound.pool name p c.0 in record {
        named = k.named;
        described = k.described;
        few_nodes = k.few_nodes;
        node = λ n node there. let d = k.node n node there in record {
          named = d.named;
          good = d.good;
          in_order = d.in_order;
          within = ap (λ load. is_within load node.offer.capacity) (node_load_alone (part_of ns pools quotas) w apart.allocation name n c.1) ∙ d.within;
        };
        classes = k.classes;
      }

  each_ready : (key : Key) → has_key kept.ready key ≡ true → IsReady kept key
  each_ready key has =
      let c = listed (same_name ns) w.ready key has in
      let k = sound.ready key c.0 in record { row = k.row; is_row = evaluation_alone (part_of ns pools quotas) w key c.1 ∙ k.is_row; pending = k.pending }

  each_planned : (key : Key) → has_key kept.plans key ≡ true → IsPlanned kept key
  each_planned key has =
      let c = listed (same_name ns) w.plans key has in
      let k = sound.planned key c.0 in record {
        tenant = k.tenant;
        number = k.number;
        worker = k.worker;
        is_tenant = tenant_alone (part_of ns pools quotas) w key.0 c.1 ∙ k.is_tenant;
        is_worker = k.is_worker;
        same = k.same;
      }

  each_blocked : (key : Key) → has_key kept.blocked key ≡ true → is_some (evaluation_at kept key) ≡ true
  each_blocked key has =
      let c = listed (same_name ns) w.blocked key has in
      ap is_some (evaluation_alone (part_of ns pools quotas) w key c.1) ∙ sound.blocked key c.0

  -- what is live among the chosen is live among all
  live_among_all : (key : Key) (a : Allocation) → IsLiveAt kept key a → IsLiveAt w key a
  live_among_all key a live = (by (get kept.tenants key.0) refl live.0, live.1)
    where
      by : (o : Option Tenant) → get kept.tenants key.0 ≡ o → option_and_then (λ t. get t.allocations key.1) o ≡ Some a → allocation_at w key ≡ Some a
      by None at row = absurd (not_Some _ row)
      by (Some t) at row = ap (option_and_then (λ t. get t.allocations key.1)) (tenant_of key.0 t at).0 ∙ row

  sound_alone : is_past_bound w ≡ false → IsSound kept
  sound_alone within = record {
    few_tenants = few_kept w.tenants (same_name ns) most_rows sound.few_tenants;
    few_pools = few_kept w.pools (part_of ns pools quotas).pools most_rows sound.few_pools;
    few_quotas = few_kept w.quotas (part_of ns pools quotas).quotas most_rows sound.few_quotas;
    tenant = each_tenant;
    pool = each_pool;
    quota = λ name q at. sound.quota name q (chosen names one_name w.quotas (part_of ns pools quotas).quotas name q at).0;
    one_row = λ a b s t n is_a is_b. sound.one_row a b s t n (tenant_of a s is_a).0 (tenant_of b t is_b).0;
    ready = each_ready;
    planned = each_planned;
    blocked = each_blocked;
    ready_once = once_kept (λ key. same_name ns key.0) w.ready sound.ready_once;
    plans_once = once_kept (λ key. same_name ns key.0) w.plans sound.plans_once;
    blocked_once = once_kept (λ key. same_name ns key.0) w.blocked sound.blocked_once;
    one_place = λ a b x y live_a live_b. sound.one_place a b x y (live_among_all a x live_a) (live_among_all b y live_b);
    within = over_part (part_of ns pools quotas) w within;
  }

-- ---- it has a list of its pools

confined_of : (w : World) (ns : Name) (pools quotas : List Name) (t : Tenant) → is_apart w ns pools quotas ≡ true → get w.tenants ns ≡ Some t →
    (allowed : List Name) × (t.namespace.allowed ≡ Some allowed)
confined_of w ns pools quotas t apart is = by t.namespace.allowed refl (confined w ns pools quotas apart ns t is (same_name_refl ns))
  where
    by : (o : Option (List Name)) → t.namespace.allowed ≡ o → is_some t.namespace.allowed ≡ true → (allowed : List Name) × (t.namespace.allowed ≡ Some allowed)
    by None e some = not_both some (ap is_some e)
    by (Some allowed) e some = (allowed, e)

pub alone_is_valid : AloneIsValid
unfolding alone
alone_is_valid ns pools quotas s valid apart =
    let fit : IsFit (part_of ns pools quotas) s = fit_apart ns pools quotas s (valid_is_steady s valid) apart in record {
      acl = valid.acl;
      world = sound_alone ns pools quotas s.world fit.apart valid.world (λ t is. confined_of s.world ns pools quotas t apart is) fit.within;
    }
