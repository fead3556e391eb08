-- What a step does at its end keeps records sound.
use Rattle.std.specs.Prelude.{◌≡◌, ℕ, ◌+◌, ◌-◌, ◌≤◌, Bool, true, false, cond, not, List, [], ◌∷◌, ◌++◌, map, Option, Some, None, ◌&&◌, drop, take, fold, length}
use Rattle.std.specs.Prelude.{nat_le, option_map}
use Rattle.std.proofs.Common.{◌⊎◌, inl, inr, refl, sym, ap, subst, ◌∙◌, arith, length-drop}
use Rattle.std.proofs.lemmas.Bool.{leb-true, le-leb}
use Rattle.std.proofs.lemmas.List.{take-append-drop}
use Rattle.std.proofs.lemmas.List.Folds.{list_all-append}
use Rattle.std.specs.FinMap.{get, contains_key, insert}
use Rattle.std.specs.List.{list_all}
use Rattle.std.specs.Option.{option_map_or}
use Rattle.std.specs.Ordering.{eq_by_cmp, nat_cmp}
use Rattle.ns_types.specs.declared.event.Event.{Event}
use Rattle.ns_types.specs.declared.event.Topic.{Topic}
use Rattle.ns_types.specs.declared.job.Job.{Job}
use Rattle.ns_types.specs.declared.node.Class.{Class}
use Rattle.ns_types.specs.Asking.Admins.{most_rows}
use Rattle.ns_types.specs.State.Lists.{last}
use Rattle.ns_types.specs.State.Names.{Name, ByClass, same_number}
use Rattle.ns_types.specs.Settling.Releases.{released_classes, releases_quota, woken}
use Rattle.ns_types.specs.State.Rows.{World, Tenant, PoolRows, QuotaRows}
use Rattle.ns_types.specs.Settling.Same.{same_job, same_document, same_flag}
use Rattle.ns_types.specs.Settling.Settle.{unblocked_in, wake, after_release, after_quota_release, number_releases, is_changed, changes_job, changes_evaluation}
use Rattle.ns_types.specs.Settling.Settle.{is_touched, topics_of, events_of, stamped, stamp_tenant, stamp, settle}
use Rattle.ns_types.specs.State.Tables.{map_rows, any_row}
use Rattle.ns_types.specs.Validity.{IsSoundQuota}
use Rattle.ns_types.proofs.Lists.{not_both, left_none}
use Rattle.ns_types.proofs.Named.{names as by_name, one_name, one_number, first_of_both, second_of_both}
use Rattle.ns_types.proofs.Tables.{tied, none_of_any}
use Rattle.ns_types.proofs.TableRows.{row_of_insert}
use Rattle.ns_types.proofs.Tests.{is_yes}
use Rattle.ns_audit.proofs.ValidRecords.Statement.{IsGoodPool}
use Rattle.ns_audit.proofs.Steady.Keeping.{row_of_map}
use Rattle.ns_types.proofs.Queue.{queues_keep}
use Rattle.ns_audit.proofs.Alone.Recording.{record_kept}
use Rattle.ns_audit.proofs.ValidRecords.Sound.{kept_of, Names, IsGoodJob, IsGoodKept, IsRecorded, bound_of, IsNearKept, IsNear, near_same}
use Rattle.ns_audit.proofs.ValidRecords.Tables.{list_all_of, keys_mapped, len_mapped, values_pass, value_passes}
use Rattle.ns_types.proofs.Classes.{by_class, one_class}

-- ---- lists

below_next : (a b : ℕ) → nat_le a b ≡ true → nat_le a (b + 1) ≡ true
below_next a b e = le-leb a (b + 1) (up a b (leb-true a b e))
  where
    up : (a b : ℕ) → a ≤ b → a ≤ b + 1
    up a b h = omega arith

itself : (n : ℕ) → n ≤ n
itself n = omega arith

module _ (xs : List Event) where
  pub last_few : (n : ℕ) → length (last n xs) ≤ n
  last_few n = subst (λ k. k ≤ n) (sym (length-drop (length xs - n) xs)) (at_most (length xs) n)
    where
      at_most : (a n : ℕ) → a - (a - n) ≤ n
      at_most a n = omega arith

  pub last_all : (f : Event → Bool) (n : ℕ) → list_all f xs ≡ true → list_all f (last n xs) ≡ true
  last_all f n e = second_of_both (list_all f (take (length xs - n) xs)) _ (sym (list_all-append f (take (length xs - n) xs) (drop (length xs - n) xs)) ∙
      ap (list_all f) (take-append-drop (length xs - n) xs) ∙ e)

-- ---- indexes

-- jobs that are shown alike have the same numbers
numbers_alike : (y j : Job) → same_job y j ≡ true → (same_number y.create_index j.create_index ≡ true) × (same_number y.modify_index j.modify_index ≡ true) ×
    (same_number y.version j.version ≡ true)
unfolding same_job
numbers_alike y j e =
    let c : Bool = same_document y.document j.document && same_flag y.stop j.stop in
    let v : Bool = same_number y.version j.version in
    let k : Bool = same_number y.create_index j.create_index in
    let m : Bool = same_number y.modify_index j.modify_index in
    let first = first_of_both (c && v && k) m e in
    (second_of_both (c && v) k first, second_of_both (c && v && k) m e, second_of_both c v (first_of_both (c && v) k first))

module _ (w : World) (old : IsRecorded w) (pools quotas : Names) (ns : Name) where
  -- where the namespace is not touched, each of its jobs is as it was
  as_before : (o t : Tenant) → get w.tenants ns ≡ Some o → t.index ≡ o.index → is_touched o t ≡ false → (id : Name) (j : Job) → get t.jobs id ≡ Some j
      → (j.create_index ≤ t.index) × (j.modify_index ≤ t.index) × (j.version ≤ t.index)
  as_before o t is same untouched id j at = by (get o.jobs id) refl
      (sym (ap (λ x. option_map_or (is_changed same_job (get o.jobs id)) x (contains_key o.jobs id)) at)
      ∙ none_of_any one_name (λ id _. changes_job o t id) t.jobs id j
      (left_none _ _ (left_none _ (any_row (changes_evaluation o) t.evaluations) (left_none _ _ untouched))) at)
    where
      bounded : (a b : ℕ) → eq_by_cmp nat_cmp a b ≡ true → a ≤ o.index → b ≤ t.index
      bounded a b e le = subst (λ n. b ≤ n) (sym same) (subst (λ n. n ≤ o.index) (tied one_number a b e) le)

      alike : (y : Job) → get o.jobs id ≡ Some y → same_job y j ≡ true → (j.create_index ≤ t.index) × (j.modify_index ≤ t.index) × (j.version ≤ t.index)
      alike y has e =
          let g = (old.tenant ns o is).job id y has in
          let s = numbers_alike y j e in (
            bounded y.create_index j.create_index s.0 g.created,
            bounded y.modify_index j.modify_index s.1 g.modified,
            bounded y.version j.version s.2 g.versions,
          )

      by : (x : Option Job) → get o.jobs id ≡ x → option_map_or (λ y. not (same_job y j)) x true ≡ false → (j.create_index ≤ t.index) ×
          (j.modify_index ≤ t.index) × (j.version ≤ t.index)
      by None has e = not_both refl e
      by (Some y) has e = alike y has (is_yes (same_job y j) e)

  stamped_good : (o t : Tenant) → t.index ≡ o.index → IsGoodKept pools quotas ns (t.index + 1) (kept_of t) →
      IsGoodKept pools quotas ns (o.index + 1) (kept_of (stamped (o.index + 1) o t))
  stamped_good o t same k = record {
    named = k.named;
    namespace = k.namespace;
    few_jobs = k.few_jobs;
    job = λ id j at. subst (λ n. IsGoodJob pools (n + 1) id j) same (k.job id j at);
    few_events = last_few (t.events ++ events_of (o.index + 1) o t) 100;
    events_below = last_all (t.events ++ events_of (o.index + 1) o t) (λ event. nat_le event.index (o.index + 1)) 100
        (list_all-append (λ event. nat_le event.index (o.index + 1)) t.events (events_of (o.index + 1) o t) ∙ (λ i. former i && new (topics_of o t) i));
  }
    where
      former : list_all (λ event. nat_le event.index (o.index + 1)) t.events ≡ true
      former = list_all_of (λ event. nat_le event.index t.index) (λ event. nat_le event.index (o.index + 1))
          (λ event e. subst (λ n. nat_le event.index (n + 1) ≡ true) same (below_next event.index t.index e)) t.events k.events_below

      new : (topics : List Topic) → list_all (λ (event : Event). nat_le event.index (o.index + 1))
          (map (λ topic. record { index = o.index + 1; topic = topic }) topics) ≡ true
      new [] = refl
      new (topic ∷ topics) = λ i. le-leb (o.index + 1) (o.index + 1) (itself (o.index + 1)) i && new topics i

  stamp_good : (t : Tenant) → IsNearKept pools quotas (get w.tenants ns) ns (kept_of t) →
      IsGoodKept pools quotas ns (stamp_tenant (get w.tenants ns) t).index (kept_of (stamp_tenant (get w.tenants ns) t))
  unfolding stamp_tenant
  stamp_good t near = by (get w.tenants ns) refl near.good near.same_index
    where
      there : (o : Tenant) → get w.tenants ns ≡ Some o → t.index ≡ o.index → IsGoodKept pools quotas ns (t.index + 1) (kept_of t) → (b : Bool) →
          is_touched o t ≡ b
          → IsGoodKept pools quotas ns (cond b (stamped (o.index + 1) o t) t).index (kept_of (cond b (stamped (o.index + 1) o t) t))
      there o is same k true touched = stamped_good o t same k
      there o is same k false untouched = record {
        named = k.named;
        namespace = k.namespace;
        few_jobs = k.few_jobs;
        few_events = k.few_events;
        events_below = k.events_below;
        job = λ id j at.
            let g = k.job id j at in
            let b = as_before o t is same untouched id j at in
            record { named = g.named; good = g.good; exists = g.exists; created = b.0; modified = b.1; versions = b.2 };
      }

      by : (old : Option Tenant) → get w.tenants ns ≡ old → IsGoodKept pools quotas ns (bound_of old t.index) (kept_of t) →
          ((o : Tenant) → old ≡ Some o → t.index ≡ o.index)
          → IsGoodKept pools quotas ns (stamp_tenant old t).index (kept_of (stamp_tenant old t))
      by None is k same = k
      by (Some o) is k same = there o is (same o refl) k (is_touched o t) refl

stamp_recorded : (w x : World) → IsRecorded w → IsNear w x → IsRecorded (stamp w x)
unfolding stamp
stamp_recorded w x old near = record {
  few_tenants = subst (λ n. n ≤ most_rows) (sym (len_mapped by_name one_name (λ ns t. stamp_tenant (get w.tenants ns) t) x.tenants)) near.few_tenants;
  few_pools = near.few_pools;
  few_quotas = near.few_quotas;
  tenant = λ ns t is.
      let y = row_of_map by_name one_name (λ ns t. stamp_tenant (get w.tenants ns) t) x.tenants ns t is in
      subst (λ (t : Tenant). IsGoodKept (contains_key x.pools) (contains_key x.quotas) ns t.index (kept_of t)) y.2
      (stamp_good w old (contains_key x.pools) (contains_key x.quotas) ns y.0 (near.tenant ns y.0 y.1));
  pool = near.pool;
  quota = near.quota;
}

-- ---- release numbers

-- classes that are inserted one after another keep numbers of at most a bound
numbered : (classes : List Class) (known : ByClass ℕ) (n : ℕ) → ((c : Class) (r : ℕ) → get known c ≡ Some r → nat_le r n ≡ true) → (c : Class) (r : ℕ) →
    get (fold (λ known c. insert known c n) known classes) c ≡ Some r → nat_le r n ≡ true
numbered [] known n h = h
numbered (class ∷ classes) known n h = numbered classes (insert known class n) n (λ c r is. by c r (row_of_insert by_class one_class known class n c r is))
  where
    by : (c : Class) (r : ℕ) → ((c ≡ class) × (n ≡ r)) ⊎ (get known c ≡ Some r) → nat_le r n ≡ true
    by c r (inl e) = subst (λ r. nat_le r n ≡ true) e.1 (le-leb n n (itself n))
    by c r (inr is) = h c r is

released_good : (name : Name) (classes : List Class) (p : PoolRows) → IsGoodPool name p → IsGoodPool name (after_release classes p)
released_good name [] p g = g
released_good name (class ∷ classes) p g = record {
  named = g.named;
  described = g.described;
  few_nodes = g.few_nodes;
  node = g.node;
  classes = values_pass by_class one_class (λ r. nat_le r (p.release + 1)) (fold (λ known c. insert known c (p.release + 1)) p.classes (class ∷ classes))
      (numbered (class ∷ classes) p.classes (p.release + 1)
      (λ c r is. below_next r p.release (value_passes by_class one_class (λ r. nat_le r p.release) p.classes c r g.classes is)));
}

quota_released_good : (name : Name) (b : Bool) (q : QuotaRows) → IsSoundQuota name q → IsSoundQuota name (after_quota_release b q)
quota_released_good name true q g = record { named = g.named; good = g.good }
quota_released_good name false q g = g

numbered_near : (w w' v x : World) → IsNear v x → IsNear v (number_releases w w' x)
unfolding number_releases
numbered_near w w' v x near = record {
  few_tenants = near.few_tenants;
  few_pools = subst (λ n. n ≤ most_rows) (sym (len_mapped by_name one_name pooled x.pools)) near.few_pools;
  few_quotas = subst (λ n. n ≤ most_rows) (sym (len_mapped by_name one_name limited x.quotas)) near.few_quotas;
  tenant = λ ns t is. subst (λ pools. IsNearKept pools (contains_key (map_rows limited x.quotas)) (get v.tenants ns) ns (kept_of t))
      (λ i k. sym (keys_mapped by_name one_name pooled x.pools k) i)
      (subst (λ quotas. IsNearKept (contains_key x.pools) quotas (get v.tenants ns) ns (kept_of t))
      (λ i k. sym (keys_mapped by_name one_name limited x.quotas k) i) (near.tenant ns t is));
  pool = λ name p is. let y = row_of_map by_name one_name pooled x.pools name p is in
      subst (IsGoodPool name) y.2 (released_good name (released_classes w w' name y.0) y.0 (near.pool name y.0 y.1));
  quota = λ name q is. let y = row_of_map by_name one_name limited x.quotas name q is in
      subst (IsSoundQuota name) y.2 (quota_released_good name (releases_quota w w' name y.0) y.0 (near.quota name y.0 y.1));
}
  where
    pooled : Name → PoolRows → PoolRows
    pooled name p = after_release (released_classes w w' name p) p

    limited : Name → QuotaRows → QuotaRows
    limited name q = after_quota_release (releases_quota w w' name q) q

-- ---- the whole

pub settled_recorded : (w x : World) → IsRecorded w → IsNear w x → IsRecorded (settle w x)
unfolding settle wake
settled_recorded w x old near = stamp_recorded w _ old (numbered_near w x w (wake (woken w x) x) (near_same w x (wake (woken w x) x) near
    (λ k. ap (λ m. option_map kept_of (get m k)) (queues_keep (λ y. y.tenants) (λ y keys. refl) (woken w x) _) ∙
    record_kept (unblocked_in (woken w x)) kept_of (λ ns t. refl) x.tenants k)
    (queues_keep (λ y. y.pools) (λ y keys. refl) (woken w x) _) (queues_keep (λ y. y.quotas) (λ y keys. refl) (woken w x) _)))
