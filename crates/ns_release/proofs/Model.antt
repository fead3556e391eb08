-- The model's releases, and whom they wake, by the change alone.
use Rattle.std.specs.Prelude.{◌≡◌, false, not, List, [], ◌∷◌, filter, Option, Some, None, ◌&&◌, ◌||◌, option_map, is_some}
use Rattle.std.proofs.Common.{refl, sym, ap, ◌∙◌, Ordering}
use Rattle.std.specs.Option.{option_map_or}
use Rattle.std.specs.List.{list_any}
use Rattle.std.specs.Cmp.{IsTotalOrder}
use Rattle.std.specs.FinMap.{FinMap, IsAntisymmetric, entries, get, contains_key, same_map}
use Rattle.keyed.specs.Table.{flat, row_at}
use Rattle.ns_types.specs.declared.allocation.Allocation.{Allocation}
use Rattle.ns_types.specs.declared.evaluation.Evaluation.{Evaluation}
use Rattle.ns_types.specs.declared.records.Namespace.{Namespace}
use Rattle.ns_types.specs.declared.records.Quota.{Quota}
use Rattle.ns_types.specs.Asking.Admins.{with_quota}
use Rattle.ns_types.specs.State.Names.{Name, Key, same_name, has_name, has_key}
use Rattle.ns_types.specs.Settling.Releases.{can_use, changes_limits, counts_in, ends}
use Rattle.ns_types.specs.Settling.Releases.{is_released_quota, released_classes, releases_quota, wakes_by, released_between}
use Rattle.ns_types.specs.Settling.Releases.{wakes, woken}
use Rattle.ns_types.specs.State.Resources.{limits_in}
use Rattle.ns_types.specs.State.Rows.{World, PoolRows, QuotaRows, evaluation_at}
use Rattle.ns_types.specs.Settling.Settle.{after_release, after_quota_release, wake}
use Rattle.ns_types.specs.State.Tables.{any_row, map_rows}
use Rattle.ns_types.proofs.Named.{names, one_name}
use Rattle.ns_types.proofs.Lists.{any_alike, each}
use Rattle.ns_types.proofs.Tables.{get-map_rows}
use Rattle.ns_types.proofs.Alike.{same_limits_refl}
use Rattle.ns_types.proofs.Queue.{queues_keep}
use Rattle.ns_types.proofs.Tests.{not_Some, same_Some, or_none}
use Rattle.std.proofs.lemmas.List.Folds.{list_any-append}
use Rattle.ns_change.proofs.Seen.{quota_after}
use Rattle.ns_change.specs.declared.change.Change.{Change}
use Rattle.ns_change.specs.Changed.{changed, changed_pool, changed_quota, perhaps}
use Rattle.ns_change.specs.Settled.{classes_in}
use Rattle.ns_release.specs.Released.{at_ended, ended_rows, quota_left, quota_relimited, quotas_left, quotas_relimited, released_quotas, released_rooms}
use Rattle.ns_release.specs.Released.{relimits, released_of, releases_wake, woken_keys}
use Rattle.ns_release.proofs.Classes.{release_alike}
use Rattle.ns_types.proofs.Elements.{any_flat}
use Rattle.ns_release.proofs.Ending.{ends_is}
use Rattle.ns_release.proofs.Rooms.{any_image, any_row-at, at_row, rooms_are}
use Rattle.std.proofs.Math.Bool.{and_comm}

module _ {K X : Type 0} {R : K → K → Ordering} (o : IsTotalOrder R) (same : IsAntisymmetric R) where
  -- rows that are changed alike
  pub map_rows-alike : (f g : K → X → X) (m : FinMap R X) → ((k : K) (x : X) → get m k ≡ Some x → f k x ≡ g k x) → map_rows f m ≡ map_rows g m
  map_rows-alike f g m alike = same_map o same _ _ (λ q. get-map_rows o same f m q ∙ by q (get m q) refl ∙ sym (get-map_rows o same g m q))
    where
      by : (q : K) (x : Option X) → get m q ≡ x → option_map (f q) x ≡ option_map (g q) x
      by q None is = refl
      by q (Some x) is = ap Some (alike q x is)

  -- a change of each row after another
  pub map_rows-twice : (f g : K → X → X) (m : FinMap R X) → map_rows f (map_rows g m) ≡ map_rows (λ k x. f k (g k x)) m
  map_rows-twice f g m = same_map o same _ _ (λ q. get-map_rows o same f (map_rows g m) q ∙ ap (option_map (f q)) (get-map_rows o same g m q)
      ∙ by q (get m q) ∙ sym (get-map_rows o same (λ k x. f k (g k x)) m q))
    where
      by : (q : K) (x : Option X) → option_map (f q) (option_map (g q) x) ≡ option_map (λ x. f q (g q x)) x
      by q None = refl
      by q (Some x) = refl

-- ---- what waking leaves

pub wake_pools : (keys : List Key) (w : World) → (wake keys w).pools ≡ w.pools
unfolding wake
wake_pools keys w = queues_keep (λ w. w.pools) (λ w keys. refl) keys _

pub wake_quotas : (keys : List Key) (w : World) → (wake keys w).quotas ≡ w.quotas
unfolding wake
wake_quotas keys w = queues_keep (λ w. w.quotas) (λ w keys. refl) keys _

module _ (w : World) (c : Change) where
  abbrev middle : World
  middle = changed w c

  -- ---- quotas

  quotas_here : (name : Name) → has_name (quotas_left w c) name ≡ ends w middle (counts_in name)
  quotas_here name = any_flat (same_name name) (λ (e : Namespace × Allocation). quota_left e.0) (ended_rows w c) ∙
      any_alike _ (at_ended (counts_in name)) (ended_rows w c) (each _ (λ e. by e.0.quota) (ended_rows w c)) ∙ sym (ends_is w c (counts_in name))
    where
      by : (q : Option Name) → list_any (same_name name) (option_map_or (λ quota. quota ∷ []) q []) ≡ option_map_or (same_name name) q false
      by None = refl
      by (Some q) = or_none (same_name name q)

  -- the change changes its limits
  relimited_here : (name : Name) (old : QuotaRows) → get w.quotas name ≡ Some old →
      has_name (quotas_relimited w c) name ≡ changes_limits old (perhaps changed_quota (row_at c.quotas name) old)
  unfolding any_row
  relimited_here name old is = any_flat (same_name name) (quota_relimited w) (entries c.quotas)
      ∙ any_alike _ (λ e. same_name name e.0 && relimits w e) (entries c.quotas)
      (each _ (λ e. at_row (relimits w e) (same_name name) e.0 ∙ and_comm (relimits w e) (same_name name e.0)) (entries c.quotas))
      ∙ any_row-at names one_name name (λ k x. relimits w (k, x)) c.quotas ∙ by (get c.quotas name)
    where
      stays : false ≡ changes_limits old old
      stays = sym (ap not (same_limits_refl (limits_in old.quota.limits)))

      by : (r : Option (Option Quota)) → option_map_or (λ x. relimits w (name, x)) r false ≡ changes_limits old (perhaps changed_quota (flat r) old)
      by None = stays
      by (Some None) = stays
      by (Some (Some x)) = ap (λ o. option_map_or (λ old. changes_limits old (with_quota x (Some old))) o false) is

  quota_is : (name : Name) (q : QuotaRows) → get middle.quotas name ≡ Some q → releases_quota w middle name q ≡ has_name (released_quotas w c) name
  unfolding releases_quota
  quota_is name q at = by (get w.quotas name) refl (sym (quota_after w c name) ∙ at)
    where
      by : (r : Option QuotaRows) → get w.quotas name ≡ r → option_map (perhaps changed_quota (row_at c.quotas name)) r ≡ Some q →
          (option_map_or (λ old. changes_limits old q) (get w.quotas name) false || ends w middle (counts_in name)) ≡ has_name (released_quotas w c) name
      by None is e = absurd (not_Some q e)
      by (Some old) is e = (λ i. option_map_or (λ old. changes_limits old q) (is i) false || sym (quotas_here name) i)
          ∙ ap (λ x. changes_limits old x || has_name (quotas_left w c) name) (sym (same_Some _ q e))
          ∙ ap (λ b. b || has_name (quotas_left w c) name) (sym (relimited_here name old is))
          ∙ sym (list_any-append (same_name name) (quotas_relimited w c) (quotas_left w c))

  released_is : (name : Name) → is_released_quota w middle name ≡ (contains_key w.quotas name && has_name (released_quotas w c) name)
  released_is name = by (get w.quotas name) refl
    where
      seen : (r : Option QuotaRows) → get w.quotas name ≡ r → get middle.quotas name ≡ option_map (perhaps changed_quota (row_at c.quotas name)) r
      seen r is = quota_after w c name ∙ ap (option_map (perhaps changed_quota (row_at c.quotas name))) is

      by : (r : Option QuotaRows) → get w.quotas name ≡ r → option_map_or (releases_quota w middle name) (get middle.quotas name) false
          ≡ (is_some r && has_name (released_quotas w c) name)
      by None is = ap (λ o. option_map_or (releases_quota w middle name) o false) (seen None is)
      by (Some old) is = ap (λ o. option_map_or (releases_quota w middle name) o false) (seen (Some old) is) ∙ quota_is name _ (seen (Some old) is)

  -- ---- wakes

  wakes_is : (e : Evaluation) → wakes w middle e ≡ releases_wake w (released_rooms w c) (released_quotas w c) e
  unfolding wakes
  wakes_is e = by e.quota
    where
      by : (q : Option Name) → wakes_by (released_between w middle) e q ≡ wakes_by (released_of w (released_rooms w c) (released_quotas w c)) e q
      by (Some q) = released_is q
      by None = sym (rooms_are w c e.pool (can_use e))

  pub woken_is : woken w middle ≡ woken_keys w c
  unfolding woken
  woken_is = λ i. filter (λ key. has_key middle.blocked key && option_map_or (λ e. wakes_is e i) (evaluation_at w key) false) w.blocked

  -- ---- release numbers

  pool_is : (name : Name) (p : PoolRows) → get middle.pools name ≡ Some p →
      after_release (released_classes w middle name p) p ≡ after_release (classes_in name (released_rooms w c)) p
  pool_is name p is = release_alike (released_classes w middle name p) (classes_in name (released_rooms w c)) p (λ passes.
      ap (λ q. list_any passes (option_map_or (released_classes w middle name) q [])) (sym is) ∙ sym (rooms_are w c name passes)
      ∙ sym (any_image passes (λ r. r.1) (λ r. same_name name r.0) (released_rooms w c)))

  -- what the releases make of the pools, in a change that leaves the same
  pub pools_after : (awake : Change) → (changed w awake).pools ≡ (changed w c).pools →
      map_rows (λ name p. after_release (released_classes w (changed w c) name p) p) (changed w awake).pools ≡ map_rows
      (λ name p. after_release (classes_in name (released_rooms w c)) (perhaps changed_pool (row_at awake.pools name) p)) w.pools
  unfolding changed
  pools_after awake same = map_rows-alike names one_name _ (λ name p. after_release (classes_in name (released_rooms w c)) p) (changed w awake).pools
      (λ name p at. pool_is name p (ap (λ m. get m name) (sym same) ∙ at))
      ∙ map_rows-twice names one_name (λ name p. after_release (classes_in name (released_rooms w c)) p)
      (λ name p. perhaps changed_pool (row_at awake.pools name) p) w.pools

  -- and of the quotas
  pub quotas_after : (awake : Change) → (changed w awake).quotas ≡ (changed w c).quotas →
      map_rows (λ name q. after_quota_release (releases_quota w (changed w c) name q) q) (changed w awake).quotas ≡ map_rows
      (λ name q. after_quota_release (has_name (released_quotas w c) name) (perhaps changed_quota (row_at awake.quotas name) q)) w.quotas
  unfolding changed
  quotas_after awake same = map_rows-alike names one_name _ (λ name q. after_quota_release (has_name (released_quotas w c) name) q) (changed w awake).quotas
      (λ name q at. ap (λ b. after_quota_release b q) (quota_is name q (ap (λ m. get m name) (sym same) ∙ at)))
      ∙ map_rows-twice names one_name (λ name q. after_quota_release (has_name (released_quotas w c) name) q)
      (λ name q. perhaps changed_quota (row_at awake.quotas name) q) w.quotas
