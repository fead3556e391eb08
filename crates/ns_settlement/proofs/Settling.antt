-- A change that has settled leaves what the step's end makes of the world.
use Rattle.std.specs.Prelude.{◌≡◌, Bool, true, false, if◌then◌else◌, Option, Some, None, option_map}
use Rattle.std.proofs.Common.{refl, sym, ap, ◌∙◌}
use Rattle.std.specs.Option.{option_map_or}
use Rattle.std.specs.FinMap.{FinMap, get}
use Rattle.keyed.specs.Table.{flat, row_at}
use Rattle.ns_types.specs.State.Names.{Name, name_cmp, has_name}
use Rattle.ns_types.specs.Settling.Releases.{released_classes, releases_quota}
use Rattle.ns_types.specs.State.Rows.{World, Tenant}
use Rattle.ns_types.specs.Settling.Settle.{after_release, after_quota_release, number_releases, settle, stamp, stamp_tenant, wake}
use Rattle.ns_types.specs.State.Tables.{map_rows, table_of}
use Rattle.ns_types.proofs.Named.{names, one_name}
use Rattle.ns_types.proofs.Tables.{get-table_of}
use Rattle.ns_types.proofs.Settling.{stamp_same}
use Rattle.ns_change.specs.declared.change.Change.{Change}
use Rattle.ns_change.specs.declared.change.Settled.{Settled}
use Rattle.ns_change.specs.declared.change.TenantChange.{TenantChange}
use Rattle.ns_change.specs.Changed.{changed, changed_list, changed_pool, changed_quota, changed_tenant, perhaps}
use Rattle.ns_change.specs.Settled.{classes_in, publish, settled_tenant, settled_world}
use Rattle.ns_release.specs.Released.{woken_keys}
use Rattle.ns_release.proofs.Model.{map_rows-alike, map_rows-twice, pools_after, quotas_after, wake_pools, wake_quotas, woken_is}
use Rattle.ns_settlement.specs.Settles.{IsSettled, AreStamped, settled_by, settled_slot, shown_if, unshown}
use Rattle.ns_settlement.specs.Stamped.{changed_events, stamped_rows, stamped_tenant, touches}
use Rattle.ns_settlement.proofs.Stamped.{stamped_is}

module _ (w : World) (c awake : Change) (s : Settled) (is : IsSettled w c awake s) where
  same_pools : (changed w awake).pools ≡ (changed w c).pools
  same_pools = ap (λ x. x.pools) is.woke ∙ wake_pools (woken_keys w c) (changed w c)

  same_quotas : (changed w awake).quotas ≡ (changed w c).quotas
  same_quotas = ap (λ x. x.quotas) is.woke ∙ wake_quotas (woken_keys w c) (changed w c)

  -- ---- stamps

  stamp_is : (ns : Name) (t : Tenant) (x : Option TenantChange) → stamp_tenant (Some t) (perhaps changed_tenant x t) ≡ perhaps stamped_tenant x t
  stamp_is ns t None = stamp_same t
  stamp_is ns t (Some x) = stamped_is t x

  tenants_are : map_rows (λ ns t. stamp_tenant (get w.tenants ns) t) (changed w awake).tenants ≡
      map_rows (λ ns t. perhaps settled_tenant (row_at s.tenants ns) t) w.tenants
  unfolding changed
  tenants_are = map_rows-twice names one_name (λ ns t. stamp_tenant (get w.tenants ns) t) (λ ns t. perhaps changed_tenant (row_at awake.tenants ns) t) w.tenants
      ∙ map_rows-alike names one_name _ (λ ns t. perhaps settled_tenant (row_at s.tenants ns) t) w.tenants
      (λ ns t at. ap (λ o. stamp_tenant o (perhaps changed_tenant (row_at awake.tenants ns) t)) at ∙ stamp_is ns t (row_at awake.tenants ns)
      ∙ sym (is.stamped ns t at))

  pools_are : map_rows (λ name p. after_release (released_classes w (changed w c) name p) p) (changed w awake).pools ≡
      map_rows (λ name p. after_release (classes_in name s.rooms) (perhaps changed_pool (row_at s.pools name) p)) w.pools
  pools_are = pools_after w c awake same_pools
      ∙ (λ i. map_rows (λ name p. after_release (classes_in name (sym is.rooms i)) (perhaps changed_pool (row_at (sym is.pools i) name) p)) w.pools)

  quotas_are : map_rows (λ name q. after_quota_release (releases_quota w (changed w c) name q) q) (changed w awake).quotas ≡ map_rows
      (λ name q. after_quota_release (has_name s.released name) (perhaps changed_quota (row_at s.quotas name) q)) w.quotas
  quotas_are = quotas_after w c awake same_quotas ∙ (λ i. map_rows
      (λ name q. after_quota_release (has_name (sym is.released i) name) (perhaps changed_quota (row_at (sym is.quotas i) name) q)) w.quotas)

  stamped_are : stamp w (number_releases w (changed w c) (changed w awake)) ≡ settled_world w s
  unfolding stamp number_releases settled_world changed
  stamped_are = λ i. record w {
    tenants = tenants_are i;
    pools = pools_are i;
    quotas = quotas_are i;
    ready = changed_list w.ready (sym is.ready i);
    plans = changed_list w.plans (sym is.plans i);
    blocked = changed_list w.blocked (sym is.blocked i);
  }

  pub settle_is : settle w (changed w c) ≡ settled_world w s
  unfolding settle
  settle_is = ap (λ keys. stamp w (number_releases w (changed w c) (wake keys (changed w c)))) (woken_is w c)
      ∙ ap (λ x. stamp w (number_releases w (changed w c) x)) (sym is.woke) ∙ stamped_are

  pub tenants_then : (settled_world w s).tenants ≡ map_rows (λ ns t. perhaps stamped_tenant (row_at awake.tenants ns) t) w.tenants
  unfolding settled_world
  tenants_then = map_rows-alike names one_name (λ ns t. perhaps settled_tenant (row_at s.tenants ns) t)
      (λ ns t. perhaps stamped_tenant (row_at awake.tenants ns) t) w.tenants is.stamped

-- ---- there is one such for each change

module _ (w : World) (c awake : Change) where
  row_of : {X Y : Type 0} (f : Name → Option X → Option Y) → ((ns : Name) → f ns None ≡ None) → (m : FinMap name_cmp (Option X)) (ns : Name) →
      row_at (table_of f m) ns ≡ f ns (row_at m ns)
  row_of {X = X} f none m ns = ap flat (get-table_of names one_name f m ns) ∙ by (get m ns)
    where
      by : (r : Option (Option X)) → flat (option_map (f ns) r) ≡ f ns (flat r)
      by None = sym (none ns)
      by (Some x) = refl

  stamped_by : AreStamped w awake (settled_by w c awake)
  unfolding stamped_tenant
  stamped_by ns t is = ap (λ x. perhaps settled_tenant x t) (row_of (settled_slot w) (λ _. refl) awake.tenants ns) ∙ by (row_at awake.tenants ns)
    where
      slots : (b : Bool) (x : TenantChange) → settled_tenant t (shown_if b t x) ≡
          (if b then publish (changed_tenant t (stamped_rows t x)) (changed_events t x) else changed_tenant t x)
      slots true x = refl
      slots false x = refl

      by : (x : Option TenantChange) → perhaps settled_tenant (settled_slot w ns x) t ≡ perhaps stamped_tenant x t
      by None = refl
      by (Some x) = ap (λ o. settled_tenant t (option_map_or (λ t. shown_if (touches t x) t x) o (unshown x))) is ∙ slots (touches t x) x

  pub settles : changed w awake ≡ wake (woken_keys w c) (changed w c) → IsSettled w c awake (settled_by w c awake)
  settles woke = record {
    woke = woke;
    stamped = stamped_by;
    pools = refl;
    quotas = refl;
    ready = refl;
    plans = refl;
    blocked = refl;
    rooms = refl;
    released = refl;
  }

  -- the end of a step, as one value made of the change
  pub settled_is : changed w awake ≡ wake (woken_keys w c) (changed w c) → settle w (changed w c) ≡ settled_world w (settled_by w c awake)
  settled_is woke = settle_is w c awake (settled_by w c awake) (settles woke)
