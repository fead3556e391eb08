-- A change of nothing.
use Rattle.std.specs.Prelude.{◌≡◌, not, List, [], ◌∷◌, Option, filter, Some, None}
use Rattle.std.proofs.Common.{refl, ap, ◌∙◌, Ordering}
use Rattle.std.proofs.lemmas.List.{append-nil}
use Rattle.std.specs.Cmp.{IsTotalOrder}
use Rattle.std.specs.FinMap.{FinMap, IsAntisymmetric, empty, get-empty, get}
use Rattle.keyed.specs.Table.{flat, row_at}
use Rattle.ns_types.specs.State.Names.{Key, has_key, Name}
use Rattle.ns_types.specs.State.Tables.{map_rows}
use Rattle.ns_types.proofs.Named.{names, one_name}
use Rattle.ns_types.proofs.Tables.{map_rows_idle}
use Rattle.ns_change.specs.declared.change.Change.{Change}
use Rattle.ns_change.specs.declared.change.ListChange.{ListChange}
use Rattle.ns_change.specs.Changed.{changed, changed_list, changed_pool, changed_quota, changed_tenant, perhaps, view, change_pool}
use Rattle.ns_tables.specs.declared.tables.Tables.{Tables}
use Rattle.ns_tables.specs.World.{world_of}
use Rattle.std.specs.Option.{option_map_or}
use Rattle.ns_types.specs.State.Rows.{World, PoolRows}
use Rattle.ns_types.specs.Settling.Making.{put_pool}
use Rattle.ns_types.specs.Working.Queue.{queue}
use Rattle.ns_types.proofs.Queue.{queue_keeps}

abbrev pub no_entries : ListChange
no_entries = record { taken = []; added = [] }

abbrev pub nothing : Change
nothing = record { tenants = empty; pools = empty; quotas = empty; ready = no_entries; plans = no_entries; blocked = no_entries }

module _ {K X C : Type 0} {R : K → K → Ordering} (o : IsTotalOrder R) (same : IsAntisymmetric R) (f : X → C → X) where
  rows_stay : (m : FinMap R X) → map_rows (λ k x. perhaps f (row_at (empty {X = Option C} {R = R}) k) x) m ≡ m
  rows_stay m = map_rows_idle o same (λ k x. perhaps f (row_at (empty {X = Option C} {R = R}) k) x) m
      (λ k x at. ap (λ r. perhaps f (flat r) x) (get-empty R k))

pub list_stays : (keys : List Key) → changed_list keys no_entries ≡ keys
list_stays keys = append-nil (filter (λ key. not (has_key [] key)) keys) ∙ by keys
  where
    by : (keys : List Key) → filter (λ key. not (has_key [] key)) keys ≡ keys
    by [] = refl
    by (key ∷ keys) = ap (λ l. key ∷ l) (by keys)

pub nothing_changed : (t : Tables) → view t nothing ≡ world_of t
unfolding changed
nothing_changed t = λ i. record (world_of t) {
  tenants = rows_stay names one_name changed_tenant (world_of t).tenants i;
  pools = rows_stay names one_name changed_pool (world_of t).pools i;
  quotas = rows_stay names one_name changed_quota (world_of t).quotas i;
  ready = list_stays (world_of t).ready i;
  plans = list_stays (world_of t).plans i;
  blocked = list_stays (world_of t).blocked i;
}

-- ---- what leaves the namespaces

pub queue_tenants : (w : World) (key : Key) → (queue w key).tenants ≡ w.tenants
queue_tenants = queue_keeps (λ w. w.tenants) (λ w keys. refl)

pub pool_alone : (pool : Name) (f : PoolRows → PoolRows) (w : World) → (change_pool pool f w).tenants ≡ w.tenants
pool_alone pool f w = by (get w.pools pool)
  where
    by : (o : Option PoolRows) → (option_map_or (λ p. put_pool pool (f p) w) o w).tenants ≡ w.tenants
    by None = refl
    by (Some p) = refl
