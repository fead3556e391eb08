-- Allocations that end, row after row, or all of a table at once.
use Rattle.std.specs.Prelude.{◌≡◌, ℕ, cond, List, Option, Some, None, option_map}
use Rattle.std.proofs.Common.{refl, sym, ap, ◌∙◌}
use Rattle.std.specs.FinMap.{get, same_map}
use Rattle.ns_types.specs.declared.allocation.Allocation.{Allocation}
use Rattle.ns_types.specs.Asking.Nodes.{lose, lost}
use Rattle.ns_types.specs.State.Names.{Name, Key}
use Rattle.ns_types.specs.State.Rows.{World, Tenant}
use Rattle.ns_types.specs.State.Tables.{map_rows}
use Rattle.ns_types.proofs.Named.{names, one_name, numbers, one_number}
use Rattle.ns_types.proofs.Tables.{get-map_rows}
use Rattle.ns_types.specs.Settling.Gone.{gone_in, gone_row, rows_gone}
use Rattle.ns_nodes.specs.Losing.{IsLiveSet, lost_row}
use Rattle.ns_types.proofs.Gone.{gone_all}

-- ---- a node that goes down

abbrev pub lost_rows : Name → Name → Tenant → Tenant
lost_rows pool node t = record t { allocations = map_rows (λ _ a. lost pool node a) t.allocations }

pub lost_are : (w : World) (pool node : Name) (keys : List Key) → IsLiveSet w pool node keys → lose pool node w ≡ rows_gone lost_row w keys
lost_are w pool node keys is = (λ i. record w { tenants = tenants_are i })
    ∙ sym (gone_all lost_row (λ a. refl) keys w)
  where
    row : (ns : Name) (t : Tenant) → get w.tenants ns ≡ Some t → (n : ℕ) (r : Option Allocation) → get t.allocations n ≡ r →
        option_map (lost pool node) r ≡ option_map (gone_row lost_row keys ns n) r
    row ns t at n None there = refl
    row ns t at n (Some a) there = ap (λ b. Some (cond b (lost_row a) a)) (sym (is ns t n a at there))

    rows_are : (ns : Name) (t : Tenant) → get w.tenants ns ≡ Some t →
        map_rows (λ _ a. lost pool node a) t.allocations ≡ map_rows (gone_row lost_row keys ns) t.allocations
    rows_are ns t at = same_map numbers one_number _ _ (λ n. get-map_rows numbers one_number (λ _ a. lost pool node a) t.allocations n
        ∙ row ns t at n (get t.allocations n) refl ∙ sym (get-map_rows numbers one_number (gone_row lost_row keys ns) t.allocations n))

    by : (ns : Name) (o : Option Tenant) → get w.tenants ns ≡ o →
        option_map (lost_rows pool node) o ≡ option_map (gone_in lost_row keys ns) o
    by ns None at = refl
    by ns (Some t) at = λ i. Some (record t { allocations = rows_are ns t at i })

    tenants_are : map_rows (λ _ t. lost_rows pool node t) w.tenants ≡ map_rows (gone_in lost_row keys) w.tenants
    tenants_are = same_map names one_name _ _ (λ ns. get-map_rows names one_name (λ _ t. lost_rows pool node t) w.tenants ns ∙ by ns (get w.tenants ns) refl
        ∙ sym (get-map_rows names one_name (gone_in lost_row keys) w.tenants ns))
