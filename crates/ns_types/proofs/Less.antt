-- What stays of a world where allocations go, and how much less its nodes and quotas have then.
use Rattle.std.specs.Prelude.{◌≡◌, ℕ, ◌+◌, ◌-◌, Bool, true, false, cond, not, List, Option, Some, None, ◌&&◌, option_map, sum_by}
use Rattle.std.proofs.Common.{refl, sym, ap, ◌∙◌, arith}
use Rattle.std.specs.Option.{option_map_or, option_and_then}
use Rattle.std.specs.FinMap.{get}
use Rattle.ns_types.specs.declared.allocation.Allocation.{Allocation}
use Rattle.ns_types.specs.declared.plan.Eviction.{Eviction}
use Rattle.ns_types.specs.declared.resources.Resources.{Resources}
use Rattle.ns_types.specs.Settling.Gone.{gone_in, gone_row, rows_gone}
use Rattle.ns_types.specs.Working.Commit.{counts, quota_named, victim_key}
use Rattle.ns_types.specs.State.Names.{Name, Key, has_key, same_name, same_number}
use Rattle.ns_types.specs.State.Resources.{each_resource, minus, quantity}
use Rattle.ns_types.specs.State.Rows.{World, Tenant, is_live, is_live_on, allocation_at, node_at}
use Rattle.ns_types.specs.State.Sums.{node_load, node_sum, quota_sum, quota_use}
use Rattle.ns_types.specs.State.Tables.{map_rows}
use Rattle.ns_types.proofs.Named.{names, one_name, numbers, one_number}
use Rattle.ns_types.proofs.Tables.{get-map_rows}
use Rattle.ns_types.proofs.Once.{AllApart}
use Rattle.ns_types.proofs.Gone.{gone_all, node_apart, node_gone, parts_apart, quota_apart, quota_gone}
use Rattle.ns_types.proofs.Taken.{node_part, quota_part}

-- what the allocations at the keys take
abbrev pub node_parts : World → Name → Name → List Key → Resources
node_parts w pool node keys = each_resource (λ r. sum_by (node_part w pool node (quantity r)) keys)

abbrev pub quota_parts : World → Name → List Key → Resources
quota_parts w quota keys = each_resource (λ r. sum_by (quota_part w quota (quantity r)) keys)

-- ---- what stays where allocations go

module _ (g : Allocation → Allocation) (idle : (a : Allocation) → g (g a) ≡ g a) (w : World) where
  -- the same keys, in any order and any number of times
  pub gone_alike : (keys ks : List Key) → ((k : Key) → has_key keys k ≡ has_key ks k) → rows_gone g w keys ≡ rows_gone g w ks
  gone_alike keys ks same = gone_all g idle keys w
      ∙ (λ i. record w { tenants = map_rows (λ ns t. record t { allocations = map_rows (λ n a. cond (same (ns, n) i) (g a) a) t.allocations }) w.tenants })
      ∙ sym (gone_all g idle ks w)

  module _ (keys : List Key) where
    pub nodes_stay : (pool name : Name) → node_at (rows_gone g w keys) pool name ≡ node_at w pool name
    nodes_stay pool name = ap (λ x. node_at x pool name) (gone_all g idle keys w)

    pub quotas_stay : (rows_gone g w keys).quotas ≡ w.quotas
    quotas_stay = ap (λ x. x.quotas) (gone_all g idle keys w)

    pub named_stays : (ns : Name) → quota_named (rows_gone g w keys) ns ≡ quota_named w ns
    named_stays ns = ap (λ x. quota_named x ns) (gone_all g idle keys w)
        ∙ ap (option_and_then (λ t. t.namespace.quota)) (get-map_rows names one_name (gone_in g keys) w.tenants ns) ∙ by (get w.tenants ns)
      where
        by : (o : Option Tenant) → option_and_then (λ t. t.namespace.quota) (option_map (gone_in g keys ns) o) ≡ option_and_then (λ t. t.namespace.quota) o
        by None = refl
        by (Some t) = refl

    pub allocation_then : (k : Key) → allocation_at (rows_gone g w keys) k ≡ option_map (gone_row g keys k.0 k.1) (allocation_at w k)
    allocation_then k = ap (λ x. allocation_at x k) (gone_all g idle keys w)
        ∙ ap (option_and_then (λ t. get t.allocations k.1)) (get-map_rows names one_name (gone_in g keys) w.tenants k.0) ∙ by (get w.tenants k.0)
      where
        by : (o : Option Tenant) →
            option_and_then (λ t. get t.allocations k.1) (option_map (gone_in g keys k.0) o)
            ≡ option_map (gone_row g keys k.0 k.1) (option_and_then (λ t. get t.allocations k.1) o)
        by None = refl
        by (Some t) = get-map_rows numbers one_number (gone_row g keys k.0) t.allocations k.1

-- ---- loads

less_is : (a b c : ℕ) → a + b ≡ c → a ≡ c - b
less_is a b c e = omega (arith, e)

module _ (g : Allocation → Allocation) (ended : (a : Allocation) → is_live (g a) ≡ false) (w : World) (keys : List Key) (apart : AllApart keys) where
  pub load_less : (pool node : Name) → node_load (rows_gone g w keys) pool node ≡ minus (node_load w pool node) (node_parts w pool node keys)
  load_less pool node = λ i. each_resource (λ r. by (quantity r) i)
    where
      by : (amount : Resources → ℕ) → node_sum (rows_gone g w keys) pool node amount ≡ node_sum w pool node amount - sum_by (node_part w pool node amount) keys
      by amount = less_is _ _ _
          (ap (λ n. node_sum (rows_gone g w keys) pool node amount + n)
          (sym (parts_apart (λ w. node_part w pool node amount) g (node_apart pool node amount g) keys apart w))
          ∙ node_gone amount g ended pool node keys w)

  pub use_less : (quota : Name) → quota_use (rows_gone g w keys) quota ≡ minus (quota_use w quota) (quota_parts w quota keys)
  use_less quota = λ i. each_resource (λ r. by (quantity r) i)
    where
      by : (amount : Resources → ℕ) → quota_sum (rows_gone g w keys) quota amount ≡ quota_sum w quota amount - sum_by (quota_part w quota amount) keys
      by amount = less_is _ _ _
          (ap (λ n. quota_sum (rows_gone g w keys) quota amount + n)
          (sym (parts_apart (λ w. quota_part w quota amount) g (quota_apart quota amount g) keys apart w)) ∙ quota_gone amount g ended quota keys w)

-- ---- which evictions count then

module _ (g : Allocation → Allocation) (idle : (a : Allocation) → g (g a) ≡ g a) (ended : (a : Allocation) → is_live (g a) ≡ false)
    (w : World) (keys : List Key) where
  -- those that did, but for the allocations that went
  pub counts_left : (pool node : Name) (e : Eviction) →
      counts (rows_gone g w keys) pool node e ≡ (not (has_key keys (victim_key e)) && counts w pool node e)
  unfolding counts
  counts_left pool node e = ap (λ o. counted o) (allocation_then g idle w keys (victim_key e)) ∙ by (allocation_at w (victim_key e))
    where
      counted : Option Allocation → Bool
      counted o = option_map_or (λ x. is_live_on pool node x && same_number x.priority e.priority) o false

      none : (b : Bool) → false ≡ (not b && false)
      none true = refl
      none false = refl

      row : (x : Allocation) (b : Bool) → counted (Some (cond b (g x) x)) ≡ (not b && counted (Some x))
      row x true = ap (λ l. (l && (same_name pool (g x).pool && same_name node (g x).node)) && same_number (g x).priority e.priority) (ended x)
      row x false = refl

      by : (o : Option Allocation) → counted (option_map (gone_row g keys e.namespace e.number) o) ≡ (not (has_key keys (victim_key e)) && counted o)
      by None = none (has_key keys (victim_key e))
      by (Some x) = row x (has_key keys (victim_key e))
