-- What the rows at a node's keys take together is the node's load.
use Rattle.std.specs.Prelude.{◌≡◌, ℕ, Bool, false, cond, Option, Some, None, sum_by}
use Rattle.std.proofs.Common.{refl, sym, ap, subst, ◌∙◌}
use Rattle.std.specs.FinMap.{empty, entries, get, get-empty}
use Rattle.std.specs.Option.{option_and_then, option_map_or}
use Rattle.std.specs.Ordering.{nat_cmp}
use Rattle.keyed.specs.Levels.{holds_key, holds_number}
use Rattle.keyed.specs.declared.key_set.KeySet.{KeySet}
use Rattle.keyed.proofs.KeySums.{at_name, at_number, held_in, key_part, name_part, numbers_in, slot_part}
use Rattle.keyed.proofs.Levels.{says_nothing}
use Rattle.keyed.proofs.RowSums.{sums_alike}
use Rattle.ns_types.specs.declared.allocation.Allocation.{Allocation}
use Rattle.ns_types.specs.declared.resources.Resources.{Resources}
use Rattle.ns_types.specs.State.Names.{Name, Key, ByNumber}
use Rattle.ns_types.specs.State.Resources.{IsCounted, each_resource, quantity}
use Rattle.ns_types.specs.State.Rows.{World, Tenant, allocation_at, is_live_on}
use Rattle.ns_types.specs.State.Sums.{node_load, node_sum, tenant_sum}
use Rattle.ns_types.proofs.Named.{names, numbers, one_name, one_number}
use Rattle.ns_types.proofs.TableRows.{entries_empty}
use Rattle.ns_types.proofs.Amounts.{total_exact}
use Rattle.ns_live_index.specs.declared.live.Live.{Live}
use Rattle.ns_live_index.specs.Index.{IsRight}
use Rattle.ns_live_index.specs.Levels.{keys_at, load_at, no_keys}
use Rattle.ns_live_index.specs.Loads.{keys_amount, keys_use, size_amount}
use Rattle.ns_live_index.proofs.KeySums.{amount_is, no_use, weight}
use Rattle.ns_live_index.proofs.LoadLevels.{keys_hold}

module _ (w : World) (pool node : Name) (amount : Resources → ℕ) where
  abbrev live : Allocation → Bool
  live = is_live_on pool node

  abbrev counted : ℕ → Allocation → ℕ
  counted n row = cond (live row) (amount row.size) 0

  abbrev row_of : Key → Option Allocation
  row_of = allocation_at w

  abbrev lives_at : Key → Bool
  lives_at key = option_map_or live (row_of key) false

  -- ---- a namespace's rows, of which it has none where it is not there

  abbrev rows_in : Name → ByNumber Allocation
  rows_in ns = option_map_or (λ (t : Tenant). t.allocations) (get w.tenants ns) empty

  row_in : (ns : Name) (n : ℕ) → get (rows_in ns) n ≡ row_of (ns, n)
  row_in ns n = by (get w.tenants ns)
    where
      by : (r : Option Tenant) → get (option_map_or (λ (t : Tenant). t.allocations) r empty) n ≡ option_and_then (λ (t : Tenant). get t.allocations n) r
      by None = get-empty nat_cmp n
      by (Some t) = refl

  sum_in : (ns : Name) → option_map_or (λ t. tenant_sum live amount t) (get w.tenants ns) 0 ≡ sum_by (λ e. counted e.0 e.1) (entries (rows_in ns))
  sum_in ns = by (get w.tenants ns)
    where
      by : (r : Option Tenant) → option_map_or (λ t. tenant_sum live amount t) r 0
          ≡ sum_by (λ e. counted e.0 e.1) (entries (option_map_or (λ (t : Tenant). t.allocations) r empty))
      by None = sym (ap (sum_by (λ (e : ℕ × Allocation). counted e.0 e.1)) (entries_empty numbers one_number))
      by (Some t) = refl

  -- ---- by the keys that are held

  module _ (keys : KeySet) (right : (key : Key) → holds_key keys key ≡ lives_at key) where
    counted_at : (ns : Name) (n : ℕ) → option_map_or (counted n) (row_of (ns, n)) 0 ≡ key_part (weight row_of amount) keys (ns, n)
    counted_at ns n = by (row_of (ns, n)) ∙ ap (λ b. cond b (size_amount amount (row_of (ns, n))) 0) (sym (right (ns, n)))
      where
        by : (r : Option Allocation) → option_map_or (counted n) r 0 ≡ cond (option_map_or live r false) (size_amount amount r) 0
        by None = refl
        by (Some row) = refl

    in_namespace : (ns : Name) → option_map_or (λ t. tenant_sum live amount t) (get w.tenants ns) 0
        ≡ option_map_or (name_part (weight row_of amount) ns) (get keys.numbers ns) 0
    in_namespace ns = sum_in ns ∙ sums_alike numbers one_number counted (slot_part (weight row_of amount) ns) (rows_in ns) (numbers_in keys ns)
        (λ n. ap (λ r. option_map_or (counted n) r 0) (row_in ns n) ∙ counted_at ns n ∙ sym (held_in (weight row_of amount) keys ns n)
        ∙ sym (at_number (weight row_of amount) ns (numbers_in keys ns) n))
        ∙ sym (at_name (weight row_of amount) keys ns)

    pub loaded : node_sum w pool node amount ≡ keys_amount row_of keys amount
    unfolding node_sum
    loaded = sums_alike names one_name (λ _ t. tenant_sum live amount t) (name_part (weight row_of amount)) w.tenants keys.numbers in_namespace
        ∙ sym (amount_is row_of amount keys)

  -- where nothing is live
  pub nothing_there : ((key : Key) → lives_at key ≡ false) → node_sum w pool node amount ≡ 0
  nothing_there none = loaded no_keys (λ key. says_nothing (λ (s : KeySet). s.numbers) holds_number no_keys refl key ∙ sym (none key))
      ∙ no_use row_of amount

-- ---- all resources

module _ (w : World) (pool node : Name) where
  pub load_is : (keys : KeySet) → ((key : Key) → holds_key keys key ≡ option_map_or (is_live_on pool node) (allocation_at w key) false) →
      node_load w pool node ≡ keys_use (allocation_at w) keys
  load_is keys right = λ i. each_resource (λ r. loaded w pool node (quantity r) keys right i)

  -- the load that is kept is the node's, where that fits
  pub kept_load : (live : Live) → IsRight w live → IsCounted (node_load w pool node) → load_at live pool node ≡ node_load w pool node
  kept_load live right fits =
      let is = load_is (keys_at live pool node) (λ key. keys_hold live pool node key ∙ right.index.keys pool node key) in
      total_exact _ _ (right.index.loads pool node) (subst IsCounted is fits) ∙ sym is
