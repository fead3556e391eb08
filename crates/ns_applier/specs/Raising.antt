-- What a step gives to each namespace and node, and when that passes the bound of a counter: by the state before it.
use Rattle.std.specs.Prelude.{◌≡◌, ℕ, ◌+◌, Bool, false, ◌&&◌, ◌||◌, List, Some, nat_lt, option_map}
use Rattle.std.specs.List.{list_any}
use Rattle.std.specs.FinMap.{get}
use Rattle.ns_types.specs.declared.node.Node.{Node}
use Rattle.ns_types.specs.Settling.Settle.{is_touched, settle}
use Rattle.ns_types.specs.State.Names.{Name, Key}
use Rattle.ns_types.specs.State.Rows.{World, Tenant, node_at}
use Rattle.ns_types.specs.State.Tables.{any_row}
use Rattle.ns_types.specs.Steps.{greatest, is_past_bound}
use Rattle.ns_counters.specs.Bounds.{is_at_bound}
use Rattle.ns_applier.specs.Passing.{end_passes}
use Rattle.ns_applier.specs.Releasing.{EndsAlone}

-- what the step gives to a namespace
pub record Raise : Type 0 where
  pub evaluations : ℕ
  pub allocations : ℕ
  -- a row of the namespace is new, or shown differently than before
  pub touched : Bool

pub record IsRaised (raise : Raise) (old new : Tenant) : Type 0 where
  pub evaluations : new.evaluation_number ≡ old.evaluation_number + raise.evaluations
  pub allocations : new.allocation_number ≡ old.allocation_number + raise.allocations
  pub touched : is_touched old new ≡ raise.touched

abbrev pub with_places : ℕ → Node → Node
with_places count node = record node { places = node.places + count }

-- the step leads from w to x: each namespace gets what `raise` says, and each node as many places as `places` says and nothing
-- else
pub record Raises (w x : World) (raise : Name → Raise) (places : Name → Name → ℕ) : Type 0 where
  pub tenants : (ns : Name) (t u : Tenant) → get w.tenants ns ≡ Some t → get x.tenants ns ≡ Some u →
      IsRaised (raise ns) t u
  pub nodes : (pool name : Name) →
      node_at x pool name ≡ option_map (with_places (places pool name)) (node_at w pool name)

-- ---- counters

-- one of the namespace's numbers, or its index, passes its bound
abbrev pub raise_passes : Raise → Tenant → Bool
raise_passes raise t = nat_lt greatest (t.evaluation_number + raise.evaluations)
    || nat_lt greatest (t.allocation_number + raise.allocations) || (is_at_bound t.index && raise.touched)

abbrev pub raises_pass : World → (Name → Raise) → Bool
raises_pass w raise = any_row (λ ns t. raise_passes (raise ns) t) w.tenants

abbrev pub places_pass : World → (Name → Name → ℕ) → Bool
places_pass w places =
    any_row (λ pool p. any_row (λ name node. nat_lt greatest (node.places + places pool name)) p.nodes) w.pools

-- one of these counters passes its bound, or one does by what an allocation that ends releases
abbrev pub counted_passes : World → List Key → (Name → Raise) → (Name → Name → ℕ) → Bool
counted_passes w keys raise places =
    raises_pass w raise || places_pass w places || list_any (end_passes w w) keys

-- the law: a step that gives these, and ends the allocations at the keys, passes a bound exactly if one of these counters does
abbrev pub PassesByCounts : Type 0
PassesByCounts = (w x : World) (keys : List Key) (raise : Name → Raise) (places : Name → Name → ℕ)
    → is_past_bound w ≡ false → EndsAlone w x keys → Raises w x raise places
    → is_past_bound (settle w x) ≡ counted_passes w keys raise places
