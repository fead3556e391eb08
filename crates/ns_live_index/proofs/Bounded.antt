-- Which loads fit 64 bits.
use Rattle.std.specs.Prelude.{◌≡◌, ◌<◌, ◌^◌, Bool, true, false, IsTrue, Option, Some, None, is_some}
use Rattle.std.proofs.Common.{refl, sym, ap, arith, subst, ◌∙◌}
use Rattle.std.specs.FinMap.{get}
use Rattle.std.specs.Option.{option_and_then, option_map_or}
use Rattle.ns_types.specs.declared.allocation.Allocation.{Allocation}
use Rattle.ns_types.specs.declared.node.Node.{Node}
use Rattle.ns_types.specs.declared.resources.Resources.{Resources}
use Rattle.ns_types.specs.State.Limits.{is_amount}
use Rattle.ns_types.specs.State.Names.{Name, Key, same_name}
use Rattle.ns_types.specs.State.Resources.{IsCounted, is_within, quantity}
use Rattle.ns_types.specs.State.Rows.{World, Tenant, PoolRows, allocation_at, is_live, is_live_on, node_at}
use Rattle.ns_types.specs.State.Sums.{node_load, node_sum}
use Rattle.ns_types.specs.Validity.{IsSound}
use Rattle.ns_types.proofs.Amounts.{every, within_at}
use Rattle.ns_types.proofs.LiveSums.{most_at}
use Rattle.ns_types.proofs.Named.{first_of_both, same_name_is, second_of_both}
use Rattle.ns_types.proofs.Tests.{not_Some}
use Rattle.ns_live_index.specs.Loads.{IsWithinNodes}
use Rattle.keyed.proofs.Levels.{not_true}
use Rattle.ns_live_index.proofs.Loaded.{nothing_there}

below : (load most : Resources) → IsTrue (is_within load most) → IsTrue (is_amount most) → IsCounted load
below load most h k = every (λ r. quantity r load < 2 ^ 64) (λ r.
    let less = within_at load most h r in
    let few = most_at most k r in
    omega (arith, less, few))

module _ (w : World) (good : IsWithinNodes w) (pool node : Name) where
  nowhere : node_at w pool node ≡ None → (key : Key) → option_map_or (is_live_on pool node) (allocation_at w key) false ≡ false
  nowhere none key = by (allocation_at w key) refl
    where
      on : (row : Allocation) → allocation_at w key ≡ Some row → (b : Bool) → is_live_on pool node row ≡ b → b ≡ false
      on row at false t = refl
      on row at true t =
          let own = second_of_both (is_live row) _ t in
          let there : node_at w pool node ≡ node_at w row.pool row.node =
          (λ i. node_at w (same_name_is pool row.pool (first_of_both _ _ own) i) (same_name_is node row.node
          (second_of_both (same_name pool row.pool) _ own) i)) in
          not_true (subst (λ r. IsTrue (is_some r)) (sym there ∙ none) (good.placed key row at (first_of_both _ _ t)))

      by : (r : Option Allocation) → allocation_at w key ≡ r → option_map_or (is_live_on pool node) r false ≡ false
      by None at = refl
      by (Some row) at = on row at (is_live_on pool node row) refl

  pub load_counted : IsCounted (node_load w pool node)
  load_counted = by (node_at w pool node) refl
    where
      by : (r : Option Node) → node_at w pool node ≡ r → IsCounted (node_load w pool node)
      by None at =
          every (λ r. node_sum w pool node (quantity r) < 2 ^ 64) (λ r.
          let nothing = nothing_there w pool node (quantity r) (nowhere at) in
          omega (arith, nothing))
      by (Some row) at = below (node_load w pool node) row.offer.capacity (good.within pool node row at) (good.offers pool node row at)

pub sound_within : (w : World) → IsSound w → IsWithinNodes w
sound_within w sound = record { placed = placed; within = within; offers = offers }
  where
    placed : (key : Key) (row : Allocation) → allocation_at w key ≡ Some row → is_live row ≡ true → IsTrue (is_some (node_at w row.pool row.node))
    placed key row at lives = by (get w.tenants key.0) refl at
      where
        by : (r : Option Tenant) → get w.tenants key.0 ≡ r → option_and_then (λ t. get t.allocations key.1) r ≡ Some row →
            IsTrue (is_some (node_at w row.pool row.node))
        by None is at = absurd (not_Some row at)
        by (Some t) is at = ap is_some (((sound.tenant key.0 t is).allocation key.1 row at).placed lives).there

    within : (pool name : Name) (node : Node) → node_at w pool name ≡ Some node → IsTrue (is_within (node_load w pool name) node.offer.capacity)
    within pool name node at = by (get w.pools pool) refl at
      where
        by : (r : Option PoolRows) → get w.pools pool ≡ r → option_and_then (λ p. get p.nodes name) r ≡ Some node →
            IsTrue (is_within (node_load w pool name) node.offer.capacity)
        by None is at = absurd (not_Some node at)
        by (Some p) is at = ((sound.pool pool p is).node name node at).within

    offers : (pool name : Name) (node : Node) → node_at w pool name ≡ Some node → IsTrue (is_amount node.offer.capacity)
    offers pool name node at = by (get w.pools pool) refl at
      where
        by : (r : Option PoolRows) → get w.pools pool ≡ r → option_and_then (λ p. get p.nodes name) r ≡ Some node → IsTrue (is_amount node.offer.capacity)
        by None is at = absurd (not_Some node at)
        by (Some p) is at = second_of_both _ _ ((sound.pool pool p is).node name node at).good
