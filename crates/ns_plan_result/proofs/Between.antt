-- What the parts of an Apply leave of each other's premises.
use Rattle.std.specs.Prelude.{◌≡◌, ℕ, ◌+◌, ◌<◌, ◌^◌, Bool, true, false, cond, List, [], ◌∷◌, Option, Some, None, fold, option_map}
use Rattle.std.proofs.Common.{refl, sym, ap, subst, ◌∙◌}
use Rattle.std.specs.FinMap.{get, get-insert, insert}
use Rattle.std.specs.Option.{option_and_then, option_map_or}
use Rattle.ns_types.specs.declared.allocation.Allocation.{Allocation}
use Rattle.ns_types.specs.declared.allocation.DesiredStatus.{DesiredStatus}
use Rattle.ns_types.specs.declared.allocation.DesiredStatus.TheVariants as desires
use Rattle.ns_types.specs.declared.job.Job.{Job}
use Rattle.ns_types.specs.declared.node.Node.{Node}
use Rattle.ns_types.specs.declared.plan.Eviction.{Eviction}
use Rattle.ns_types.specs.declared.plan.Placement.{Placement}
use Rattle.ns_types.specs.declared.snapshot.Snapshot.{Snapshot}
use Rattle.ns_types.specs.Settling.Making.{change_tenant, put_tenant, with_desired}
use Rattle.ns_types.specs.State.Names.{ByName, ByNumber, Name, same_name}
use Rattle.ns_types.specs.State.Rows.{PoolRows, Tenant, World, node_at}
use Rattle.ns_types.specs.Working.Commit.{evict, evict_all, new_allocation, node_name, place_all, place_one, stop_all}
use Rattle.ns_types.specs.Working.Commit.{with_allocation, with_place}
use Rattle.ns_types.proofs.Named.{names, one_name}
use Rattle.ns_types.proofs.Tables.{tied}
use Rattle.ns_types.proofs.Tests.{not_Some, same_Some}
use Rattle.ns_plan_result.specs.Placing.{CanPlace}
use Rattle.ns_plan_result.proofs.Placements.{one_placed, placed_nowhere, none_placed, pools_stay}
use Rattle.ns_change.proofs.Nothing.{pool_alone}

-- ---- what a namespace has besides its allocations

module _ {X : Type 0} (part : Tenant → X) where
  abbrev pub part_at : World → Name → Option X
  part_at w ns = option_map part (get w.tenants ns)

  part_stays : (f : Tenant → Tenant) → ((t : Tenant) → part (f t) ≡ part t) → (of : Name) (w : World) (ns : Name) →
      part_at (change_tenant of f w) ns ≡ part_at w ns
  part_stays f keeps of w ns = by (get w.tenants of) refl
    where
      there : (t : Tenant) → get w.tenants of ≡ Some t → (b : Bool) → same_name ns of ≡ b →
          option_map part (cond b (Some (f t)) (get w.tenants ns)) ≡ option_map part (get w.tenants ns)
      there t at true same = ap Some (keeps t) ∙ ap (option_map part) (sym (ap (get w.tenants) (tied one_name ns of same) ∙ at))
      there t at false other = refl

      by : (o : Option Tenant) → get w.tenants of ≡ o →
          option_map part (get (option_map_or (λ t. put_tenant of (f t) w) o w).tenants ns) ≡ option_map part (get w.tenants ns)
      by None at = refl
      by (Some t) at = ap (option_map part) (get-insert names w.tenants of (f t) ns) ∙ there t at (same_name ns of) refl

  module _ (rows : (t : Tenant) (m : ByNumber Allocation) → part (record t { allocations = m }) ≡ part t) where
    desired_stays : (n : ℕ) (d : DesiredStatus) (t : Tenant) → part (with_desired n d t) ≡ part t
    desired_stays n d t = elim (get t.allocations n) as (λ o. part (option_map_or
        (λ a. record t { allocations = insert t.allocations n (record a { desired = d }) }) o t) ≡ part t) [
          | None ↦ refl
          | Some a ↦ rows t (insert t.allocations n (record a { desired = d }))
        ]

    stops_stay : (stops : List ℕ) (t : Tenant) → part (fold (λ t n. with_desired n desires.Stop t) t stops) ≡ part t
    stops_stay [] t = refl
    stops_stay (n ∷ stops) t = stops_stay stops (with_desired n desires.Stop t) ∙ desired_stays n desires.Stop t

    pub stopped_keeps : (of : Name) (stops : List ℕ) (w : World) (ns : Name) → part_at (stop_all of stops w) ns ≡ part_at w ns
    stopped_keeps of stops w ns = part_stays (λ t. fold (λ t n. with_desired n desires.Stop t) t stops) (stops_stay stops) of w ns

    pub evicted_keeps : (victims : List Eviction) (w : World) (ns : Name) → part_at (evict_all w victims) ns ≡ part_at w ns
    evicted_keeps [] w ns = refl
    evicted_keeps (e ∷ victims) w ns = evicted_keeps victims (evict w e) ns
        ∙ part_stays (with_desired e.number desires.Evict) (desired_stays e.number desires.Evict) e.namespace w ns

  module _ (rows : (t : Tenant) (m : ByNumber Allocation) (n : ℕ) → part (record t { allocation_number = n; allocations = m }) ≡ part t) where
    one_keeps : (kept : Snapshot) (p : Placement) (w : World) (job : Job) → kept.job ≡ Some job → (ns : Name) →
        part_at (place_one kept w p) ns ≡ part_at w ns
    one_keeps kept p w job at ns = by (node_at w kept.pool (node_name kept p.node)) refl
      where
        by : (o : Option Node) → node_at w kept.pool (node_name kept p.node) ≡ o → part_at (place_one kept w p) ns ≡ part_at w ns
        by None is = ap (λ x. part_at x ns) (sym (placed_nowhere kept p w is job at))
        by (Some node) is = ap (λ x. part_at x ns) (one_placed kept p w job at node is)
            ∙ ap (λ m. option_map part (get m ns)) (pool_alone kept.pool (with_place (node_name kept p.node) node)
            (change_tenant kept.namespace (with_allocation (new_allocation kept job p node)) w))
            ∙ part_stays (with_allocation (new_allocation kept job p node))
            (λ t. rows t (insert t.allocations (t.allocation_number + 1) (new_allocation kept job p node)) (t.allocation_number + 1)) kept.namespace w ns

    all_keep : (kept : Snapshot) (job : Job) → kept.job ≡ Some job → (ps : List Placement) (w : World) (ns : Name) →
        part_at (place_all kept w ps) ns ≡ part_at w ns
    all_keep kept job at [] w ns = refl
    all_keep kept job at (p ∷ ps) w ns = all_keep kept job at ps (place_one kept w p) ns ∙ one_keeps kept p w job at ns

    pub placed_keeps : (kept : Snapshot) (ps : List Placement) (w : World) (ns : Name) → part_at (place_all kept w ps) ns ≡ part_at w ns
    placed_keeps kept ps w ns = by kept.job refl
      where
        by : (o : Option Job) → kept.job ≡ o → part_at (place_all kept w ps) ns ≡ part_at w ns
        by None at = ap (λ x. part_at x ns) (sym (none_placed kept at ps w))
        by (Some job) at = all_keep kept job at ps w ns

-- a number that was left is left still
pub still_below : (number : Tenant → ℕ) (w x : World) (ns : Name) → part_at number x ns ≡ part_at number w ns → (more : ℕ) →
    ((t : Tenant) → get w.tenants ns ≡ Some t → number t + more < 2 ^ 64) → (t : Tenant) → get x.tenants ns ≡ Some t → number t + more < 2 ^ 64
still_below number w x ns same more left t is = by (get w.tenants ns) refl (sym same ∙ ap (option_map number) is)
  where
    by : (o : Option Tenant) → get w.tenants ns ≡ o → option_map number o ≡ Some (number t) → number t + more < 2 ^ 64
    by None at e = absurd (not_Some (number t) e)
    by (Some u) at e = subst (λ n. n + more < 2 ^ 64) (same_Some _ _ e) (left u at)

-- ---- pools

pub pools_then : (victims : List Eviction) (w : World) → (evict_all w victims).pools ≡ w.pools
pools_then [] w = refl
pools_then (e ∷ victims) w = pools_then victims (evict w e) ∙ pools_stay e.namespace (with_desired e.number desires.Evict) w

-- stops and evictions take no number and no place
pub can_still : (kept : Snapshot) (placed : List Placement) (of : Name) (stops : List ℕ) (victims : List Eviction) (w : World) →
    CanPlace kept placed w → CanPlace kept placed (evict_all (stop_all of stops w) victims)
can_still kept placed of stops victims w can = record {
  numbers = still_below (λ t. t.allocation_number) w (evict_all stopped victims) kept.namespace
      (evicted_keeps (λ t. t.allocation_number) (λ t m. refl) victims stopped kept.namespace
      ∙ stopped_keeps (λ t. t.allocation_number) (λ t m. refl) of stops w kept.namespace) _ can.numbers;
  places = λ name node is. can.places name node (ap (λ (m : ByName PoolRows). option_and_then (λ (p : PoolRows). get p.nodes name) (get m kept.pool))
      (sym (pools_then victims stopped ∙ pools_stay of _ w)) ∙ is);
}
  where
    stopped : World
    stopped = stop_all of stops w
