-- The parts of an Apply, one after another, are what the model does of a plan that stands.
use Rattle.std.specs.Prelude.{◌≡◌, ℕ, ◌+◌, ◌<◌, ◌^◌, List, Some}
use Rattle.std.proofs.Common.{refl, sym, ap, subst, ◌∙◌}
use Rattle.std.specs.FinMap.{get}
use Rattle.std.specs.List.{filter_map}
use Rattle.ns_types.specs.declared.allocation.Allocation.{Allocation}
use Rattle.ns_types.specs.declared.plan.Eviction.{Eviction}
use Rattle.ns_types.specs.declared.plan.Placement.{Placement}
use Rattle.ns_types.specs.declared.plan.Plan.{Plan}
use Rattle.ns_types.specs.declared.snapshot.Snapshot.{Snapshot}
use Rattle.ns_types.specs.State.Names.{ByNumber, Name}
use Rattle.ns_types.specs.State.Rows.{Tenant, World}
use Rattle.ns_types.specs.Working.Commit.{Victim, done, evict_all, live_stops, make_up, nodes_in, place_all, victim_at, victims_of}
use Rattle.ns_renewal.specs.Losing.{CanMakeUp, losing_in}
use Rattle.ns_renewal.specs.Renewing.{SameJobs}
use Rattle.ns_renewal.proofs.Stopped.{rows_before}
use Rattle.ns_plan_result.specs.Placing.{CanPlace}
use Rattle.ns_plan_result.specs.Whole.{CanWrite, IsCleared}
use Rattle.ns_types.specs.Working.Parts.{placed_on, stopped}
use Rattle.ns_plan_result.specs.Writing.{evict_victims}
use Rattle.ns_plan_result.proofs.Between.{can_still, evicted_keeps, placed_keeps, part_at, still_below, stopped_keeps}
use Rattle.ns_plan_result.proofs.NodeByNode.{evicting_is_deciding}

module _ (kept : Snapshot) (p : Plan) (w : World) (t : Tenant) (nodes : List ℕ) (can : CanWrite kept p w t nodes)
    (victims : List Eviction) (x : World) (cleared : IsCleared kept p w t nodes victims x) where
  abbrev ps : List Placement
  ps = p.placing.placements

  abbrev placed : List Placement
  placed = placed_on nodes ps

  abbrev then : World
  then = place_all kept x placed

  pub place_still : CanPlace kept placed x
  place_still = subst (CanPlace kept placed) (sym cleared.world_is) (can_still kept placed kept.namespace (live_stops t p.stops) victims w can.place)

  module _ {X : Type 0} (part : Tenant → X) (rows : (t : Tenant) (m : ByNumber Allocation) (n : ℕ) →
      part (record t { allocation_number = n; allocations = m }) ≡ part t) where
    part_stays : (ns : Name) → part_at part then ns ≡ part_at part w ns
    part_stays ns = placed_keeps part rows kept placed x ns ∙ ap (λ x. part_at part x ns) cleared.world_is
        ∙ evicted_keeps part (λ t m. rows t m t.allocation_number) victims (stopped kept p w t) ns
        ∙ stopped_keeps part (λ t m. rows t m t.allocation_number) kept.namespace (live_stops t p.stops) w ns

  pub jobs_stay : SameJobs w then
  jobs_stay ns = part_stays (λ t. t.jobs) (λ t m n. refl) ns

  rows_are : filter_map (victim_at w) victims ≡ filter_map (victim_at (stopped kept p w t)) (victims_of (stopped kept p w t) kept placed)
  rows_are = ap (filter_map (victim_at w)) cleared.victims_are ∙ sym (rows_before w kept.namespace (live_stops t p.stops) kept placed)

  pub make_up_still : CanMakeUp (filter_map (victim_at w) victims) then
  make_up_still ns = still_below (λ t. t.evaluation_number) w then ns (part_stays (λ t. t.evaluation_number) (λ t m n. refl) ns)
      (losing_in ns (filter_map (victim_at w) victims))
      (subst (λ (rows : List Victim). (t : Tenant) → get w.tenants ns ≡ Some t → t.evaluation_number + losing_in ns rows < 2 ^ 64)
      (sym rows_are) (can.make_up ns))

  pub written : make_up (filter_map (victim_at w) victims) then ≡ (done kept p w t).world
  written = (λ i. make_up (rows_are i) (place_all kept ((cleared.world_is ∙ ap (evict_all (stopped kept p w t)) cleared.victims_are) i) placed))
      ∙ (λ i. make_up (filter_map (victim_at (stopped kept p w t)) (victims_of (stopped kept p w t) kept (placed_on (can.committed i) ps)))
      (place_all kept (evict_victims kept (placed_on (can.committed i) ps) (stopped kept p w t)) (placed_on (can.committed i) ps)))
      ∙ ap (λ x. make_up (filter_map (victim_at (stopped kept p w t)) (victims_of (stopped kept p w t) kept (placed_on (done kept p w t).checked.committed ps)))
      (place_all kept x (placed_on (done kept p w t).checked.committed ps))) (sym (evicting_is_deciding kept ps (stopped kept p w t) (nodes_in ps)))
