-- The victims of a plan were live before it is applied.
use Rattle.std.specs.Prelude.{◌≡◌, ℕ, Bool, true, false, cond, T, ◌&&◌, List, Option, Some, None, filter, map, option_map}
use Rattle.std.proofs.Common.{refl, sym, ap, subst, ◌∙◌}
use Rattle.std.specs.FinMap.{get}
use Rattle.std.specs.Option.{option_and_then, option_map_or}
use Rattle.ns_types.specs.declared.allocation.Allocation.{Allocation}
use Rattle.ns_types.specs.declared.plan.Eviction.{Eviction}
use Rattle.ns_types.specs.declared.plan.Placement.{Placement}
use Rattle.ns_types.specs.declared.snapshot.Snapshot.{Snapshot}
use Rattle.ns_types.specs.Settling.Making.{least}
use Rattle.ns_types.specs.State.Lists.{Each}
use Rattle.ns_types.specs.State.Names.{Key, Name, has_key, same_name, same_number}
use Rattle.ns_types.specs.State.Rows.{Tenant, World, allocation_at, is_live, is_live_on}
use Rattle.ns_types.specs.Validity.{IsLiveAt}
use Rattle.ns_types.specs.Working.Commit.{Victim, counts, evicted_rows, least_of_job, node_name, same_victim_job, stop_all}
use Rattle.ns_types.specs.Working.Commit.{victim_at, victim_key, victims_in, victims_of}
use Rattle.ns_types.proofs.Elements.{each_mapped}
use Rattle.ns_types.proofs.Gone.{stopped_are, stopped_row}
use Rattle.ns_types.proofs.Less.{allocation_then}
use Rattle.ns_types.proofs.Lists.{not_both}
use Rattle.ns_types.proofs.Named.{first_of_both, same_name_is, second_of_both}
use Rattle.ns_types.proofs.Tests.{not_Some, same_Some}
use Rattle.ns_audit.proofs.Steady.Apply.{least_is}
use Rattle.ns_laws.proofs.Elements.{Has, each_from_has, has_filter, has_filter_map, has_flat}

-- an eviction that counts is of an allocation that is live on the node
pub counted_on : (x : World) (pool node : Name) (e : Eviction) → counts x pool node e ≡ true →
    (a : Allocation) × (allocation_at x (victim_key e) ≡ Some a) × (is_live_on pool node a ≡ true)
unfolding counts
counted_on x pool node e h = by (allocation_at x (victim_key e)) refl h
  where
    by : (o : Option Allocation) → allocation_at x (victim_key e) ≡ o →
        option_map_or (λ a. is_live_on pool node a && same_number a.priority e.priority) o false ≡ true →
        (a : Allocation) × (allocation_at x (victim_key e) ≡ Some a) × (is_live_on pool node a ≡ true)
    by None at h = absurd (subst T (sym h) tt)
    by (Some a) at h = (a, at, first_of_both (is_live_on pool node a) _ h)

pub pool_of_live : (pool node : Name) (a : Allocation) → is_live_on pool node a ≡ true → a.pool ≡ pool
pool_of_live pool node a on = sym (same_name_is pool a.pool (first_of_both (same_name pool a.pool) _ (second_of_both (is_live a) _ on)))

pub row_in : (w : World) (ns k : Name) (t : Tenant) (n : ℕ) (a : Allocation) → get w.tenants ns ≡ Some t → k ≡ ns → allocation_at w (k, n) ≡ Some a →
    get t.allocations n ≡ Some a
row_in w ns k t n a is same at = sym (ap (option_and_then (λ (t : Tenant). get t.allocations n)) (ap (get w.tenants) same ∙ is)) ∙ at

module _ (w : World) (ns : Name) (live : List ℕ) where
  abbrev stopped : World
  stopped = stop_all ns live w

  -- what is live once the stops are made was live before
  pub was_live : (key : Key) (a : Allocation) → allocation_at stopped key ≡ Some a → is_live a ≡ true → IsLiveAt w key a
  was_live key a at lives = by (allocation_at w key) refl (has_key stop_keys key) refl
    where
      stop_keys : List Key
      stop_keys = map (λ n. (ns, n)) live

      after_stops : (o : Option Allocation) → allocation_at w key ≡ o → (b : Bool) → has_key stop_keys key ≡ b →
          option_map (λ a. cond b (stopped_row a) a) o ≡ Some a
      after_stops o was b e = (λ i. option_map (λ a. cond (sym e i) (stopped_row a) a) (sym was i))
          ∙ sym (ap (λ x. allocation_at x key) (stopped_are ns live w) ∙ allocation_then stopped_row (λ a. refl) w stop_keys key) ∙ at

      by : (o : Option Allocation) → allocation_at w key ≡ o → (b : Bool) → has_key stop_keys key ≡ b → IsLiveAt w key a
      by None was b e = absurd (not_Some a (after_stops None was b e))
      by (Some a0) was true e = not_both lives (ap is_live (sym (same_Some (stopped_row a0) a (after_stops (Some a0) was true e))))
      by (Some a0) was false e = (was ∙ after_stops (Some a0) was false e, lives)

  module _ (kept : Snapshot) (placed : List Placement) where
    abbrev victims : List Victim
    victims = evicted_rows stopped kept placed

    -- the allocation was live in the namespace, in the plan's pool
    abbrev Lived : Name → Allocation → Type 0
    Lived k a = (n : ℕ) × IsLiveAt w (k, n) a × (a.pool ≡ kept.pool)

    victim_lived : (v : Victim) → Has victims v → Lived v.0 v.1.1
    victim_lived v among =
        let e = has_filter_map (victim_at stopped) (victims_of stopped kept placed) v among in
        let p = has_flat (victims_in stopped kept) e.0 placed e.1 in
        let r = has_filter (counts stopped kept.pool (node_name kept p.0.node)) p.0.evictions e.0 p.2 in
        let l = counted_on stopped kept.pool (node_name kept p.0.node) e.0 r.1 in
        subst (λ (v : Victim). Lived v.0 v.1.1) {x = (e.0.namespace, (e.0.number, l.0))}
        (same_Some (e.0.namespace, (e.0.number, l.0)) v (sym (ap (option_map (λ a. (e.0.namespace, (e.0.number, a)))) l.1) ∙ e.2)) (
          e.0.number,
          was_live (victim_key e.0) l.0 l.1 (first_of_both (is_live l.0) _ l.2),
          pool_of_live kept.pool (node_name kept p.0.node) l.0 l.2,
        )

    pub least_lived : (v : Victim) → Has victims v → Lived v.0 (least_of_job victims v)
    least_lived v among = by (least (map (λ x. x.1) (filter (same_victim_job v) victims))) refl
      where
        each_lived : Each (λ (e : ℕ × Allocation). Lived v.0 e.1) (map (λ (x : Victim). x.1) (filter (same_victim_job v) victims))
        each_lived = each_mapped (λ (e : ℕ × Allocation). Lived v.0 e.1) (λ (x : Victim). x.1) (filter (same_victim_job v) victims)
            (each_from_has (λ (x : Victim). Lived v.0 x.1.1) (filter (same_victim_job v) victims) (λ x h.
            let f = has_filter (same_victim_job v) victims x h in
            subst (λ k. Lived k x.1.1) (sym (same_name_is v.0 x.0 (first_of_both (same_name v.0 x.0) _ f.1))) (victim_lived x f.0)))

        by : (o : Option Allocation) → least (map (λ x. x.1) (filter (same_victim_job v) victims)) ≡ o → Lived v.0 (option_map_or (λ a. a) o v.1.1)
        by None is = victim_lived v among
        by (Some a) is = least_is (Lived v.0) (map (λ x. x.1) (filter (same_victim_job v) victims)) each_lived a is
