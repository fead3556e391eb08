-- Apply: stops and evictions leave allocations with their clients, and what is placed is live.
use Rattle.std.specs.Prelude.{◌≡◌, ℕ, ◌+◌, true, false, cond, List, [], ◌∷◌, Option, Some, None, ◌&&◌, fold}
use Rattle.std.proofs.Common.{◌⊎◌, inl, inr, refl, sym, ap}
use Rattle.std.specs.FinMap.{get}
use Rattle.std.specs.Option.{option_map_or}
use Rattle.ns_types.specs.declared.allocation.DesiredStatus.TheVariants as DesiredStatus
use Rattle.ns_types.specs.declared.evaluation.Evaluation.{Evaluation}
use Rattle.ns_types.specs.declared.evaluation.Trigger.TheVariants as Trigger
use Rattle.ns_types.specs.declared.job.Job.{Job}
use Rattle.ns_types.specs.declared.node.Node.{Node}
use Rattle.ns_types.specs.declared.plan.Eviction.{Eviction}
use Rattle.ns_types.specs.declared.plan.Placement.{Placement}
use Rattle.ns_types.specs.declared.plan.Plan.{Plan}
use Rattle.ns_types.specs.declared.snapshot.Snapshot.{Snapshot}
use Rattle.ns_types.specs.Placing.Plan.{plan}
use Rattle.ns_types.specs.Settling.Making.{change_tenant, put_pool, with_desired, evaluation_for, make}
use Rattle.ns_types.specs.Settling.Outcome.{NotEnabled}
use Rattle.ns_types.specs.State.Lists.{first_each}
use Rattle.ns_types.specs.State.Names.{Name}
use Rattle.ns_types.specs.State.Rows.{World, Tenant, PoolRows, is_live, node_at}
use Rattle.ns_types.specs.Working.Commit.{still_stands, live_stops, stop_all, node_name, nodes_in, evict, evict_all, Commit, begun, decide, new_allocation}
use Rattle.ns_types.specs.Working.Commit.{with_allocation, with_place, place_with, place_one, committed_placements, place_all, evicted_rows, Victim}
use Rattle.ns_types.specs.Working.Commit.{same_victim_job, least_of_job, make_up, Applied, refused_whole, done, commit, applied_worker, applied}
use Rattle.ns_types.specs.Working.Commit.{apply_for, apply}
use Rattle.ns_types.specs.Working.Queue.{is_served}
use Rattle.ns_types.specs.Working.Work.{with_worker, is_submitted}
use Rattle.ns_types.specs.Working.Worker.{Worker}
use Rattle.ns_types.proofs.Decided.{decided_world}
use Rattle.ns_types.proofs.Leads.{Leads, leads_if, leads_keeping}
use Rattle.ns_types.proofs.Named.{numbers, one_number}
use Rattle.ns_types.proofs.TableRows.{row_of_insert}
use Rattle.ns_audit.proofs.ValidAllocations.Going.{Onward, onward_same, onward_change, onward_then, onward_each}
use Rattle.ns_audit.proofs.Held.Rows.{Ends, ends_still, ends_then, Adds, adds_quiet, adds_still, adds_then, onward_make, Holds, holds_added}
use Rattle.ns_audit.proofs.Held.Work.{ends_desired}

-- ---- stops and victims

stops_end : (stops : List ℕ) (t : Tenant) → Ends t (fold (λ x n. with_desired n DesiredStatus.Stop x) t stops)
stops_end [] t = ends_still t
stops_end (n ∷ stops) t = ends_then t (with_desired n DesiredStatus.Stop t)
    (fold (λ x n. with_desired n DesiredStatus.Stop x) (with_desired n DesiredStatus.Stop t) stops) (ends_desired n DesiredStatus.Stop t)
    (stops_end stops (with_desired n DesiredStatus.Stop t))

evicted_end : (vs : List Eviction) (w : World) → Onward Ends w (evict_all w vs)
evicted_end vs w = onward_each Ends ends_still ends_then evict
    (λ x v. onward_change Ends ends_still x v.namespace (with_desired v.number DesiredStatus.Evict) (λ t _. ends_desired v.number DesiredStatus.Evict t)) vs w

decided_end : (w : World) (kept : Snapshot) (ps : List Placement) (ks : List ℕ) (c : Commit) → Onward Ends w c.world →
    Onward Ends w (fold (decide kept ps) c ks).world
decided_end w = decided_world (Onward Ends w) (λ vs x h. onward_then Ends ends_still ends_then w x (evict_all x vs) h (evicted_end vs x))

-- ---- placements

placed_adds : (kept : Snapshot) (w : World) (p : Placement) → Onward Adds w (place_one kept w p)
unfolding place_one
placed_adds kept w p = job kept.job
  where
    adds : (j : Job) (node : Node) (t : Tenant) → Adds t (with_allocation (new_allocation kept j p node) t)
    adds j node t n b at = by (row_of_insert numbers one_number t.allocations (t.allocation_number + 1) (new_allocation kept j p node) n b at)
      where
        by : ((n ≡ t.allocation_number + 1) × (new_allocation kept j p node ≡ b)) ⊎ (get t.allocations n ≡ Some b) →
            (get t.allocations n ≡ Some b) ⊎ (is_live b ≡ true)
        by (inl e) = inr (ap is_live (sym e.1))
        by (inr old) = inl old

    counted_adds : (node : Node) (x : World) → Onward Adds w x → (o : Option PoolRows) →
        Onward Adds w (option_map_or (λ p'. put_pool kept.pool (with_place (node_name kept p.node) node p') x) o x)
    counted_adds node x h None = h
    counted_adds node x h (Some p') = h

    node : (j : Job) (o : Option Node) → Onward Adds w (option_map_or (place_with kept p w j) o w)
    node j None = onward_same Adds adds_still w w refl
    node j (Some n) =
        let x = change_tenant kept.namespace (with_allocation (new_allocation kept j p n)) w in
        counted_adds n x (onward_change Adds adds_still w kept.namespace (with_allocation (new_allocation kept j p n)) (λ t _. adds j n t))
        (get x.pools kept.pool)

    job : (o : Option Job) → Onward Adds w (option_map_or (λ job. option_map_or (place_with kept p w job) (node_at w kept.pool (node_name kept p.node)) w) o w)
    job None = onward_same Adds adds_still w w refl
    job (Some j) = node j (node_at w kept.pool (node_name kept p.node))

all_placed_add : (kept : Snapshot) (ps : List Placement) (w : World) → Onward Adds w (place_all kept w ps)
all_placed_add kept ps w = onward_each Adds adds_still adds_then (place_one kept) (placed_adds kept) ps w

made_up_adds : (victims : List Victim) (w : World) → Onward Adds w (make_up victims w)
unfolding make_up
made_up_adds victims w = onward_each Adds adds_still adds_then (λ x v. make v.0 (λ t. evaluation_for t (least_of_job victims v) Trigger.Preemption) x)
    (λ x v. onward_make Adds adds_quiet v.0 (λ t. evaluation_for t (least_of_job victims v) Trigger.Preemption) x) (first_each same_victim_job victims) w

-- ---- the whole

-- some end, and then new ones come
record Commits (w x : World) : Type 0 where
  between : World
  ends : Onward Ends w between
  adds : Onward Adds between x

module _ (kept : Snapshot) (p : Plan) (w : World) (t : Tenant) where
  abbrev ps : List Placement
  ps = p.placing.placements

  abbrev stopped : World
  stopped = stop_all kept.namespace (live_stops t p.stops) w

  abbrev decided : Commit
  decided = fold (decide kept ps) (begun stopped) (nodes_in ps)

  abbrev placed : List Placement
  placed = committed_placements decided ps

  done_commits : Commits w (done kept p w t).world
  done_commits = record {
    between = decided.world;
    ends = decided_end w kept ps (nodes_in ps) (begun stopped)
        (onward_change Ends ends_still w kept.namespace (λ u. fold (λ x n. with_desired n DesiredStatus.Stop x) u (live_stops t p.stops))
        (λ u _. stops_end (live_stops t p.stops) u));
    adds = onward_then Adds adds_still adds_then decided.world (place_all kept decided.world placed)
        (make_up (evicted_rows stopped kept placed) (place_all kept decided.world placed)) (all_placed_add kept placed decided.world)
        (made_up_adds (evicted_rows stopped kept placed) (place_all kept decided.world placed));
  }

  commit_commits : Commits w (commit kept p w t).world
  unfolding commit
  commit_commits = elim (still_stands kept.job (get t.jobs kept.evaluation.job)) as (λ b. Commits w (cond b (done kept p w t) (refused_whole kept p w)).world) [
    | true ↦ done_commits
    | false ↦ record { between = w; ends = onward_same Ends ends_still w w refl; adds = onward_same Adds adds_still w w refl }
  ]

pub apply_holds : (w : World) (ns : Name) (number : ℕ) → Leads (Holds w) (apply number ns w)
unfolding apply
apply_holds w ns number = leads_keeping (Holds w) number ns w (apply_for number ns w) (λ t worker e kept _ _ _ _.
    leads_if (Holds w) (is_submitted worker.phase && is_served w w.plans (ns, worker.evaluation)) (applied number ns worker e (commit kept (plan kept) w t))
    NotEnabled (λ _. by worker e (commit kept (plan kept) w t) (commit_commits kept (plan kept) w t)) (λ _. tt))
  where
    by : (worker : Worker) (e : Evaluation) (a : Applied) → Commits w a.world → Leads (Holds w) (applied number ns worker e a)
    by worker e a c =
        let x = change_tenant ns (with_worker number (applied_worker a worker e)) a.world in
        holds_added w c.between x c.ends (onward_then Adds adds_still adds_then c.between a.world x c.adds
        (onward_change Adds adds_still a.world ns (with_worker number (applied_worker a worker e))
        (λ t _. adds_quiet t (with_worker number (applied_worker a worker e) t) refl)))
