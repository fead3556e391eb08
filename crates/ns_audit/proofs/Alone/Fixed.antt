-- What steps do to evaluations and allocations leaves the rest of each namespace.
use Rattle.std.specs.Prelude.{◌≡◌, ℕ, ◌+◌, Bool, true, false, cond, List, [], ◌∷◌, Option, Some, None, fold, option_map}
use Rattle.std.proofs.Common.{refl, sym, ap, ◌∙◌}
use Rattle.std.specs.FinMap.{get, get-insert, insert}
use Rattle.std.specs.Option.{option_map_or}
use Rattle.ns_types.specs.declared.allocation.Allocation.{Allocation}
use Rattle.ns_types.specs.declared.allocation.DesiredStatus.{DesiredStatus}
use Rattle.ns_types.specs.declared.evaluation.Evaluation.{Evaluation}
use Rattle.ns_types.specs.declared.evaluation.Trigger.TheVariants as Trigger
use Rattle.ns_types.specs.declared.job.Job.{Job}
use Rattle.ns_types.specs.declared.node.Node.{Node}
use Rattle.ns_types.specs.declared.plan.Eviction.{Eviction}
use Rattle.ns_types.specs.declared.plan.Placement.{Placement}
use Rattle.ns_types.specs.declared.snapshot.Snapshot.{Snapshot}
use Rattle.ns_types.specs.Working.Commit.{stop_all, evict, evict_all, node_name, Commit, decide, begun, nodes_in}
use Rattle.ns_types.specs.Working.Commit.{place_one, place_with, place_all, make_up, Victim, least_of_job, same_victim_job, evicted_rows, committed_placements}
use Rattle.ns_types.specs.Working.Commit.{live_stops, with_place, with_allocation, new_allocation, done, done_with, commit, refused_whole, still_stands}
use Rattle.ns_types.specs.Settling.Making.{put_tenant, change_tenant, put_pool, with_desired, evaluation_for, with_evaluation, make_in, make}
use Rattle.ns_types.specs.State.Lists.{first_each}
use Rattle.ns_types.specs.State.Names.{Name, ByNumber, name_cmp}
use Rattle.std.specs.Ordering.{eq_by_cmp}
use Rattle.ns_types.specs.State.Rows.{node_at}
use Rattle.ns_types.specs.State.Rows.{World, Tenant, PoolRows}
use Rattle.ns_types.specs.declared.plan.Plan.{Plan}
use Rattle.ns_types.proofs.Decided.{decided_world}
use Rattle.ns_types.proofs.Named.{names, one_name}
use Rattle.ns_types.proofs.Tables.{tied}
use Rattle.ns_types.proofs.Queue.{queue_keeps}

-- a part of a namespace's rows
abbrev pub of_at : {Y : Type 0} → (Tenant → Y) → World → Name → Option Y
of_at of w ns = option_map of (get w.tenants ns)

-- both worlds have the same of it
abbrev pub SameIn : {Y : Type 0} → (Tenant → Y) → World → World → Type 0
SameIn of w x = (k : Name) → of_at of x k ≡ of_at of w k

module _ {Y : Type 0} (of : Tenant → Y)
    (same_evaluations : (t : Tenant) (number : ℕ) (evaluations : ByNumber Evaluation) →
    of (record t { evaluation_number = number; evaluations = evaluations }) ≡ of t)
    (same_allocations : (t : Tenant) (number : ℕ) (allocations : ByNumber Allocation) →
    of (record t { allocation_number = number; allocations = allocations }) ≡ of t) where
  pub fixed_put : (ns : Name) (t t' : Tenant) (w : World) → get w.tenants ns ≡ Some t → of t' ≡ of t → SameIn of w (put_tenant ns t' w)
  fixed_put ns t t' w is same k = ap (option_map of) (get-insert names w.tenants ns t' k) ∙ by (eq_by_cmp name_cmp k ns) refl
    where
      by : (b : Bool) → eq_by_cmp name_cmp k ns ≡ b → option_map of (cond b (Some t') (get w.tenants k)) ≡ of_at of w k
      by true e = ap Some same ∙ ap (option_map of) (sym is ∙ ap (get w.tenants) (sym (tied one_name k ns e)))
      by false _ = refl

  pub fixed_change : (ns : Name) (f : Tenant → Tenant) → ((t : Tenant) → of (f t) ≡ of t) → (w : World) → SameIn of w (change_tenant ns f w)
  fixed_change ns f same w = by (get w.tenants ns) refl
    where
      by : (o : Option Tenant) → get w.tenants ns ≡ o → SameIn of w (option_map_or (λ t. put_tenant ns (f t) w) o w)
      by None is = λ k. refl
      by (Some t) is = fixed_put ns t (f t) w is (same t)

  pub fixed_make_in : (ns : Name) (e : Evaluation) (t t' : Tenant) (w : World) → get w.tenants ns ≡ Some t → of t' ≡ of t → SameIn of w (make_in ns e w t')
  fixed_make_in ns e t t' w is same k = queue_keeps (λ x. of_at of x k) (λ x keys. refl) (put_tenant ns (with_evaluation e t') w) (ns, t'.evaluation_number + 1)
      ∙ fixed_put ns t (with_evaluation e t') w is (same_evaluations t' (t'.evaluation_number + 1) (insert t'.evaluations (t'.evaluation_number + 1) e) ∙ same)
      k

  pub fixed_make : (ns : Name) (evaluation : Tenant → Evaluation) (w : World) → SameIn of w (make ns evaluation w)
  fixed_make ns evaluation w = by (get w.tenants ns) refl
    where
      by : (o : Option Tenant) → get w.tenants ns ≡ o → SameIn of w (option_map_or (λ t. make_in ns (evaluation t) w t) o w)
      by None is = λ k. refl
      by (Some t) is = fixed_make_in ns (evaluation t) t t w is refl

  pub fixed_each : {A : Type 0} (f : World → A → World) → ((w : World) (x : A) → SameIn of w (f w x)) → (xs : List A) (w : World) → SameIn of w (fold f w xs)
  fixed_each f h [] w k = refl
  fixed_each f h (x ∷ xs) w k = fixed_each f h xs (f w x) k ∙ h w x k

  pub fixed_desired : (n : ℕ) (desired : DesiredStatus) (t : Tenant) → of (with_desired n desired t) ≡ of t
  fixed_desired n desired t = elim (get t.allocations n) as
      (λ (o : Option Allocation). of (option_map_or (λ a. record t { allocations = insert t.allocations n (record a { desired = desired }) }) o t) ≡ of t)
      [ Some a ↦ same_allocations t t.allocation_number (insert t.allocations n (record a { desired = desired })) | None ↦ refl ]

  pub fixed_stops : (stops : List ℕ) (t : Tenant) → of (fold (λ x n. with_desired n DesiredStatus.Stop x) t stops) ≡ of t
  fixed_stops [] t = refl
  fixed_stops (n ∷ stops) t = fixed_stops stops (with_desired n DesiredStatus.Stop t) ∙ fixed_desired n DesiredStatus.Stop t

  pub fixed_evicted : (vs : List Eviction) (w : World) → SameIn of w (evict_all w vs)
  fixed_evicted vs w = fixed_each evict (λ x v. fixed_change v.namespace (with_desired v.number DesiredStatus.Evict)
      (fixed_desired v.number DesiredStatus.Evict) x) vs w

  pub fixed_decided : (kept : Snapshot) (ps : List Placement) (ks : List ℕ) (c : Commit) → SameIn of c.world (fold (decide kept ps) c ks).world
  fixed_decided kept ps ks c = decided_world (SameIn of c.world) (λ vs w same k. fixed_evicted vs w k ∙ same k) kept ps ks c (λ k. refl)

  pub fixed_placed : (kept : Snapshot) (p : Placement) (w : World) → SameIn of w (place_one kept w p)
  unfolding place_one
  fixed_placed kept p w k = job kept.job
    where
      pool : (node : Node) (x : World) (o : Option PoolRows) →
          of_at of (option_map_or (λ p'. put_pool kept.pool (with_place (node_name kept p.node) node p') x) o x) k ≡ of_at of x k
      pool node x None = refl
      pool node x (Some p') = refl

      node : (j : Job) (o : Option Node) → of_at of (option_map_or (place_with kept p w j) o w) k ≡ of_at of w k
      node j None = refl
      node j (Some n) = pool n _ (get (change_tenant kept.namespace (with_allocation (new_allocation kept j p n)) w).pools kept.pool) ∙
          fixed_change kept.namespace (with_allocation (new_allocation kept j p n))
          (λ t. same_allocations t (t.allocation_number + 1) (insert t.allocations (t.allocation_number + 1) (new_allocation kept j p n))) w k

      job : (o : Option Job) → of_at of (option_map_or (λ job. option_map_or (place_with kept p w job) (node_at w kept.pool (node_name kept p.node)) w) o w)
          k ≡ of_at of w k
      job None = refl
      job (Some j) = node j (node_at w kept.pool (node_name kept p.node))

  pub fixed_made_up : (victims : List Victim) (w : World) → SameIn of w (make_up victims w)
  unfolding make_up
  fixed_made_up victims w = fixed_each (λ x v. make v.0 (λ t. evaluation_for t (least_of_job victims v) Trigger.Preemption) x) (λ x v. fixed_make v.0 _ x)
      (first_each same_victim_job victims) w

  pub fixed_commit : (kept : Snapshot) (p : Plan) (w : World) (t : Tenant) → SameIn of w (commit kept p w t).world
  unfolding commit
  fixed_commit kept p w t k = elim (still_stands kept.job (get t.jobs kept.evaluation.job)) as
      (λ b. of_at of (cond b (done kept p w t) (refused_whole kept p w)).world k ≡ of_at of w k) [
        | true ↦ whole (stop_all kept.namespace stops w) (fixed_change kept.namespace _ (fixed_stops stops) w k)
        | false ↦ refl
      ]
    where
      stops : List ℕ
      stops = live_stops t p.stops

      whole : (x : World) → of_at of x k ≡ of_at of w k →
          of_at of (done_with kept t stops p.placing.placements x (fold (decide kept p.placing.placements) (begun x) (nodes_in p.placing.placements))).world
          k ≡ of_at of w k
      whole x same =
          let c = fold (decide kept p.placing.placements) (begun x) (nodes_in p.placing.placements) in
          let placed = committed_placements c p.placing.placements in
          fixed_made_up (evicted_rows x kept placed) (place_all kept c.world placed) k
          ∙ fixed_each (place_one kept) (λ y q. fixed_placed kept q y) placed c.world k
          ∙ fixed_decided kept p.placing.placements (nodes_in p.placing.placements) (begun x) k ∙ same
