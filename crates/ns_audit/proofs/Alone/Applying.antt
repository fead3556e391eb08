-- Apply goes along with a choice of owners: node by node, its placements, and the evaluations of those that lost one.
use Rattle.std.specs.Prelude.{◌≡◌, ℕ, Bool, true, false, cond, List, [], ◌∷◌, ◌++◌, Option, Some, None, ◌&&◌, fold, filter_map}
use Rattle.std.proofs.Common.{refl, sym, ap, subst, ◌∙◌}
use Rattle.std.specs.FinMap.{get, insert}
use Rattle.std.specs.Option.{option_map_or, option_and_then}
use Rattle.ns_types.specs.declared.allocation.DesiredStatus.TheVariants as DesiredStatus
use Rattle.ns_types.specs.declared.evaluation.Evaluation.{Evaluation}
use Rattle.ns_types.specs.declared.evaluation.Trigger.TheVariants as Trigger
use Rattle.ns_types.specs.declared.job.Job.{Job}
use Rattle.ns_types.specs.declared.node.Node.{Node}
use Rattle.ns_types.specs.declared.plan.Eviction.{Eviction}
use Rattle.ns_types.specs.declared.plan.Placement.{Placement}
use Rattle.ns_types.specs.declared.plan.Plan.{Plan}
use Rattle.ns_types.specs.declared.reply.Content.TheVariants as Content
use Rattle.ns_types.specs.declared.resources.Resources.{Resources}
use Rattle.ns_types.specs.declared.snapshot.Snapshot.{Snapshot}
use Rattle.ns_types.specs.Working.Worker.{Worker}
use Rattle.ns_types.specs.Working.Commit.{still_stands, live_stops, stop_all, node_name, nodes_in, part_of, size_of, victims_of, evict_all, quota_allows}
use Rattle.ns_types.specs.Working.Commit.{Commit, begun, accepts_at, decide, new_allocation, with_allocation, with_place, counted, place_with, place_one}
use Rattle.ns_types.specs.Working.Commit.{committed_placements, place_all, Victim, victim_at, evicted_rows, same_victim_job, least_of_job, make_up, Applied}
use Rattle.ns_types.specs.Working.Commit.{refused_whole, victim_keys, parts_done, done_with, done, commit, applied_worker, applied, apply_for, apply}
use Rattle.ns_types.specs.Placing.Constraint.{is_feasible}
use Rattle.ns_types.specs.Isolation.{Part, alone_in}
use Rattle.ns_types.specs.State.Lists.{Each, first_each}
use Rattle.ns_types.specs.Settling.Making.{change_tenant, put_pool, with_desired, evaluation_for, make}
use Rattle.ns_types.specs.State.Names.{Name}
use Rattle.ns_types.specs.Settling.Outcome.{Done}
use Rattle.ns_types.specs.Placing.Plan.{plan, constraints_of}
use Rattle.ns_types.specs.Working.Queue.{is_served}
use Rattle.ns_types.specs.State.Resources.{plus, is_within, limits_in, limits_allow, unlimited}
use Rattle.ns_types.specs.State.Rows.{World, Tenant, node_at}
use Rattle.ns_types.specs.State.Sums.{quota_use}
use Rattle.ns_types.specs.Working.Work.{with_worker, without_key, is_submitted}
use Rattle.ns_audit.specs.Apart.{IsApart, Leaves, Follows}
use Rattle.ns_audit.proofs.Alone.Asking.{goes_make}
use Rattle.ns_audit.proofs.Alone.Chosen.{tenant_alone, pool_alone, quota_alone, node_alone, GoesAlone, goes_then, goes_nowhere, goes_with, goes_change}
use Rattle.ns_audit.proofs.Alone.Chosen.{goes_pool, goes_unplanned, its_own, not_its_own}
use Rattle.ns_audit.proofs.Alone.Evicting.{Standing, stopped_stands, evicted_stands, victims_side, victims_alone, evict_goes, rows_side, rows_alone}
use Rattle.ns_audit.proofs.Alone.Going.{Goes, goes_where}
use Rattle.ns_audit.proofs.Alone.Summing.{quota_use_alone, node_load_alone}
use Rattle.ns_audit.proofs.Alone.Working.{served_among, at_work_keeping}
use Rattle.ns_types.proofs.Decided.{decide_world}
use Rattle.ns_types.proofs.Elements.{each_first}

goes_each : {A : Type 0} (part : Part) (b : Bool) (f : World → A → World) (P : A → Type 0) → ((x : A) → P x → GoesAlone part b (λ w. f w x)) → (xs : List A) →
    Each P xs → GoesAlone part b (λ w. fold f w xs)
goes_each part b f P h [] each w = goes_nowhere part b w
goes_each part b f P h (x ∷ xs) each w = goes_then part b (λ w. f w x) (λ w. fold f w xs) (h x each.0) (goes_each part b f P h xs each.1) w

each_is : {A : Type 0} (xs : List A) → Each (λ (x : A). Unit {0}) xs
each_is [] = tt
each_is (x ∷ xs) = (tt, each_is xs)

each_at : {A : Type 0} (P : A → Bool → Type 0) (c d : Bool) → c ≡ d → (xs : List A) → Each (λ x. P x c) xs → Each (λ x. P x d) xs
each_at P c d e xs h = subst (λ b. Each (λ x. P x b) xs) e h

-- ---- whether a node does its part

module _ (part : Part) (w : World) (s : Standing part w) (kept : Snapshot) (mine : part.pools kept.pool ≡ true) (own : part.spaces kept.namespace ≡ true) where
  quota_alike : (amount : Resources) → quota_allows (alone_in part w) kept.namespace amount ≡ quota_allows w kept.namespace amount
  quota_alike amount = ap (λ o. option_map_or (allows (alone_in part w)) (option_and_then (λ t. t.namespace.quota) o) true)
      (tenant_alone part w kept.namespace own) ∙ tenant (get w.tenants kept.namespace) refl
    where
      allows : World → Name → Bool
      allows x q = limits_allow (option_map_or (λ rows. limits_in rows.quota.limits) (get x.quotas q) unlimited) (plus (quota_use x q) amount)

      quota : (q : Name) → part.quotas q ≡ true → allows (alone_in part w) q ≡ allows w q
      quota q its = λ i. limits_allow (option_map_or (λ rows. limits_in rows.quota.limits) (quota_alone part w q its i) unlimited)
          (plus (quota_use_alone part w s.names q its i) amount)

      named : (t : Tenant) → get w.tenants kept.namespace ≡ Some t → (q : Option Name) → t.namespace.quota ≡ q →
          option_map_or (allows (alone_in part w)) q true ≡ option_map_or (allows w) q true
      named t is None at = refl
      named t is (Some q) at = quota q (s.names kept.namespace t q is at ∙ own)

      tenant : (o : Option Tenant) → get w.tenants kept.namespace ≡ o → option_map_or (allows (alone_in part w)) (option_and_then (λ t. t.namespace.quota) o)
          true ≡ option_map_or (allows w) (option_and_then (λ t. t.namespace.quota) o) true
      tenant None is = refl
      tenant (Some t) is = named t is t.namespace.quota refl

  accepts_alike : (name : Name) (ps : List Placement) (placed : Resources) → accepts_at kept (alone_in part w) name ps placed ≡ accepts_at kept w name ps placed
  accepts_alike name ps placed = λ i. option_map_or (λ node. is_feasible (constraints_of kept.job) name node
      && is_within (plus (node_load_alone part w s.stands kept.pool name mine i) (size_of ps)) node.offer.capacity
      && quota_alike (plus placed (size_of ps)) i) (node_alone part w kept.pool name mine i) false

-- ---- node by node

abbrev alone_commit : Part → Commit → Commit
alone_commit part c = record c { world = alone_in part c.world }

-- on its side what is decided alone is the part of what is decided among all; on the other nothing is done to it
abbrev Decides : Part → World → Bool → Commit → Commit → Type 0
Decides part w true c c' = c' ≡ alone_commit part c
Decides part w false c c' = alone_in part c.world ≡ alone_in part w

module _ (part : Part) (kept : Snapshot) (placements : List Placement) where
  decided_stands : (c : Commit) (k : ℕ) → Standing part c.world → Standing part (decide kept placements c k).world
  decided_stands c k s = decide_world (Standing part) kept placements c k (evicted_stands part (victims_of c.world kept (part_of k placements)) c.world s) s

  -- the state without the victims of a node's part
  evicted_goes : (b : Bool) → part.pools kept.pool ≡ b → (w : World) → Standing part w → (ps : List Placement) →
      alone_in part (evict_all w (victims_of w kept ps)) ≡ cond b (evict_all (alone_in part w) (victims_of (alone_in part w) kept ps)) (alone_in part w)
  evicted_goes b side w s ps = evict_goes part b (victims_of w kept ps)
      (each_at (λ e c. part.spaces e.namespace ≡ c) (part.pools kept.pool) b side (victims_of w kept ps) (victims_side part w s.stands kept ps)) w ∙ by b side
    where
      by : (b : Bool) → part.pools kept.pool ≡ b → cond b (evict_all (alone_in part w) (victims_of w kept ps)) (alone_in part w) ≡ cond b
          (evict_all (alone_in part w) (victims_of (alone_in part w) kept ps)) (alone_in part w)
      by true mine = ap (evict_all (alone_in part w)) (victims_alone part w s.stands kept mine ps)
      by false other = refl

  decide_own : part.pools kept.pool ≡ true → part.spaces kept.namespace ≡ true → (c : Commit) (k : ℕ) → Standing part c.world →
      decide kept placements (alone_commit part c) k ≡ alone_commit part (decide kept placements c k)
  unfolding decide
  decide_own mine own c k s = (λ i. cond (sym accepted i) (doing (sym evicted i)) leaving) ∙ by (accepts_at kept x (node_name kept k) ps c.placed)
    where
      ps : List Placement
      ps = part_of k placements

      x : World
      x = evict_all c.world (victims_of c.world kept ps)

      evicted : alone_in part x ≡ evict_all (alone_in part c.world) (victims_of (alone_in part c.world) kept ps)
      evicted = evicted_goes true mine c.world s ps

      accepted : accepts_at kept x (node_name kept k) ps c.placed ≡ accepts_at kept
          (evict_all (alone_in part c.world) (victims_of (alone_in part c.world) kept ps)) (node_name kept k) ps c.placed
      accepted = sym (accepts_alike part x (evicted_stands part (victims_of c.world kept ps) c.world s) kept mine own (node_name kept k) ps c.placed) ∙
          ap (λ y. accepts_at kept y (node_name kept k) ps c.placed) evicted

      doing : World → Commit
      doing y = record { world = y; placed = plus c.placed (size_of ps); committed = c.committed ++ k ∷ []; dropped = c.dropped }

      leaving : Commit
      leaving = record { world = alone_in part c.world; placed = c.placed; committed = c.committed; dropped = c.dropped ++ k ∷ [] }

      by : (b : Bool) → cond b (doing (alone_in part x)) leaving ≡ alone_commit part (cond b (doing x) (record c { dropped = c.dropped ++ k ∷ [] }))
      by true = refl
      by false = refl

  decide_other : part.pools kept.pool ≡ false → (c : Commit) (k : ℕ) → Standing part c.world →
      alone_in part (decide kept placements c k).world ≡ alone_in part c.world
  decide_other other c k s = decide_world (λ w. alone_in part w ≡ alone_in part c.world) kept placements c k
      (evicted_goes false other c.world s (part_of k placements)) refl

  all_own : part.pools kept.pool ≡ true → part.spaces kept.namespace ≡ true → (ks : List ℕ) (c : Commit) → Standing part c.world →
      fold (decide kept placements) (alone_commit part c) ks ≡ alone_commit part (fold (decide kept placements) c ks)
  all_own mine own [] c s = refl
  all_own mine own (k ∷ ks) c s = ap (λ d. fold (decide kept placements) d ks) (decide_own mine own c k s) ∙
      all_own mine own ks (decide kept placements c k) (decided_stands c k s)

  all_other : part.pools kept.pool ≡ false → (ks : List ℕ) (c : Commit) → Standing part c.world →
      alone_in part (fold (decide kept placements) c ks).world ≡ alone_in part c.world
  all_other other [] c s = refl
  all_other other (k ∷ ks) c s = all_other other ks (decide kept placements c k) (decided_stands c k s) ∙ decide_other other c k s

-- ---- placements, and evaluations of those that lost an allocation

module _ (part : Part) (b : Bool) (kept : Snapshot) (pool_side : part.pools kept.pool ≡ b) (side : part.spaces kept.namespace ≡ b) where
  goes_counted : (name : Name) (node : Node) → GoesAlone part b (counted kept.pool name node)
  goes_counted name node = goes_with part b (λ w. get w.pools kept.pool) (λ p w. put_pool kept.pool (with_place name node p) w)
      (λ w own. sym (pool_alone part w kept.pool (pool_side ∙ own))) (λ p. goes_pool part b kept.pool (with_place name node p) pool_side)

  goes_place_with : (p : Placement) (job : Job) (node : Node) → GoesAlone part b (λ w. place_with kept p w job node)
  goes_place_with p job node = goes_then part b (change_tenant kept.namespace (with_allocation (new_allocation kept job p node)))
      (counted kept.pool (node_name kept p.node) node)
      (goes_change part b kept.namespace side (with_allocation (new_allocation kept job p node))) (goes_counted (node_name kept p.node) node)

  goes_place_one : (p : Placement) → GoesAlone part b (λ w. place_one kept w p)
  unfolding place_one
  goes_place_one p = goes_with part b (λ w. kept.job) (λ job w. option_map_or (place_with kept p w job) (node_at w kept.pool (node_name kept p.node)) w)
      (λ w own. refl) (λ job.
      goes_with part b (λ w. node_at w kept.pool (node_name kept p.node)) (λ node w. place_with kept p w job node)
      (λ w own. sym (node_alone part w kept.pool (node_name kept p.node) (pool_side ∙ own))) (goes_place_with p job))

  goes_place_all : (ps : List Placement) → GoesAlone part b (λ w. place_all kept w ps)
  goes_place_all ps = goes_each part b (place_one kept) (λ p. Unit {0}) (λ p _. goes_place_one p) ps (each_is ps)

  goes_make_up : (victims : List Victim) → Each (λ v. part.spaces v.0 ≡ b) victims → GoesAlone part b (make_up victims)
  unfolding make_up
  goes_make_up victims sides = goes_each part b (λ x v. make v.0 (λ t. evaluation_for t (least_of_job victims v) Trigger.Preemption) x)
      (λ v. part.spaces v.0 ≡ b)
      (λ v of_b. goes_make part b v.0 of_b (λ t. evaluation_for t (least_of_job victims v) Trigger.Preemption)) (first_each same_victim_job victims)
      (each_first (λ v. part.spaces v.0 ≡ b) same_victim_job victims sides)

  -- all that follows what was decided
  goes_after_it : (x : World) → Standing part x → (ps : List Placement) → GoesAlone part b (λ w. make_up (evicted_rows x kept ps) (place_all kept w ps))
  goes_after_it x s ps = goes_then part b (λ w. place_all kept w ps) (make_up (evicted_rows x kept ps)) (goes_place_all ps)
      (goes_make_up (evicted_rows x kept ps)
      (rows_side (λ ns. part.spaces ns ≡ b) x (victims_of x kept ps)
      (each_at (λ (e : Eviction) c. part.spaces e.namespace ≡ c) (part.pools kept.pool) b pool_side (victims_of x kept ps)
      (victims_side part x s.stands kept ps))))

rows_alike : (part : Part) (x : World) → Standing part x → (kept : Snapshot) → part.pools kept.pool ≡ true → (ps : List Placement) →
    evicted_rows (alone_in part x) kept ps ≡ evicted_rows x kept ps
rows_alike part x s kept mine ps = ap (filter_map (victim_at (alone_in part x))) (sym (victims_alone part x s.stands kept mine ps))
    ∙ rows_alone part x (victims_of x kept ps) (each_at (λ (e : Eviction) c. part.spaces e.namespace ≡ c) (part.pools kept.pool) true mine
    (victims_of x kept ps) (victims_side part x s.stands kept ps))

-- ---- a whole commit

abbrev alone_applied : Part → Applied → Applied
alone_applied part a = record a { world = alone_in part a.world }

abbrev Commits : Part → World → Bool → Applied → Applied → Type 0
Commits part w true a a' = a' ≡ alone_applied part a
Commits part w false a a' = alone_in part a.world ≡ alone_in part w

module _ (part : Part) (w : World) (s : Standing part w) (kept : Snapshot) (p : Plan) (t : Tenant) where
  stops : List ℕ
  stops = live_stops t p.stops

  stopped : World → World
  stopped x = stop_all kept.namespace stops x

  decided : World → Commit
  decided x = fold (decide kept p.placing.placements) (begun x) (nodes_in p.placing.placements)

  stopped_standing : Standing part (stopped w)
  unfolding stopped
  stopped_standing = stopped_stands part kept.namespace stops w s

  stopped_goes : (b : Bool) → part.spaces kept.namespace ≡ b → alone_in part (stopped w) ≡ cond b (stopped (alone_in part w)) (alone_in part w)
  unfolding stopped
  stopped_goes b side = goes_change part b kept.namespace side (λ x. fold (λ x n. with_desired n DesiredStatus.Stop x) x stops) w

  done_own : part.pools kept.pool ≡ true → part.spaces kept.namespace ≡ true → done kept p (alone_in part w) t ≡ alone_applied part (done kept p w t)
  unfolding stops stopped decided
  done_own mine own = (λ i. done_with kept t stops p.placing.placements (sym (stopped_goes true own) i) (decided (sym (stopped_goes true own) i)))
      ∙ ap (done_with kept t stops p.placing.placements (alone_in part (stopped w)))
      (all_own part kept p.placing.placements mine own (nodes_in p.placing.placements) (begun (stopped w)) stopped_standing)
      ∙ finishing (decided (stopped w))
    where
      finishing : (c : Commit) → done_with kept t stops p.placing.placements (alone_in part (stopped w)) (alone_commit part c) ≡ alone_applied part
          (done_with kept t stops p.placing.placements (stopped w) c)
      finishing c =
          let placed = committed_placements c p.placing.placements in
          λ i. record (done_with kept t stops p.placing.placements (stopped w) c) {
            checked = record (parts_done kept stops p.placing.placements (stopped w) c) {
              victims = victim_keys (sym (victims_alone part (stopped w) stopped_standing.stands kept mine placed) i);
            };
            world = (ap (λ rows. make_up rows (place_all kept (alone_in part c.world) placed)) (rows_alike part (stopped w) stopped_standing kept mine placed)
                ∙ sym (its_own part true (λ x. make_up (evicted_rows (stopped w) kept placed) (place_all kept x placed)) c.world
                (goes_after_it part true kept mine own (stopped w) stopped_standing placed) refl)) i;
          }

  done_other : part.pools kept.pool ≡ false → part.spaces kept.namespace ≡ false → alone_in part (done kept p w t).world ≡ alone_in part w
  unfolding stops stopped decided
  done_other foreign other =
      not_its_own part false (λ x. make_up (evicted_rows (stopped w) kept placed) (place_all kept x placed)) (decided (stopped w)).world
      (goes_after_it part false kept foreign other (stopped w) stopped_standing placed) refl
      ∙ all_other part kept p.placing.placements foreign (nodes_in p.placing.placements) (begun (stopped w)) stopped_standing
      ∙ stopped_goes false other
    where
      placed : List Placement
      placed = committed_placements (decided (stopped w)) p.placing.placements

  commit_goes : (b : Bool) → part.pools kept.pool ≡ b → part.spaces kept.namespace ≡ b →
      Commits part w b (commit kept p w t) (commit kept p (alone_in part w) t)
  unfolding commit
  commit_goes true mine own = elim (still_stands kept.job (get t.jobs kept.evaluation.job)) as
      (λ c. cond c (done kept p (alone_in part w) t) (refused_whole kept p (alone_in part w)) ≡ alone_applied part
      (cond c (done kept p w t) (refused_whole kept p w))) [
        | true ↦ done_own mine own
        | false ↦ refl
      ]
  commit_goes false foreign other = elim (still_stands kept.job (get t.jobs kept.evaluation.job)) as
      (λ c. alone_in part (cond c (done kept p w t) (refused_whole kept p w)).world ≡ alone_in part w) [
        | true ↦ done_other foreign other
        | false ↦ refl
      ]

-- ---- Apply

module _ (part : Part) (b : Bool) (ns : Name) (side : part.spaces ns ≡ b) (w : World) (apart : IsApart part w) where
  applied_goes : (number : ℕ) (worker : Worker) (e : Evaluation) (a a' : Applied) → Commits part w b a a' →
      Goes part w b (applied number ns worker e a) (applied number ns worker e a')
  unfolding Follows Leaves
  applied_goes number worker e a a' = by b side
    where
      after_it : World → World
      after_it x = record (change_tenant ns (with_worker number (applied_worker a worker e)) x)
          { plans = without_key (ns, worker.evaluation) (change_tenant ns (with_worker number (applied_worker a worker e)) x).plans }

      goes_after : (c : Bool) → part.spaces ns ≡ c → GoesAlone part c after_it
      goes_after c of_c = goes_then part c (change_tenant ns (with_worker number (applied_worker a worker e)))
          (λ x. record x { plans = without_key (ns, worker.evaluation) x.plans })
          (goes_change part c ns of_c (with_worker number (applied_worker a worker e))) (goes_unplanned part c ns of_c worker.evaluation)

      same_plans : (x : World) → (change_tenant ns (with_worker number (applied_worker a worker e)) x).plans ≡ x.plans
      same_plans x = elim (get x.tenants ns) as (λ (o : Option Tenant).
          (option_map_or (λ t. record x { tenants = insert x.tenants ns (with_worker number (applied_worker a worker e) t) }) o x).plans ≡ x.plans)
          [ Some t ↦ refl | None ↦ refl ]

      is_after : (x : World) → record (change_tenant ns (with_worker number (applied_worker a worker e)) x)
          { plans = without_key (ns, worker.evaluation) x.plans } ≡ after_it x
      is_after x = λ i. record (change_tenant ns (with_worker number (applied_worker a worker e)) x)
          { plans = without_key (ns, worker.evaluation) (sym (same_plans x) i) }

      by : (c : Bool) → part.spaces ns ≡ c → Commits part w c a a' → Goes part w c (applied number ns worker e a) (applied number ns worker e a')
      by true own same = ap (applied number ns worker e) same ∙
          ap (Done (Content.Applied a.made a.dropped)) (is_after (alone_in part a.world) ∙ sym (its_own part true after_it a.world (goes_after true own) refl) ∙
          ap (alone_in part) (sym (is_after a.world)))
      by false other same = ap (alone_in part) (is_after a.world) ∙ not_its_own part false after_it a.world (goes_after false other) refl ∙ same

  pub apply_goes : (number : ℕ) → Goes part w b (apply number ns w) (apply number ns (alone_in part w))
  unfolding apply
  apply_goes number = at_work_keeping part b ns side number w (apply_for number ns w) (apply_for number ns (alone_in part w)) apart
      (λ t worker e kept is at row with.
      goes_where part w b (is_submitted worker.phase && is_served w w.plans (ns, worker.evaluation)) _ _ _
      (λ own. served own worker (is_submitted worker.phase)) (λ _.
      applied_goes number worker e (commit kept (plan kept) w t) (commit kept (plan kept) (alone_in part w) t)
      (commit_goes part w (record { stands = apart.allocation; names = apart.quota }) kept (plan kept) t b (with.with.pool_with ∙ side)
      (ap part.spaces with.namespace ∙ side))))
    where
      served : b ≡ true → (worker : Worker) → (c : Bool) → (c && is_served w w.plans (ns, worker.evaluation)) ≡ true →
          (c && is_served (alone_in part w) (alone_in part w).plans (ns, worker.evaluation)) ≡ true
      served own worker false e = e
      served own worker true e = served_among part w w.plans (ns, worker.evaluation) (side ∙ own) e
