-- What a worker does keeps records sound.
use Rattle.std.specs.Prelude.{◌≡◌, ℕ, ◌+◌, Bool, true, false, cond, List, [], ◌∷◌, ◌++◌, Option, Some, None, ◌&&◌, nat_le, nat_lt, fold}
use Rattle.std.proofs.Common.{refl, ap, ◌∙◌}
use Rattle.std.specs.FinMap.{get, insert}
use Rattle.std.specs.Option.{option_map_or, option_and_then}
use Rattle.ns_types.specs.declared.evaluation.Evaluation.{Evaluation}
use Rattle.ns_types.specs.declared.evaluation.Status.{Status}
use Rattle.ns_types.specs.declared.evaluation.Trigger.TheVariants as Trigger
use Rattle.ns_types.specs.declared.allocation.DesiredStatus.TheVariants as DesiredStatus
use Rattle.ns_types.specs.declared.job.Job.{Job}
use Rattle.ns_types.specs.declared.node.Node.{Node}
use Rattle.ns_types.specs.declared.plan.Eviction.{Eviction}
use Rattle.ns_types.specs.declared.plan.Placement.{Placement}
use Rattle.ns_types.specs.declared.plan.Plan.{Plan}
use Rattle.ns_types.specs.declared.reply.Content.TheVariants as Content
use Rattle.ns_types.specs.declared.snapshot.Snapshot.{Snapshot}
use Rattle.ns_types.specs.declared.worker.Phase.TheVariants as Phase
use Rattle.ns_types.specs.Working.Worker.{Worker}
use Rattle.ns_types.specs.Working.Commit.{still_stands, live_stops, stop_all, node_name, nodes_in, evict, evict_all, Commit}
use Rattle.ns_types.specs.Working.Commit.{begun, decide, new_allocation, with_allocation, with_place, place_with, place_one, committed_placements}
use Rattle.ns_types.specs.Working.Commit.{place_all, Victim, evicted_rows, same_victim_job, least_of_job, make_up, Applied, refused_whole, done_with, done}
use Rattle.ns_types.specs.Working.Commit.{commit, applied_worker, applied, apply_for, apply}
use Rattle.ns_types.specs.State.Lists.{first_each}
use Rattle.ns_types.specs.Settling.Making.{put_tenant, put_pool, change_tenant, with_status, with_desired, evaluation_for, make}
use Rattle.ns_types.specs.State.Names.{Name}
use Rattle.ns_types.specs.Settling.Outcome.{Outcome, NotEnabled, Done}
use Rattle.ns_types.specs.Placing.Plan.{plan}
use Rattle.ns_types.specs.Working.Queue.{promote, is_served}
use Rattle.ns_types.specs.Settling.Releases.{missed}
use Rattle.ns_types.specs.State.Rows.{World, Tenant, PoolRows, node_at}
use Rattle.ns_types.specs.Working.Snapshot.{snapshot_of}
use Rattle.ns_types.specs.Working.Work.{with_worker, without_worker, without_key, at_work, workers_end, is_idle, new_worker, taken, dequeue_in, dequeue}
use Rattle.ns_types.specs.Working.Work.{may_snap, with_snapshot, snap_for, snap, may_submit, submitted, submit_for, submit, may_finish, end_of, needs_follower}
use Rattle.ns_types.specs.Working.Work.{follower_of, blocked_of, without_blocked, ended, with_follower, followed, finished, finish_for, finish, is_submitted}
use Rattle.ns_types.specs.Working.Work.{most_nacks, with_nack, given_back, given_up, nack_for, nack}
use Rattle.ns_audit.proofs.Alone.Fixed.{fixed_stops}
use Rattle.ns_types.proofs.Decided.{decided_world}
use Rattle.ns_types.proofs.Leads.{Leads, leads_there, leads_if}
use Rattle.ns_audit.proofs.ValidRecords.Sound.{kept_of, IsRecorded, IsNear, near_pool, near_first}
use Rattle.ns_audit.proofs.ValidRecords.Frames.{kept_desired, kept_status, near_put_same, near_change, near_lists, near_make, near_each, near_promote}
use Rattle.ns_audit.proofs.ValidRecords.Nodes.{same_node_good}

-- ---- an evaluation ends

kept_ended : (number : ℕ) (worker : Worker) (e : Evaluation) (status : Status) (t : Tenant) → kept_of (ended number worker e status t) ≡ kept_of t
kept_ended number worker e status t = by (blocked_of closed e.job) ∙ kept_status worker.evaluation status (without_worker number t)
  where
    closed : Tenant
    closed = with_status worker.evaluation status (without_worker number t)

    by : (o : Option ℕ) → kept_of (option_map_or (λ n. with_status n Status.Canceled closed) o closed) ≡ kept_of closed
    by None = refl
    by (Some n) = kept_status n Status.Canceled closed

kept_follower : (n : ℕ) (follower : Evaluation) (t : Tenant) → kept_of (with_follower n follower t) ≡ kept_of t
kept_follower n follower t = elim (get t.evaluations n) as
    (λ (o : Option Evaluation). kept_of (option_map_or
    (λ e. record t { evaluations = insert t.evaluations n (record e { follower = Some (t.evaluation_number + 1) }) }) o t) ≡ kept_of t)
    [ Some e ↦ refl | None ↦ refl ]

-- ---- a worker's steps

module _ (w : World) (s : IsRecorded w) where
  here : IsNear w w
  here = near_first w s

  work_near : (number : ℕ) (ns : Name) (act : Tenant → Worker → Evaluation → Outcome World)
      → ((t : Tenant) (worker : Worker) (e : Evaluation) → get w.tenants ns ≡ Some t → Leads (IsNear w) (act t worker e)) →
      Leads (IsNear w) (at_work number ns w act)
  work_near number ns act h = leads_there (IsNear w) (get w.tenants ns) _
      (λ t is. leads_there (IsNear w) (get t.workers number) _
      (λ worker _. leads_there (IsNear w) (get t.evaluations worker.evaluation) (act t worker) (λ e _. h t worker e is)))

  keeping_near : (number : ℕ) (ns : Name) (act : Tenant → Worker → Evaluation → Snapshot → Outcome World)
      → ((t : Tenant) (worker : Worker) (e : Evaluation) (kept : Snapshot) → get w.tenants ns ≡ Some t → Leads (IsNear w) (act t worker e kept))
      → Leads (IsNear w) (at_work number ns w (λ t worker e. option_map_or (act t worker e) worker.kept NotEnabled))
  keeping_near number ns act h = work_near number ns (λ t worker e. option_map_or (act t worker e) worker.kept NotEnabled)
      (λ t worker e is. leads_there (IsNear w) worker.kept (act t worker e) (λ kept _. h t worker e kept is))

  put_same : (ns : Name) (t t' : Tenant) → get w.tenants ns ≡ Some t → kept_of t' ≡ kept_of t → IsNear w (put_tenant ns t' w)
  put_same ns t t' is same = near_put_same w w here ns t t' is same

  pub dequeue_near : (number : ℕ) (ns : Name) (n : ℕ) → Leads (IsNear w) (dequeue number (ns, n) w)
  unfolding dequeue
  dequeue_near number ns n = leads_if (IsNear w) (nat_lt number workers_end && is_idle w number && is_served w w.ready (ns, n))
      (option_map_or (dequeue_in number (ns, n) w) (get w.tenants ns) NotEnabled) NotEnabled (λ _.
      leads_there (IsNear w) (get w.tenants ns) (dequeue_in number (ns, n) w)
      (λ t is. leads_there (IsNear w) (get t.evaluations n) (λ e. Done (Content.Took n) (taken number (ns, n) w t e)) (λ e _.
      near_lists w (put_tenant ns (with_worker number (new_worker n e) t) w) (put_same ns t (with_worker number (new_worker n e) t) is refl)
      (without_key (ns, n) w.ready) w.plans w.blocked))) (λ _. tt)

  pub snap_near : (number : ℕ) (ns : Name) → Leads (IsNear w) (snap number ns w)
  unfolding snap
  snap_near number ns = work_near number ns (snap_for number ns w) (λ t worker e is.
      let t' = with_worker number (with_snapshot (snapshot_of w ns t worker.evaluation e) worker) t in
      leads_if (IsNear w) (may_snap worker.tries worker.phase) (Done (Content.Snapped worker.evaluation) (put_tenant ns t' w)) NotEnabled
      (λ _. put_same ns t t' is refl) (λ _. tt))

  pub submit_near : (number : ℕ) (ns : Name) → Leads (IsNear w) (submit number ns w)
  unfolding submit
  submit_near number ns = keeping_near number ns (λ t worker e. submit_for number ns w t worker) (λ t worker e kept is.
      let t' = with_worker number (record worker { phase = Phase.Submitted }) t in
      leads_if (IsNear w) (may_submit worker kept) (Done (Content.Queued worker.evaluation) (submitted number ns w t worker)) NotEnabled
      (λ _. near_lists w (put_tenant ns t' w) (put_same ns t t' is refl) w.ready (w.plans ++ (ns, worker.evaluation) ∷ []) w.blocked) (λ _. tt))

  pub nack_near : (number : ℕ) (ns : Name) → Leads (IsNear w) (nack number ns w)
  unfolding nack
  nack_near number ns = work_near number ns (nack_for number ns w) (λ t worker e is.
      let t' = with_nack worker.evaluation e t in
      let up = with_status worker.evaluation Status.Failed (without_worker number t') in
      leads_if (IsNear w) (is_submitted worker.phase) NotEnabled _ (λ _. tt) (λ _.
      leads_if (IsNear w) (nat_le most_nacks (e.nacks + 1)) (given_up number ns w t' worker e) (given_back number ns w t' worker)
      (λ _. near_promote w (put_tenant ns up w) (put_same ns t up is (kept_status worker.evaluation Status.Failed (without_worker number t'))) ns e.job)
      (λ _. near_lists w (put_tenant ns (without_worker number t') w) (put_same ns t (without_worker number t') is refl)
      (w.ready ++ (ns, worker.evaluation) ∷ []) w.plans w.blocked)))

  -- ---- Finish

  module _ (ns : Name) (number : ℕ) (t : Tenant) (worker : Worker) (e : Evaluation) (kept : Snapshot) (is : get w.tenants ns ≡ Some t) where
    abbrev less : World
    less = without_blocked ns e.job t w

    less_near : IsNear w less
    less_near = elim (blocked_of t e.job) as (λ (o : Option ℕ). IsNear w (option_map_or (λ n. record w { blocked = without_key (ns, n) w.blocked }) o w))
        [ Some n ↦ near_lists w w here w.ready w.plans (without_key (ns, n) w.blocked) | None ↦ here ]

    in_less : get less.tenants ns ≡ Some t
    in_less = elim (blocked_of t e.job) as (λ (o : Option ℕ). get (option_map_or (λ n. record w { blocked = without_key (ns, n) w.blocked }) o w).tenants
        ns ≡ Some t) [ Some n ↦ is | None ↦ is ]

    abbrev t' : Tenant
    t' = ended number worker e (end_of worker) t

    follower_near : (follower : Evaluation) → IsNear w (put_tenant ns (with_follower worker.evaluation follower t') less)
    follower_near follower = near_put_same w less less_near ns t (with_follower worker.evaluation follower t') in_less
        (kept_follower worker.evaluation follower t' ∙ kept_ended number worker e (end_of worker) t)

    followed_near : (late : Bool) → IsNear w (followed ns worker (follower_of e worker kept) t' late less)
    followed_near true = follower_near (record (follower_of e worker kept) { status = Status.Pending })
    followed_near false = near_lists w (put_tenant ns (with_follower worker.evaluation (follower_of e worker kept) t') less)
        (follower_near (follower_of e worker kept)) less.ready less.plans (less.blocked ++ (ns, t'.evaluation_number + 1) ∷ [])

    finished_near : Leads (IsNear w) (finished number ns w t worker e kept)
    finished_near = leads_if (IsNear w) (needs_follower worker kept)
        (Done (Content.Finished (end_of worker) (Some (t.evaluation_number + 1)))
        (promote ns e.job (followed ns worker (follower_of e worker kept) t' (missed w kept (follower_of e worker kept)) less)))
        (Done (Content.Finished (end_of worker) None) (promote ns e.job (put_tenant ns t' less)))
        (λ _. near_promote w (followed ns worker (follower_of e worker kept) t' (missed w kept (follower_of e worker kept)) less)
        (followed_near (missed w kept (follower_of e worker kept))) ns e.job)
        (λ _. near_promote w (put_tenant ns t' less) (near_put_same w less less_near ns t t' in_less (kept_ended number worker e (end_of worker) t)) ns e.job)

  pub finish_near : (number : ℕ) (ns : Name) → Leads (IsNear w) (finish number ns w)
  unfolding finish
  finish_near number ns = keeping_near number ns (finish_for number ns w) (λ t worker e kept is.
      leads_if (IsNear w) (may_finish worker kept) (finished number ns w t worker e kept) NotEnabled (λ _. finished_near ns number t worker e kept is)
      (λ _. tt))

-- ---- Apply

module _ (w : World) where
  evicted_near : (vs : List Eviction) (y : World) → IsNear w y → IsNear w (evict_all y vs)
  evicted_near = near_each w evict (λ y v h. near_change w y h v.namespace (with_desired v.number DesiredStatus.Evict)
      (kept_desired v.number DesiredStatus.Evict))

  decided_near : (kept : Snapshot) (ps : List Placement) (ks : List ℕ) (c : Commit) → IsNear w c.world → IsNear w (fold (decide kept ps) c ks).world
  decided_near = decided_world (IsNear w) evicted_near

  -- a placement counts on its node, which is there
  placed_near : (kept : Snapshot) (p : Placement) (y : World) → IsNear w y → IsNear w (place_one kept y p)
  unfolding place_one
  placed_near kept p y h = job kept.job
    where
      name : Name
      name = node_name kept p.node

      counted_near : (n : Node) (x : World) → IsNear w x → (o : Option PoolRows) → get x.pools kept.pool ≡ o →
          option_and_then (λ p. get p.nodes name) o ≡ Some n
          → IsNear w (option_map_or (λ p'. put_pool kept.pool (with_place name n p') x) o x)
      counted_near n x g None is at = g
      counted_near n x g (Some p') is at = near_pool w x g kept.pool p' (with_place name n p') is
          (same_node_good kept.pool p' (g.pool kept.pool p' is) name n (record n { places = n.places + 1 }) at refl)

      changed : Job → Node → World
      changed j n = change_tenant kept.namespace (with_allocation (new_allocation kept j p n)) y

      same_pools : (f : Tenant → Tenant) → (change_tenant kept.namespace f y).pools ≡ y.pools
      same_pools f = elim (get y.tenants kept.namespace) as
          (λ (o : Option Tenant). (option_map_or (λ t. put_tenant kept.namespace (f t) y) o y).pools ≡ y.pools) [ None ↦ refl | Some t ↦ refl ]

      node : (j : Job) (o : Option Node) → node_at y kept.pool name ≡ o → IsNear w (option_map_or (place_with kept p y j) o y)
      node j None at = h
      node j (Some n) at = counted_near n (changed j n) (near_change w y h kept.namespace (with_allocation (new_allocation kept j p n)) (λ t. refl))
          (get (changed j n).pools kept.pool) refl
          (ap (λ m. option_and_then (λ (p : PoolRows). get p.nodes name) (get m kept.pool)) (same_pools (with_allocation (new_allocation kept j p n))) ∙ at)

      job : (o : Option Job) → IsNear w (option_map_or (λ job. option_map_or (place_with kept p y job) (node_at y kept.pool name) y) o y)
      job None = h
      job (Some j) = node j (node_at y kept.pool name) refl

  made_up_near : (victims : List Victim) (y : World) → IsNear w y → IsNear w (make_up victims y)
  unfolding make_up
  made_up_near victims y h = near_each w (λ x v. make v.0 (λ t. evaluation_for t (least_of_job victims v) Trigger.Preemption) x)
      (λ x v g. near_make w x g v.0 (λ t. evaluation_for t (least_of_job victims v) Trigger.Preemption)) (first_each same_victim_job victims) y h

  commit_near : (kept : Snapshot) (p : Plan) (t : Tenant) → IsNear w w → IsNear w (commit kept p w t).world
  unfolding commit
  commit_near kept p t h = elim (still_stands kept.job (get t.jobs kept.evaluation.job)) as
      (λ b. IsNear w (cond b (done kept p w t) (refused_whole kept p w)).world) [
        | true ↦ whole (stop_all kept.namespace stops w) (near_change w w h kept.namespace _ (fixed_stops kept_of (λ t n e. refl) (λ t n a. refl) stops))
        | false ↦ h
      ]
    where
      stops : List ℕ
      stops = live_stops t p.stops

      whole : (x : World) → IsNear w x → IsNear w
          (done_with kept t stops p.placing.placements x (fold (decide kept p.placing.placements) (begun x) (nodes_in p.placing.placements))).world
      whole x g =
          let c = fold (decide kept p.placing.placements) (begun x) (nodes_in p.placing.placements) in
          let placed = committed_placements c p.placing.placements in
          made_up_near (evicted_rows x kept placed) (place_all kept c.world placed)
          (near_each w (place_one kept) (λ y q. placed_near kept q y) placed c.world
          (decided_near kept p.placing.placements (nodes_in p.placing.placements) (begun x) g))

pub apply_near : (w : World) → IsRecorded w → (number : ℕ) (ns : Name) → Leads (IsNear w) (apply number ns w)
unfolding apply
apply_near w s number ns = keeping_near w s number ns (apply_for number ns w) (λ t worker e kept is.
    leads_if (IsNear w) (is_submitted worker.phase && is_served w w.plans (ns, worker.evaluation)) (applied number ns worker e (commit kept (plan kept) w t))
    NotEnabled
    (λ _. by worker e (commit kept (plan kept) w t) (commit_near w kept (plan kept) t (near_first w s))) (λ _. tt))
  where
    by : (worker : Worker) (e : Evaluation) (a : Applied) → IsNear w a.world → Leads (IsNear w) (applied number ns worker e a)
    by worker e a h =
        let x = change_tenant ns (with_worker number (applied_worker a worker e)) a.world in
        near_lists w x (near_change w a.world h ns (with_worker number (applied_worker a worker e)) (λ t. refl)) x.ready
        (without_key (ns, worker.evaluation) a.world.plans) x.blocked
