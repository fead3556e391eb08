-- No step's own change, but that of a Finish, changes the list of blocked evaluations.
use Rattle.std.specs.Prelude.{◌≡◌, ◌≢◌, ℕ, ◌+◌, Bool, true, false, cond, ◌&&◌, List, [], ◌∷◌, Option, Some, None, fold, nat_le}
use Rattle.std.specs.Prelude.{nat_lt}
use Rattle.std.proofs.Common.{refl, ◌∙◌}
use Rattle.std.specs.FinMap.{get}
use Rattle.std.specs.Option.{option_map_or}
use Rattle.ns_types.specs.declared.allocation.Allocation.{Allocation}
use Rattle.ns_types.specs.declared.allocation.DesiredStatus.{DesiredStatus}
use Rattle.ns_types.specs.declared.evaluation.Evaluation.{Evaluation}
use Rattle.ns_types.specs.declared.evaluation.Trigger.TheVariants as Trigger
use Rattle.ns_types.specs.declared.job.Job.{Job}
use Rattle.ns_types.specs.declared.node.Node.{Node}
use Rattle.ns_types.specs.declared.node.NodeStatus.{NodeStatus}
use Rattle.ns_types.specs.declared.plan.Eviction.{Eviction}
use Rattle.ns_types.specs.declared.plan.Placement.{Placement}
use Rattle.ns_types.specs.declared.plan.Plan.{Plan}
use Rattle.ns_types.specs.declared.refusal.Refusal.TheVariants as Refusal
use Rattle.ns_types.specs.declared.reply.Content.{Content}
use Rattle.ns_types.specs.declared.snapshot.Snapshot.{Snapshot}
use Rattle.ns_types.specs.declared.step.AdminCommand.{AdminCommand}
use Rattle.ns_types.specs.declared.step.AskCommand.{AskCommand}
use Rattle.ns_types.specs.declared.step.NodeCommand.{NodeCommand}
use Rattle.ns_types.specs.declared.step.Report.{Report}
use Rattle.ns_types.specs.declared.step.Step.{Step}
use Rattle.ns_types.specs.Asking.Asks.{ask, asked_in}
use Rattle.ns_types.specs.Asking.Nodes.{ask_pool, asked_in_pool, calls_for_one, go_down, lose, losses, reported, same_client}
use Rattle.ns_types.specs.Asking.Policies.{administer, with_world}
use Rattle.ns_types.specs.Placing.Plan.{plan}
use Rattle.ns_types.specs.Settling.Making.{change_tenant, evaluation_for, make, make_in, put_pool, put_tenant, with_client}
use Rattle.ns_types.specs.Settling.Making.{with_desired, with_evaluation, with_node}
use Rattle.ns_types.specs.Settling.Outcome.{Outcome, NotEnabled, lift}
use Rattle.ns_types.specs.State.Names.{Key, Name}
use Rattle.ns_types.specs.State.Rows.{State, World, Tenant, PoolRows, allocation_at, is_ready, node_at}
use Rattle.ns_types.specs.Working.Commit.{Commit, Victim, accepts_at, apply, apply_for, applied_worker, begun, commit, committed_placements}
use Rattle.ns_types.specs.Working.Commit.{counted, decide, done, done_with, evict, evict_all, evicted_rows, live_stops, new_allocation, nodes_in}
use Rattle.ns_types.specs.Working.Commit.{refused_whole, with_allocation, with_place}
use Rattle.ns_types.specs.Working.Commit.{least_of_job, make_up, node_name, part_of, place_all, place_one, place_with, same_victim_job, still_stands, stop_all}
use Rattle.ns_types.specs.Working.Commit.{victims_of}
use Rattle.ns_types.specs.Working.Queue.{is_served}
use Rattle.ns_types.specs.Working.Work.{at_work, dequeue, dequeue_in, is_idle, is_submitted, may_snap, may_submit, most_nacks, nack, nack_for, snap, snap_for}
use Rattle.ns_types.specs.Working.Work.{submit, submit_for, with_worker, workers_end}
use Rattle.ns_types.specs.Working.Worker.{Worker}
use Rattle.ns_types.specs.Steps.{act}
use Rattle.ns_types.specs.State.Lists.{first_each}
use Rattle.ns_types.proofs.Queue.{queue_keeps}
use Rattle.ns_laws.proofs.CommandLemmas.{leads_administered, leads_asked}
use Rattle.ns_laws.proofs.Effect.Rows.{Does, does_found, does_if, does_led, does_lift, does_unless}
use Rattle.ns_laws.proofs.QueueLemmas.{promote_part}

-- ---- changes of worlds

pub change_keeps : (ns : Name) (f : Tenant → Tenant) (w : World) → (change_tenant ns f w).blocked ≡ w.blocked
change_keeps ns f w = by (get w.tenants ns)
  where
    by : (o : Option Tenant) → (option_map_or (λ t. put_tenant ns (f t) w) o w).blocked ≡ w.blocked
    by None = refl
    by (Some t) = refl

pub made_keeps : (ns : Name) (e : Evaluation) (w : World) (t : Tenant) → (make_in ns e w t).blocked ≡ w.blocked
made_keeps ns e w t = queue_keeps (λ y. y.blocked) (λ y keys. refl) (put_tenant ns (with_evaluation e t) w) (ns, t.evaluation_number + 1)

make_keeps : (ns : Name) (evaluation : Tenant → Evaluation) (w : World) → (make ns evaluation w).blocked ≡ w.blocked
make_keeps ns evaluation w = by (get w.tenants ns)
  where
    by : (o : Option Tenant) → (option_map_or (λ t. make_in ns (evaluation t) w t) o w).blocked ≡ w.blocked
    by None = refl
    by (Some t) = made_keeps ns (evaluation t) w t

fold_keeps : {A : Type 0} (f : World → A → World) → ((w : World) (a : A) → (f w a).blocked ≡ w.blocked) → (xs : List A) (w : World) →
    (fold f w xs).blocked ≡ w.blocked
fold_keeps f keeps [] w = refl
fold_keeps f keeps (x ∷ xs) w = fold_keeps f keeps xs (f w x) ∙ keeps w x

down_keeps : (pool node : Name) (w : World) → (go_down pool node w).blocked ≡ w.blocked
unfolding go_down
down_keeps pool node w = fold_keeps (λ x loss. make loss.0 (λ t. evaluation_for t loss.1 Trigger.NodeUpdate) x)
    (λ x loss. make_keeps loss.0 (λ t. evaluation_for t loss.1 Trigger.NodeUpdate) x) (losses pool node w) (lose pool node w)

-- ---- Apply

evicts_keep : (victims : List Eviction) (w : World) → (evict_all w victims).blocked ≡ w.blocked
evicts_keep victims w = fold_keeps evict (λ w e. change_keeps e.namespace (with_desired e.number DesiredStatus.Evict) w) victims w

one_of : (b : Bool) (c d : Commit) (keys : List Key) → c.world.blocked ≡ keys → d.world.blocked ≡ keys → (cond b c d).world.blocked ≡ keys
one_of true c d keys e f = e
one_of false c d keys e f = f

decide_keeps : (kept : Snapshot) (placements : List Placement) (c : Commit) (k : ℕ) → (decide kept placements c k).world.blocked ≡ c.world.blocked
unfolding decide
decide_keeps kept placements c k =
    one_of (accepts_at kept (evict_all c.world (victims_of c.world kept (part_of k placements))) (node_name kept k) (part_of k placements) c.placed)
    _ _ c.world.blocked
    (evicts_keep (victims_of c.world kept (part_of k placements)) c.world) refl

decides_keep : (kept : Snapshot) (placements : List Placement) (nodes : List ℕ) (c : Commit) →
    (fold (decide kept placements) c nodes).world.blocked ≡ c.world.blocked
decides_keep kept placements [] c = refl
decides_keep kept placements (k ∷ nodes) c = decides_keep kept placements nodes (decide kept placements c k) ∙ decide_keeps kept placements c k

counted_keeps : (pool name : Name) (node : Node) (w : World) → (counted pool name node w).blocked ≡ w.blocked
counted_keeps pool name node w = by (get w.pools pool)
  where
    by : (o : Option PoolRows) → (option_map_or (λ p. put_pool pool (with_place name node p) w) o w).blocked ≡ w.blocked
    by None = refl
    by (Some p) = refl

place_keeps : (kept : Snapshot) (w : World) (p : Placement) → (place_one kept w p).blocked ≡ w.blocked
unfolding place_one
place_keeps kept w p = by kept.job
  where
    placed : (job : Job) (node : Node) → (place_with kept p w job node).blocked ≡ w.blocked
    placed job node = counted_keeps kept.pool (node_name kept p.node) node (change_tenant kept.namespace (with_allocation (new_allocation kept job p node)) w)
        ∙ change_keeps kept.namespace (with_allocation (new_allocation kept job p node)) w

    at : (job : Job) (o : Option Node) → (option_map_or (place_with kept p w job) o w).blocked ≡ w.blocked
    at job None = refl
    at job (Some node) = placed job node

    by : (o : Option Job) →
        (option_map_or (λ job. option_map_or (place_with kept p w job) (node_at w kept.pool (node_name kept p.node)) w) o w).blocked ≡ w.blocked
    by None = refl
    by (Some job) = at job (node_at w kept.pool (node_name kept p.node))

make_up_keeps : (victims : List Victim) (w : World) → (make_up victims w).blocked ≡ w.blocked
unfolding make_up
make_up_keeps victims w = fold_keeps (λ x v. make v.0 (λ t. evaluation_for t (least_of_job victims v) Trigger.Preemption) x)
    (λ x v. make_keeps v.0 (λ t. evaluation_for t (least_of_job victims v) Trigger.Preemption) x) (first_each same_victim_job victims) w

done_keeps : (kept : Snapshot) (t : Tenant) (stops : List ℕ) (placements : List Placement) (stopped : World) (c : Commit) →
    (done_with kept t stops placements stopped c).world.blocked ≡ c.world.blocked
done_keeps kept t stops placements stopped c =
    make_up_keeps (evicted_rows stopped kept (committed_placements c placements)) (place_all kept c.world (committed_placements c placements))
    ∙ fold_keeps (place_one kept) (place_keeps kept) (committed_placements c placements) c.world

commit_keeps : (kept : Snapshot) (p : Plan) (w : World) (t : Tenant) → (commit kept p w t).world.blocked ≡ w.blocked
unfolding commit
commit_keeps kept p w t = by (still_stands kept.job (get t.jobs kept.evaluation.job))
  where
    stopped : World
    stopped = stop_all kept.namespace (live_stops t p.stops) w

    by : (b : Bool) → (cond b (done kept p w t) (refused_whole kept p w)).world.blocked ≡ w.blocked
    by true = done_keeps kept t (live_stops t p.stops) p.placing.placements stopped
        (fold (decide kept p.placing.placements) (begun stopped) (nodes_in p.placing.placements))
        ∙ decides_keep kept p.placing.placements (nodes_in p.placing.placements) (begun stopped)
        ∙ change_keeps kept.namespace (λ u. fold (λ x n. with_desired n DesiredStatus.Stop x) u (live_stops t p.stops)) w
    by false = refl

-- ---- outcomes

abbrev Keeps : World → Content → World → Type 0
Keeps w content y = y.blocked ≡ w.blocked

does_option : {S A : Type 0} (Q : Content → S → Type 0) (f : A → Outcome S) → ((a : A) → Does Q (f a)) → (o : Option A) → Does Q (option_map_or f o NotEnabled)
does_option Q f h None = tt
does_option Q f h (Some a) = h a

does_work : (w : World) (number : ℕ) (ns : Name) (f : Tenant → Worker → Evaluation → Outcome World) →
    ((t : Tenant) (worker : Worker) (e : Evaluation) → Does (Keeps w) (f t worker e)) → Does (Keeps w) (at_work number ns w f)
does_work w number ns f h = does_option (Keeps w) (λ t. option_map_or
    (λ worker. option_map_or (f t worker) (get t.evaluations worker.evaluation) NotEnabled) (get t.workers number) NotEnabled)
    (λ t. does_option (Keeps w) (λ worker. option_map_or (f t worker) (get t.evaluations worker.evaluation) NotEnabled)
    (λ worker. does_option (Keeps w) (f t worker) (h t worker) (get t.evaluations worker.evaluation)) (get t.workers number)) (get w.tenants ns)

module _ (w : World) where
  asked_keeps : (ns : Name) (t : Tenant) (command : AskCommand) → Does (Keeps w) (asked_in ns command w t)
  asked_keeps ns t command = does_led (λ (y : World). y.blocked ≡ w.blocked) (asked_in ns command w t)
      (leads_asked w ns t (λ _ y. y.blocked ≡ w.blocked) (λ _. refl) (λ r. made_keeps ns _ w _) (λ id purge job there. made_keeps ns _ w _)
      (λ n a there live. made_keeps ns _ w _) command)

  reported_keeps : (r : Report) (a : Allocation) → (reported r a w).blocked ≡ w.blocked
  reported_keeps r a = by (option_map_or (λ t. calls_for_one t a r.client) (get w.tenants r.namespace) false)
    where
      by : (b : Bool) → (cond b (make r.namespace (λ t. evaluation_for t a Trigger.AllocFailure) (change_tenant r.namespace (with_client r.number r.client) w))
          (change_tenant r.namespace (with_client r.number r.client) w)).blocked ≡ w.blocked
      by true = make_keeps r.namespace (λ t. evaluation_for t a Trigger.AllocFailure) (change_tenant r.namespace (with_client r.number r.client) w)
          ∙ change_keeps r.namespace (with_client r.number r.client) w
      by false = change_keeps r.namespace (with_client r.number r.client) w

  status_keeps : (pool name : Name) (status : NodeStatus) (p : PoolRows) (node : Node) → (b : Bool) →
      (cond b (put_pool pool (with_node name node p) w) (go_down pool name (put_pool pool (with_node name node p) w))).blocked ≡ w.blocked
  status_keeps pool name status p node true = refl
  status_keeps pool name status p node false = down_keeps pool name (put_pool pool (with_node name node p) w)

  pool_keeps : (pool : Name) (p : PoolRows) (command : NodeCommand) → Does (Keeps w) (asked_in_pool pool command w p)
  pool_keeps pool p NodeCommand.ReadPool = refl
  pool_keeps pool p NodeCommand.ListNodes = refl
  pool_keeps pool p (NodeCommand.PutNode name offer) = does_unless (Keeps w) _ Refusal.InUse _ (λ _. does_unless (Keeps w) _ Refusal.Full _ (λ _. refl))
  pool_keeps pool p (NodeCommand.DeleteNode name) = does_found (Keeps w) (get p.nodes name) _
      (λ node there. does_unless (Keeps w) _ Refusal.InUse _ (λ _. refl))
  pool_keeps pool p (NodeCommand.SetStatus name status) = does_found (Keeps w) (get p.nodes name) _
      (λ node there. status_keeps pool name status p (record node { status = status }) (is_ready status))
  pool_keeps pool p (NodeCommand.SetEligible name eligible) = does_found (Keeps w) (get p.nodes name) _ (λ node there. refl)
  pool_keeps pool p (NodeCommand.Report name r) = does_found (Keeps w) (get p.nodes name) _
      (λ node there. does_found (Keeps w) (allocation_at w (r.namespace, r.number)) _ (λ a is. does_unless (Keeps w) _ Refusal.NotFound _
      (λ _. does_if (Keeps w) (same_client a.client r.client) _ _ (λ _. refl) (λ _. does_unless (Keeps w) _ Refusal.Conflict _ (λ _. reported_keeps r a)))))

  dequeue_keeps : (number : ℕ) (key : Key) → Does (Keeps w) (dequeue number key w)
  unfolding dequeue
  dequeue_keeps number key = does_if (Keeps w) (nat_lt number workers_end && is_idle w number && is_served w w.ready key) _ _
      (λ _. does_option (Keeps w) (dequeue_in number key w) (λ t. does_option (Keeps w) _ (λ e. refl) (get t.evaluations key.1)) (get w.tenants key.0))
      (λ _. tt)

  snap_keeps : (number : ℕ) (ns : Name) → Does (Keeps w) (snap number ns w)
  unfolding snap
  snap_keeps number ns = does_work w number ns (snap_for number ns w)
      (λ t worker e. does_if (Keeps w) (may_snap worker.tries worker.phase) _ _ (λ _. refl) (λ _. tt))

  submit_keeps : (number : ℕ) (ns : Name) → Does (Keeps w) (submit number ns w)
  unfolding submit
  submit_keeps number ns = does_work w number ns (λ t worker e. option_map_or (submit_for number ns w t worker) worker.kept NotEnabled)
      (λ t worker e. does_option (Keeps w) (submit_for number ns w t worker)
      (λ kept. does_if (Keeps w) (may_submit worker kept) _ _ (λ _. refl) (λ _. tt)) worker.kept)

  apply_keeps : (number : ℕ) (ns : Name) → Does (Keeps w) (apply number ns w)
  unfolding apply
  apply_keeps number ns = does_work w number ns (λ t worker e. option_map_or (apply_for number ns w t worker e) worker.kept NotEnabled)
      (λ t worker e. does_option (Keeps w) (apply_for number ns w t worker e)
      (λ kept. does_if (Keeps w) (is_submitted worker.phase && is_served w w.plans (ns, worker.evaluation)) _ _
      (λ _. change_keeps ns (with_worker number (applied_worker (commit kept (plan kept) w t) worker e)) (commit kept (plan kept) w t).world
      ∙ commit_keeps kept (plan kept) w t) (λ _. tt)) worker.kept)

  nack_keeps : (number : ℕ) (ns : Name) → Does (Keeps w) (nack number ns w)
  unfolding nack
  nack_keeps number ns = does_work w number ns (nack_for number ns w) (λ t worker e. does_if (Keeps w) (is_submitted worker.phase) _ _ (λ _. tt)
      (λ _. does_if (Keeps w) (nat_le most_nacks (e.nacks + 1)) _ _ (λ _. promote_part (λ y. y.blocked) (λ y keys. refl) ns e.job _) (λ _. refl)))

-- ---- steps

module _ (s : State) where
  abbrev StateKeeps : Content → State → Type 0
  StateKeeps content y = y.world.blocked ≡ s.world.blocked

  in_world : (o : Outcome World) → Does (Keeps s.world) o → Does StateKeeps (lift (with_world s.acl) o)
  in_world o h = does_lift StateKeeps (with_world s.acl) o h

  admin_keeps : (secret : Option Name) (command : AdminCommand) → Does StateKeeps (administer secret command s)
  admin_keeps secret command = does_led (λ (y : State). y.world.blocked ≡ s.world.blocked) (administer secret command s)
      (leads_administered s (λ _ x. x.blocked ≡ s.world.blocked) (λ _ quotas pools. refl) (λ name namespace. refl) (λ name t is shut none_live. refl)
      secret command)

  pub own_blocked : (step : Step) → ((worker : ℕ) (ns : Name) → step ≢ Step.Finish worker ns) → Does StateKeeps (act step s)
  unfolding act ask ask_pool
  own_blocked (Step.Ask ns secret command) other = in_world (ask ns command s.world)
      (does_found (Keeps s.world) (get s.world.tenants ns) (asked_in ns command s.world) (λ t is. asked_keeps s.world ns t command))
  own_blocked (Step.Admin secret command) other = admin_keeps secret command
  own_blocked (Step.Node pool secret command) other = in_world (ask_pool pool command s.world)
      (does_found (Keeps s.world) (get s.world.pools pool) (asked_in_pool pool command s.world) (λ p is. pool_keeps s.world pool p command))
  own_blocked (Step.Dequeue worker ns n) other = in_world (dequeue worker (ns, n) s.world) (dequeue_keeps s.world worker (ns, n))
  own_blocked (Step.Snap worker ns) other = in_world (snap worker ns s.world) (snap_keeps s.world worker ns)
  own_blocked (Step.Submit worker ns) other = in_world (submit worker ns s.world) (submit_keeps s.world worker ns)
  own_blocked (Step.Apply worker ns) other = in_world (apply worker ns s.world) (apply_keeps s.world worker ns)
  own_blocked (Step.Finish worker ns) other = absurd (other worker ns refl)
  own_blocked (Step.Nack worker ns) other = in_world (nack worker ns s.world) (nack_keeps s.world worker ns)
