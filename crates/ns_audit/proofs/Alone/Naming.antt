-- No step but an administrator's changes the record of a namespace.
use Rattle.std.specs.Prelude.{◌≡◌, ℕ, ◌+◌, Bool, true, false, cond, List, [], ◌∷◌, ◌++◌, Option, Some, None, ◌&&◌, fold}
use Rattle.std.proofs.Common.{refl, ◌∙◌}
use Rattle.std.specs.FinMap.{get, insert}
use Rattle.std.specs.Option.{option_map_or}
use Rattle.ns_types.specs.Access.Sharing.{namespace_at}
use Rattle.ns_types.specs.declared.allocation.Allocation.{Allocation}
use Rattle.ns_types.specs.declared.allocation.ClientStatus.{ClientStatus}
use Rattle.ns_types.specs.declared.allocation.DesiredStatus.{DesiredStatus}
use Rattle.ns_types.specs.declared.evaluation.Evaluation.{Evaluation}
use Rattle.ns_types.specs.declared.evaluation.Status.{Status}
use Rattle.ns_types.specs.declared.evaluation.Trigger.TheVariants as Trigger
use Rattle.ns_types.specs.declared.job.Job.{Job}
use Rattle.ns_types.specs.declared.plan.Placement.{Placement}
use Rattle.ns_types.specs.declared.refusal.Refusal.{Refusal}
use Rattle.ns_types.specs.declared.snapshot.Snapshot.{Snapshot}
use Rattle.ns_types.specs.declared.step.AskCommand.{AskCommand}
use Rattle.ns_types.specs.declared.step.NodeCommand.{NodeCommand}
use Rattle.ns_types.specs.declared.step.Report.{Report}
use Rattle.ns_types.specs.declared.step.Step.{Step}
use Rattle.ns_types.specs.Working.Worker.{Worker}
use Rattle.ns_types.specs.Asking.Asks.{deregistered, asked_in, ask, first_refusal}
use Rattle.ns_types.specs.Working.Commit.{Commit, decide, place_one, commit, applied_worker, applied, apply_for, apply}
use Rattle.ns_types.specs.Settling.Making.{put_tenant, change_tenant, put_pool, with_status, with_desired, with_client, evaluation_for, make_in, make}
use Rattle.ns_types.specs.State.Names.{Name}
use Rattle.std.specs.Prelude.{not}
use Rattle.ns_types.specs.State.Rows.{allocation_at}
use Rattle.ns_types.specs.Asking.Nodes.{is_on, report_of, same_client, may_become, lose, lost, losses, go_down, reported, calls_for_one, asked_in_pool}
use Rattle.ns_types.specs.Asking.Nodes.{ask_pool}
use Rattle.ns_types.specs.Settling.Outcome.{Outcome, NotEnabled, Refused, Done, unless}
use Rattle.ns_types.specs.Working.Queue.{promote, first_waiting, is_busy}
use Rattle.ns_types.specs.State.Rows.{World, Tenant, PoolRows}
use Rattle.ns_types.specs.State.Tables.{map_rows}
use Rattle.ns_types.specs.Placing.Plan.{plan}
use Rattle.ns_types.specs.declared.plan.Plan.{Plan}
use Rattle.ns_types.specs.Settling.Releases.{missed}
use Rattle.ns_types.specs.State.Rows.{is_ready}
use Rattle.std.specs.Prelude.{nat_le}
use Rattle.ns_types.specs.declared.reply.Content.TheVariants as Content
use Rattle.ns_types.specs.Working.Queue.{is_served}
use Rattle.ns_types.specs.State.Sums.{names_quota, quota_use}
use Rattle.std.specs.Prelude.{nat_lt}
use Rattle.ns_types.specs.declared.worker.Phase.TheVariants as Phase
use Rattle.ns_types.specs.Working.Snapshot.{snapshot_of}
use Rattle.ns_types.specs.Working.Work.{workers_end, is_idle, new_worker, taken, may_snap, with_snapshot, may_submit, submitted, is_submitted, most_nacks}
use Rattle.ns_types.specs.Working.Work.{given_up, given_back, may_finish, needs_follower, finished, snap_for, submit_for, finish_for, nack_for, follower_of}
use Rattle.ns_types.specs.Working.Work.{end_of, without_key, at_work, with_worker, without_worker, cancel_blocked, blocked_of, without_blocked, ended}
use Rattle.ns_types.specs.Working.Work.{with_follower, followed, dequeue_in, dequeue, snap, submit, finish, nack, with_nack}
use Rattle.ns_types.specs.declared.records.Namespace.{Namespace}
use Rattle.ns_audit.proofs.Alone.Fixed.{fixed_put, fixed_change, fixed_make_in, fixed_make, fixed_each, fixed_desired, fixed_stops, fixed_decided, fixed_placed}
use Rattle.ns_audit.proofs.Alone.Fixed.{fixed_commit}
use Rattle.ns_types.proofs.Leads.{Leads, leads_unless, leads_refused, leads_found, leads_there, leads_if}
use Rattle.ns_audit.proofs.Alone.Recording.{record_kept}
use Rattle.ns_audit.proofs.Alone.Sides.{change}

-- both worlds have the same records of namespaces
abbrev pub SameNamed : World → World → Type 0
SameNamed w x = (k : Name) → namespace_at x k ≡ namespace_at w k

abbrev its_record : Tenant → Namespace
its_record t = t.namespace

named_put : (ns : Name) (t t' : Tenant) (w : World) → get w.tenants ns ≡ Some t → t'.namespace ≡ t.namespace → SameNamed w (put_tenant ns t' w)
named_put = fixed_put its_record (λ t n e. refl) (λ t n a. refl)

pub named_change : (ns : Name) (f : Tenant → Tenant) → ((t : Tenant) → (f t).namespace ≡ t.namespace) → (w : World) → SameNamed w (change_tenant ns f w)
named_change = fixed_change its_record (λ t n e. refl) (λ t n a. refl)

named_make_in : (ns : Name) (e : Evaluation) (t t' : Tenant) (w : World) → get w.tenants ns ≡ Some t → t'.namespace ≡ t.namespace →
    SameNamed w (make_in ns e w t')
named_make_in = fixed_make_in its_record (λ t n e. refl) (λ t n a. refl)

pub named_make : (ns : Name) (evaluation : Tenant → Evaluation) (w : World) → SameNamed w (make ns evaluation w)
named_make = fixed_make its_record (λ t n e. refl) (λ t n a. refl)

pub named_each : {A : Type 0} (f : World → A → World) → ((w : World) (x : A) → SameNamed w (f w x)) → (xs : List A) (w : World) → SameNamed w (fold f w xs)
named_each = fixed_each its_record (λ t n e. refl) (λ t n a. refl)

named_promote : (ns job : Name) (w : World) → SameNamed w (promote ns job w)
unfolding promote
named_promote ns job w k = elim (is_busy w ns job) as
    (λ b. namespace_at (cond b w (option_map_or (λ t. option_map_or (λ n. record w { ready = w.ready ++ (ns, n) ∷ [] }) (first_waiting job t) w)
    (get w.tenants ns) w)) k ≡ namespace_at w k) [ true ↦ refl | false ↦ tenant (get w.tenants ns) ]
  where
    waiting : (o : Option ℕ) → namespace_at (option_map_or (λ n. record w { ready = w.ready ++ (ns, n) ∷ [] }) o w) k ≡ namespace_at w k
    waiting None = refl
    waiting (Some n) = refl

    tenant : (o : Option Tenant) → namespace_at (option_map_or (λ t. option_map_or (λ n. record w { ready = w.ready ++ (ns, n) ∷ [] }) (first_waiting job t) w)
        o w) k ≡ namespace_at w k
    tenant None = refl
    tenant (Some t) = waiting (first_waiting job t)

-- ---- rows of one namespace

pub status_same : (n : ℕ) (status : Status) (t : Tenant) → (with_status n status t).namespace ≡ t.namespace
status_same n status t = elim (get t.evaluations n) as
    (λ (o : Option Evaluation). (option_map_or (λ e. record t { evaluations = insert t.evaluations n (record e { status = status }) })
    o t).namespace ≡ t.namespace) [ Some e ↦ refl | None ↦ refl ]

pub desired_same : (n : ℕ) (desired : DesiredStatus) (t : Tenant) → (with_desired n desired t).namespace ≡ t.namespace
desired_same = fixed_desired its_record (λ t n e. refl) (λ t n a. refl)

pub client_same : (n : ℕ) (client : ClientStatus) (t : Tenant) → (with_client n client t).namespace ≡ t.namespace
client_same n client t = elim (get t.allocations n) as
    (λ (o : Option Allocation). (option_map_or (λ a. record t { allocations = insert t.allocations n (record a { client = client }) })
    o t).namespace ≡ t.namespace) [ Some a ↦ refl | None ↦ refl ]

pub stops_same : (stops : List ℕ) (t : Tenant) → (fold (λ x n. with_desired n DesiredStatus.Stop x) t stops).namespace ≡ t.namespace
stops_same = fixed_stops its_record (λ t n e. refl) (λ t n a. refl)

cancel_same : (job : Name) (t : Tenant) → (cancel_blocked job t).namespace ≡ t.namespace
cancel_same job t = by (blocked_of t job)
  where
    by : (o : Option ℕ) → (option_map_or (λ n. with_status n Status.Canceled t) o t).namespace ≡ t.namespace
    by None = refl
    by (Some n) = status_same n Status.Canceled t

pub ended_same : (number : ℕ) (worker : Worker) (e : Evaluation) (status : Status) (t : Tenant) → (ended number worker e status t).namespace ≡ t.namespace
ended_same number worker e status t = cancel_same e.job (with_status worker.evaluation status (without_worker number t)) ∙
    status_same worker.evaluation status (without_worker number t)

follower_same : (n : ℕ) (follower : Evaluation) (t : Tenant) → (with_follower n follower t).namespace ≡ t.namespace
follower_same n follower t = elim (get t.evaluations n) as
    (λ (o : Option Evaluation). (option_map_or (λ e. record t { evaluations = insert t.evaluations n (record e { follower = Some (t.evaluation_number + 1) }) })
    o t).namespace ≡ t.namespace) [ Some e ↦ refl | None ↦ refl ]

pub deregistered_same : (purge : Bool) (id : Name) (job : Job) (t : Tenant) → (deregistered purge id job t).namespace ≡ t.namespace
deregistered_same true id job t = refl
deregistered_same false id job t = refl

-- ---- outcomes

abbrev pub Named : World → Outcome World → Type 0
Named w = Leads (SameNamed w)

module _ (w : World) where
  named_unless : (b : Bool) (refusal : Refusal) (o : Outcome World) → Named w o → Named w (unless b refusal o)
  named_unless b refusal o h = leads_unless (SameNamed w) b refusal o (λ _. h)

  named_either : (b : Bool) (o p : Outcome World) → Named w o → Named w p → Named w (cond b o p)
  named_either b o p h k = leads_if (SameNamed w) b o p (λ _. h) (λ _. k)

  named_at_work : (number : ℕ) (ns : Name) (act : Tenant → Worker → Evaluation → Outcome World) →
      ((t : Tenant) (worker : Worker) (e : Evaluation) → get w.tenants ns ≡ Some t → Named w (act t worker e)) → Named w (at_work number ns w act)
  named_at_work number ns act h = leads_there (SameNamed w) (get w.tenants ns) _
      (λ t is. leads_there (SameNamed w) (get t.workers number) _
      (λ worker _. leads_there (SameNamed w) (get t.evaluations worker.evaluation) (act t worker) (λ e _. h t worker e is)))

  named_keeping : (number : ℕ) (ns : Name) (act : Tenant → Worker → Evaluation → Snapshot → Outcome World) →
      ((t : Tenant) (worker : Worker) (e : Evaluation) (kept : Snapshot) → get w.tenants ns ≡ Some t → Named w (act t worker e kept))
      → Named w (at_work number ns w (λ t worker e. option_map_or (act t worker e) worker.kept NotEnabled))
  named_keeping number ns act h = named_at_work number ns (λ t worker e. option_map_or (act t worker e) worker.kept NotEnabled)
      (λ t worker e is. leads_there (SameNamed w) worker.kept (act t worker e) (λ kept _. h t worker e kept is))

  -- ---- what is asked of a namespace and of a pool

  named_asked : (ns : Name) (command : AskCommand) (t : Tenant) → get w.tenants ns ≡ Some t → Named w (asked_in ns command w t)
  named_asked ns (AskCommand.ListJobs prefix) t is = λ k. refl
  named_asked ns (AskCommand.Register r) t is = leads_refused (SameNamed w) (first_refusal w t r) _ (λ _. named_make_in ns _ t _ w is refl)
  named_asked ns (AskCommand.ReadJob id) t is = leads_found (SameNamed w) (get t.jobs id) _ (λ job _ k. refl)
  named_asked ns (AskCommand.Deregister id purge) t is =
      leads_found (SameNamed w) (get t.jobs id) _ (λ job _. named_make_in ns _ t (deregistered purge id job t) w is (deregistered_same purge id job t))
  named_asked ns (AskCommand.JobAllocations id) t is = λ k. refl
  named_asked ns (AskCommand.JobEvaluations id) t is = λ k. refl
  named_asked ns (AskCommand.ListEvaluations prefix) t is = λ k. refl
  named_asked ns (AskCommand.ReadEvaluation n) t is = leads_found (SameNamed w) (get t.evaluations n) _ (λ e _ k. refl)
  named_asked ns (AskCommand.ListAllocations prefix) t is = λ k. refl
  named_asked ns (AskCommand.ReadAllocation n) t is = leads_found (SameNamed w) (get t.allocations n) _ (λ a _ k. refl)
  named_asked ns (AskCommand.StopAllocation n) t is =
      leads_found (SameNamed w) (get t.allocations n) _
      (λ a _. named_unless _ _ _ (named_make_in ns _ t (with_desired n DesiredStatus.Stop t) w is (desired_same n DesiredStatus.Stop t)))
  named_asked ns AskCommand.ReadNamespace t is = λ k. refl
  named_asked ns (AskCommand.QuotaUsage quota) t is = named_either (names_quota quota t.namespace) (Done (Content.Usage quota (quota_use w quota)) w)
      (Refused Refusal.NotFound) (λ k. refl) tt
  named_asked ns (AskCommand.Events index) t is = λ k. refl

  named_down : (pool name : Name) (x : World) → SameNamed x (go_down pool name x)
  unfolding go_down
  named_down pool name x k = named_each (λ y (loss : Name × Allocation). make loss.0 (λ t. evaluation_for t loss.1 Trigger.NodeUpdate) y)
      (λ y loss. named_make loss.0 _ y) (losses pool name x) (lose pool name x) k
      ∙ record_kept (λ _ t. record t { allocations = map_rows (λ _ a. lost pool name a) t.allocations }) (λ (t : Tenant). t.namespace) (λ ns t. refl)
      x.tenants k

  named_reported : (r : Report) (a : Allocation) → SameNamed w (reported r a w)
  named_reported r a k = elim (option_map_or (λ t. calls_for_one t a r.client) (get w.tenants r.namespace) false) as
      (λ b. namespace_at (cond b (make r.namespace (λ t. evaluation_for t a Trigger.AllocFailure) (change_tenant r.namespace (with_client r.number r.client) w))
      (change_tenant r.namespace (with_client r.number r.client) w)) k ≡ namespace_at w k) [
        | true ↦ named_make r.namespace (λ t. evaluation_for t a Trigger.AllocFailure) (change_tenant r.namespace (with_client r.number r.client) w) k ∙
            named_change r.namespace (with_client r.number r.client) (client_same r.number r.client) w k
        | false ↦ named_change r.namespace (with_client r.number r.client) (client_same r.number r.client) w k
      ]

  named_pool : (pool : Name) (command : NodeCommand) (p : PoolRows) → Named w (asked_in_pool pool command w p)
  named_pool pool NodeCommand.ReadPool p = λ k. refl
  named_pool pool NodeCommand.ListNodes p = λ k. refl
  named_pool pool (NodeCommand.PutNode name offer) p = named_unless _ _ _ (named_unless _ _ _ (λ k. refl))
  named_pool pool (NodeCommand.DeleteNode name) p = leads_found (SameNamed w) (get p.nodes name) _ (λ node _. named_unless _ _ _ (λ k. refl))
  named_pool pool (NodeCommand.SetStatus name status) p =
      leads_found (SameNamed w) (get p.nodes name) _
      (λ node _. by (put_pool pool (record p { nodes = insert p.nodes name (record node { status = status }) }) w) (λ k. refl) (is_ready status))
    where
      by : (x : World) → SameNamed w x → (b : Bool) → SameNamed w (cond b x (go_down pool name x))
      by x same true = same
      by x same false = λ k. named_down pool name x k ∙ same k
  named_pool pool (NodeCommand.SetEligible name eligible) p = leads_found (SameNamed w) (get p.nodes name) _ (λ node _ k. refl)
  named_pool pool (NodeCommand.Report name r) p =
      leads_found (SameNamed w) (get p.nodes name) _
      (λ node _. leads_found (SameNamed w) (allocation_at w (r.namespace, r.number)) (λ x. unless (not (is_on pool name x)) Refusal.NotFound (report_of r w x))
      (λ a _. named_unless (not (is_on pool name a)) Refusal.NotFound (report_of r w a)
      (named_either (same_client a.client r.client) (Done Content.Written w)
      (unless (not (may_become a.client r.client)) Refusal.Conflict (Done Content.Written (reported r a w))) (λ k. refl)
      (named_unless _ _ _ (named_reported r a)))))

  -- ---- what a worker does

  named_finish : (number : ℕ) (ns : Name) → Named w (finish number ns w)
  unfolding finish
  named_finish number ns = named_keeping number ns (finish_for number ns w) (λ t worker e kept is.
      named_either (may_finish worker kept) (finished number ns w t worker e kept) NotEnabled (either t worker e kept is (needs_follower worker kept)) tt)
    where
      same_before : (t : Tenant) (e : Evaluation) → SameNamed w (without_blocked ns e.job t w)
      same_before t e k = elim (blocked_of t e.job) as
          (λ (o : Option ℕ). namespace_at (option_map_or (λ n. record w { blocked = without_key (ns, n) w.blocked }) o w) k ≡ namespace_at w k)
          [ Some n ↦ refl | None ↦ refl ]

      tenants_same : (t : Tenant) (e : Evaluation) → get w.tenants ns ≡ Some t → get (without_blocked ns e.job t w).tenants ns ≡ Some t
      tenants_same t e is = elim (blocked_of t e.job) as
          (λ (o : Option ℕ). get (option_map_or (λ n. record w { blocked = without_key (ns, n) w.blocked }) o w).tenants ns ≡ Some t)
          [ Some n ↦ is | None ↦ is ]

      by : (t : Tenant) (worker : Worker) (e : Evaluation) (kept : Snapshot) → get w.tenants ns ≡ Some t → (late : Bool) →
          SameNamed w (followed ns worker (follower_of e worker kept) (ended number worker e (end_of worker) t) late (without_blocked ns e.job t w))
      by t worker e kept is true k = named_put ns t
          (with_follower worker.evaluation (record (follower_of e worker kept) { status = Status.Pending }) (ended number worker e (end_of worker) t))
          (without_blocked ns e.job t w) (tenants_same t e is)
          (follower_same worker.evaluation (record (follower_of e worker kept) { status = Status.Pending }) (ended number worker e (end_of worker) t) ∙
          ended_same number worker e (end_of worker) t) k ∙ same_before t e k
      by t worker e kept is false k = named_put ns t (with_follower worker.evaluation (follower_of e worker kept) (ended number worker e (end_of worker) t))
          (without_blocked ns e.job t w) (tenants_same t e is)
          (follower_same worker.evaluation (follower_of e worker kept) (ended number worker e (end_of worker) t) ∙ ended_same number worker e (end_of worker) t)
          k ∙ same_before t e k

      either : (t : Tenant) (worker : Worker) (e : Evaluation) (kept : Snapshot) → get w.tenants ns ≡ Some t → (b : Bool)
          → Named w (cond b (Done (Content.Finished (end_of worker) (Some (t.evaluation_number + 1)))
          (promote ns e.job (followed ns worker (follower_of e worker kept) (ended number worker e (end_of worker) t)
          (missed w kept (follower_of e worker kept)) (without_blocked ns e.job t w))))
          (Done (Content.Finished (end_of worker) None)
          (promote ns e.job (put_tenant ns (ended number worker e (end_of worker) t) (without_blocked ns e.job t w)))))
      either t worker e kept is true = λ k. named_promote ns e.job
          (followed ns worker (follower_of e worker kept) (ended number worker e (end_of worker) t) (missed w kept (follower_of e worker kept))
          (without_blocked ns e.job t w)) k ∙ by t worker e kept is (missed w kept (follower_of e worker kept)) k
      either t worker e kept is false = λ k. named_promote ns e.job (put_tenant ns (ended number worker e (end_of worker) t) (without_blocked ns e.job t w)) k ∙
          named_put ns t (ended number worker e (end_of worker) t) (without_blocked ns e.job t w) (tenants_same t e is)
          (ended_same number worker e (end_of worker) t) k ∙ same_before t e k

  named_nack : (number : ℕ) (ns : Name) → Named w (nack number ns w)
  unfolding nack
  named_nack number ns = named_at_work number ns (nack_for number ns w) (λ t worker e is. named_either (is_submitted worker.phase) NotEnabled _ tt
      (named_either (nat_le most_nacks (e.nacks + 1)) (given_up number ns w (with_nack worker.evaluation e t) worker e)
      (given_back number ns w (with_nack worker.evaluation e t) worker)
      (λ k. named_promote ns e.job (put_tenant ns (with_status worker.evaluation Status.Failed (without_worker number (with_nack worker.evaluation e t))) w) k
      ∙ named_put ns t (with_status worker.evaluation Status.Failed (without_worker number (with_nack worker.evaluation e t))) w is
      (status_same worker.evaluation Status.Failed (without_worker number (with_nack worker.evaluation e t))) k)
      (named_put ns t (without_worker number (with_nack worker.evaluation e t)) w is refl)))

-- ---- Apply

pub named_decided : (kept : Snapshot) (ps : List Placement) (ks : List ℕ) (c : Commit) → SameNamed c.world (fold (decide kept ps) c ks).world
named_decided = fixed_decided its_record (λ t n e. refl) (λ t n a. refl)

pub named_placed : (kept : Snapshot) (p : Placement) (w : World) → SameNamed w (place_one kept w p)
named_placed = fixed_placed its_record (λ t n e. refl) (λ t n a. refl)

named_commit : (kept : Snapshot) (p : Plan) (w : World) (t : Tenant) → SameNamed w (commit kept p w t).world
named_commit = fixed_commit its_record (λ t n e. refl) (λ t n a. refl)

named_apply : (w : World) (number : ℕ) (ns : Name) → Named w (apply number ns w)
unfolding apply
named_apply w number ns = named_keeping w number ns (apply_for number ns w)
    (λ t worker e kept is. named_either w (is_submitted worker.phase && is_served w w.plans (ns, worker.evaluation))
    (applied number ns worker e (commit kept (plan kept) w t)) NotEnabled
    (λ k. named_change ns (with_worker number (applied_worker (commit kept (plan kept) w t) worker e)) (λ x. refl) (commit kept (plan kept) w t).world k ∙
    named_commit kept (plan kept) w t k) tt)

-- ---- all steps

pub change_named : (step : Step) (w : World) → Named w (change step w)
unfolding ask ask_pool dequeue snap submit
change_named (Step.Ask ns secret command) w = leads_found (SameNamed w) (get w.tenants ns) _ (λ t is. named_asked w ns command t is)
change_named (Step.Admin secret command) w = tt
change_named (Step.Node pool secret command) w = leads_found (SameNamed w) (get w.pools pool) _ (λ p is. named_pool w pool command p)
change_named (Step.Dequeue worker ns n) w = named_either w (nat_lt worker workers_end && is_idle w worker && is_served w w.ready (ns, n))
    (option_map_or (dequeue_in worker (ns, n) w) (get w.tenants ns) NotEnabled) NotEnabled
    (leads_there (SameNamed w) (get w.tenants ns) (dequeue_in worker (ns, n) w)
    (λ t is. leads_there (SameNamed w) (get t.evaluations n) (λ e. Done (Content.Took n) (taken worker (ns, n) w t e))
    (λ e _. named_put ns t (with_worker worker (new_worker n e) t) w is refl))) tt
change_named (Step.Snap worker ns) w = named_at_work w worker ns (snap_for worker ns w) (λ t x e is.
    let t' = with_worker worker (with_snapshot (snapshot_of w ns t x.evaluation e) x) t in
    named_either w (may_snap x.tries x.phase) (Done (Content.Snapped x.evaluation) (put_tenant ns t' w)) NotEnabled (named_put ns t t' w is refl) tt)
change_named (Step.Submit worker ns) w = named_keeping w worker ns (λ t x e. submit_for worker ns w t x) (λ t x e kept is.
    named_either w (may_submit x kept) (Done (Content.Queued x.evaluation) (submitted worker ns w t x)) NotEnabled
    (named_put ns t (with_worker worker (record x { phase = Phase.Submitted }) t) w is refl) tt)
change_named (Step.Apply worker ns) w = named_apply w worker ns
change_named (Step.Finish worker ns) w = named_finish w worker ns
change_named (Step.Nack worker ns) w = named_nack w worker ns
