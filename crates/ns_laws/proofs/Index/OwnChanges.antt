-- What no step but a request in a namespace changes itself, of what is no evaluation, allocation or worker of a namespace.
use Rattle.std.specs.Prelude.{◌≡◌, ℕ, ◌+◌, Bool, true, false, cond, List, Option, Some, None, ◌&&◌, fold}
use Rattle.std.proofs.Common.{refl, ◌∙◌}
use Rattle.std.specs.FinMap.{get, insert, remove}
use Rattle.std.specs.Option.{option_map_or}
use Rattle.ns_types.specs.declared.allocation.Allocation.{Allocation}
use Rattle.ns_types.specs.declared.allocation.ClientStatus.{ClientStatus}
use Rattle.ns_types.specs.declared.allocation.DesiredStatus.{DesiredStatus}
use Rattle.ns_types.specs.declared.evaluation.Evaluation.{Evaluation}
use Rattle.ns_types.specs.declared.evaluation.Status.{Status}
use Rattle.ns_types.specs.declared.evaluation.Trigger.TheVariants as Trigger
use Rattle.ns_types.specs.declared.job.Job.{Job}
use Rattle.ns_types.specs.declared.refusal.Refusal.{Refusal}
use Rattle.ns_types.specs.declared.snapshot.Snapshot.{Snapshot}
use Rattle.ns_types.specs.declared.step.AskCommand.{AskCommand}
use Rattle.ns_types.specs.declared.step.NodeCommand.{NodeCommand}
use Rattle.ns_types.specs.declared.step.Report.{Report}
use Rattle.ns_types.specs.declared.step.Step.{Step}
use Rattle.ns_types.specs.Working.Worker.{Worker}
use Rattle.ns_types.specs.Asking.Asks.{deregistered, stopped_job, asked_in, ask}
use Rattle.ns_types.specs.Working.Commit.{commit, applied_worker, applied, apply_for, apply}
use Rattle.ns_types.specs.Settling.Making.{put_tenant, with_job, change_tenant, put_pool, with_status, with_desired, with_client, evaluation_for, make_in, make}
use Rattle.ns_types.specs.State.Names.{Name, ByName, ByNumber}
use Rattle.std.specs.Prelude.{not}
use Rattle.ns_types.specs.State.Rows.{allocation_at}
use Rattle.ns_types.specs.Asking.Nodes.{is_on, report_of, same_client, may_become, lose, lost, losses, go_down, reported, calls_for_one, asked_in_pool}
use Rattle.ns_types.specs.Asking.Nodes.{ask_pool}
use Rattle.ns_types.specs.Settling.Outcome.{Outcome, NotEnabled, Done, unless}
use Rattle.ns_types.specs.Working.Queue.{promote}
use Rattle.ns_types.specs.State.Rows.{World, Tenant, PoolRows}
use Rattle.ns_types.specs.State.Tables.{map_rows}
use Rattle.ns_types.specs.Placing.Plan.{plan}
use Rattle.ns_types.specs.declared.plan.Plan.{Plan}
use Rattle.ns_types.specs.Settling.Releases.{missed}
use Rattle.ns_types.specs.State.Rows.{is_ready}
use Rattle.std.specs.Prelude.{nat_le}
use Rattle.ns_types.specs.declared.reply.Content.TheVariants as Content
use Rattle.ns_types.specs.Working.Queue.{is_served}
use Rattle.std.specs.Prelude.{nat_lt}
use Rattle.ns_types.specs.declared.worker.Phase.TheVariants as Phase
use Rattle.ns_types.specs.Working.Snapshot.{snapshot_of}
use Rattle.ns_types.specs.Working.Work.{workers_end, is_idle, new_worker, taken, may_snap, with_snapshot, may_submit, submitted, is_submitted, most_nacks}
use Rattle.ns_types.specs.Working.Work.{given_up, given_back, may_finish, needs_follower, finished, snap_for, submit_for, finish_for, nack_for, follower_of}
use Rattle.ns_types.specs.Working.Work.{end_of, without_key, at_work, with_worker, without_worker, cancel_blocked, blocked_of, without_blocked, ended}
use Rattle.ns_types.specs.Working.Work.{with_follower, tied_to, followed, dequeue_in, dequeue, snap, submit, finish, nack, with_nack}
use Rattle.ns_audit.proofs.Alone.Fixed.{of_at, SameIn, fixed_put, fixed_change, fixed_make_in, fixed_make, fixed_each, fixed_desired}
use Rattle.ns_audit.proofs.Alone.Fixed.{fixed_commit}
use Rattle.ns_types.proofs.Leads.{Leads, leads_unless, leads_found, leads_there, leads_if}
use Rattle.ns_audit.proofs.Alone.Recording.{record_kept}
use Rattle.ns_audit.proofs.Alone.Sides.{change}
use Rattle.ns_types.proofs.Lists.{not_both}
use Rattle.ns_laws.proofs.CommandLemmas.{job_of, leads_asked}
use Rattle.ns_laws.proofs.QueueLemmas.{promote_part}

abbrev pub is_ask : Step → Bool
is_ask (Step.Ask ns secret command) = true
is_ask _ = false

-- a part of a namespace's rows that evaluations, allocations and workers do not count in
module _ {Y : Type 0} (of : Tenant → Y)
    (same_evaluations : (t : Tenant) (number : ℕ) (evaluations : ByNumber Evaluation) →
    of (record t { evaluation_number = number; evaluations = evaluations }) ≡ of t)
    (same_allocations : (t : Tenant) (number : ℕ) (allocations : ByNumber Allocation) →
    of (record t { allocation_number = number; allocations = allocations }) ≡ of t)
    (same_workers : (t : Tenant) (workers : ByNumber Worker) → of (record t { workers = workers }) ≡ of t) where
  own_put : (ns : Name) (t t' : Tenant) (w : World) → get w.tenants ns ≡ Some t → of t' ≡ of t → SameIn of w (put_tenant ns t' w)
  own_put = fixed_put of same_evaluations same_allocations

  own_change : (ns : Name) (f : Tenant → Tenant) → ((t : Tenant) → of (f t) ≡ of t) → (w : World) → SameIn of w (change_tenant ns f w)
  own_change = fixed_change of same_evaluations same_allocations

  own_make_in : (ns : Name) (e : Evaluation) (t t' : Tenant) (w : World) → get w.tenants ns ≡ Some t → of t' ≡ of t →
      SameIn of w (make_in ns e w t')
  own_make_in = fixed_make_in of same_evaluations same_allocations

  own_make : (ns : Name) (evaluation : Tenant → Evaluation) (w : World) → SameIn of w (make ns evaluation w)
  own_make = fixed_make of same_evaluations same_allocations

  own_each : {A : Type 0} (f : World → A → World) → ((w : World) (x : A) → SameIn of w (f w x)) → (xs : List A) (w : World) → SameIn of w (fold f w xs)
  own_each = fixed_each of same_evaluations same_allocations

  own_promote : (ns job : Name) (w : World) → SameIn of w (promote ns job w)
  own_promote ns job w k = promote_part (λ y. of_at of y k) (λ y keys. refl) ns job w

  -- ---- rows of one namespace

  status_same : (n : ℕ) (status : Status) (t : Tenant) → of (with_status n status t) ≡ of t
  status_same n status t = elim (get t.evaluations n) as
      (λ (o : Option Evaluation). of (option_map_or (λ e. record t { evaluations = insert t.evaluations n (record e { status = status }) })
      o t) ≡ of t) [ Some e ↦ same_evaluations t t.evaluation_number (insert t.evaluations n (record e { status = status })) | None ↦ refl ]

  desired_same : (n : ℕ) (desired : DesiredStatus) (t : Tenant) → of (with_desired n desired t) ≡ of t
  desired_same = fixed_desired of same_evaluations same_allocations

  client_same : (n : ℕ) (client : ClientStatus) (t : Tenant) → of (with_client n client t) ≡ of t
  client_same n client t = elim (get t.allocations n) as
      (λ (o : Option Allocation). of (option_map_or (λ a. record t { allocations = insert t.allocations n (record a { client = client }) })
      o t) ≡ of t) [ Some a ↦ same_allocations t t.allocation_number (insert t.allocations n (record a { client = client })) | None ↦ refl ]

  cancel_same : (job : Name) (t : Tenant) → of (cancel_blocked job t) ≡ of t
  cancel_same job t = by (blocked_of t job)
    where
      by : (o : Option ℕ) → of (option_map_or (λ n. with_status n Status.Canceled t) o t) ≡ of t
      by None = refl
      by (Some n) = status_same n Status.Canceled t

  ended_same : (number : ℕ) (worker : Worker) (e : Evaluation) (status : Status) (t : Tenant) → of (ended number worker e status t) ≡ of t
  ended_same number worker e status t = cancel_same e.job (with_status worker.evaluation status (without_worker number t)) ∙
      status_same worker.evaluation status (without_worker number t) ∙ same_workers t (remove t.workers number)

  tied_same : (n number : ℕ) (t : Tenant) → of (tied_to n number t) ≡ of t
  tied_same n number t = elim (get t.evaluations n) as
      (λ (o : Option Evaluation). of (option_map_or (λ e. record t { evaluations = insert t.evaluations n (record e { follower = Some number }) })
      o t) ≡ of t)
      [ Some e ↦ same_evaluations t t.evaluation_number (insert t.evaluations n (record e { follower = Some number })) | None ↦ refl ]

  follower_same : (n : ℕ) (follower : Evaluation) (t : Tenant) → of (with_follower n follower t) ≡ of t
  follower_same n follower t = same_evaluations (tied_to n (t.evaluation_number + 1) t) (t.evaluation_number + 1) _ ∙ tied_same n (t.evaluation_number + 1) t

  -- ---- outcomes

  abbrev Named : World → Outcome World → Type 0
  Named w = Leads (SameIn of w)

  module _ (w : World) where
    own_unless : (b : Bool) (refusal : Refusal) (o : Outcome World) → Named w o → Named w (unless b refusal o)
    own_unless b refusal o h = leads_unless (SameIn of w) b refusal o (λ _. h)

    own_either : (b : Bool) (o p : Outcome World) → Named w o → Named w p → Named w (cond b o p)
    own_either b o p h k = leads_if (SameIn of w) b o p (λ _. h) (λ _. k)

    own_at_work : (number : ℕ) (ns : Name) (act : Tenant → Worker → Evaluation → Outcome World) →
        ((t : Tenant) (worker : Worker) (e : Evaluation) → get w.tenants ns ≡ Some t → Named w (act t worker e)) → Named w (at_work number ns w act)
    own_at_work number ns act h = leads_there (SameIn of w) (get w.tenants ns) _
        (λ t is. leads_there (SameIn of w) (get t.workers number) _
        (λ worker _. leads_there (SameIn of w) (get t.evaluations worker.evaluation) (act t worker) (λ e _. h t worker e is)))

    own_keeping : (number : ℕ) (ns : Name) (act : Tenant → Worker → Evaluation → Snapshot → Outcome World) →
        ((t : Tenant) (worker : Worker) (e : Evaluation) (kept : Snapshot) → get w.tenants ns ≡ Some t → Named w (act t worker e kept))
        → Named w (at_work number ns w (λ t worker e. option_map_or (act t worker e) worker.kept NotEnabled))
    own_keeping number ns act h = own_at_work number ns (λ t worker e. option_map_or (act t worker e) worker.kept NotEnabled)
        (λ t worker e is. leads_there (SameIn of w) worker.kept (act t worker e) (λ kept _. h t worker e kept is))

    -- ---- what is asked of a namespace and of a pool

    own_down : (pool name : Name) (x : World) → SameIn of x (go_down pool name x)
    unfolding go_down
    own_down pool name x k = own_each (λ y (loss : Name × Allocation). make loss.0 (λ t. evaluation_for t loss.1 Trigger.NodeUpdate) y)
        (λ y loss. own_make loss.0 _ y) (losses pool name x) (lose pool name x) k
        ∙ record_kept (λ _ t. record t { allocations = map_rows (λ _ a. lost pool name a) t.allocations }) of
        (λ ns t. same_allocations t t.allocation_number (map_rows (λ _ a. lost pool name a) t.allocations)) x.tenants k

    own_reported : (r : Report) (a : Allocation) → SameIn of w (reported r a w)
    own_reported r a k = elim (option_map_or (λ t. calls_for_one t a r.client) (get w.tenants r.namespace) false) as
        (λ b. of_at of (cond b (make r.namespace (λ t. evaluation_for t a Trigger.AllocFailure) (change_tenant r.namespace (with_client r.number r.client) w))
        (change_tenant r.namespace (with_client r.number r.client) w)) k ≡ of_at of w k) [
          | true ↦ own_make r.namespace (λ t. evaluation_for t a Trigger.AllocFailure) (change_tenant r.namespace (with_client r.number r.client) w) k ∙
              own_change r.namespace (with_client r.number r.client) (client_same r.number r.client) w k
          | false ↦ own_change r.namespace (with_client r.number r.client) (client_same r.number r.client) w k
        ]

    own_pool : (pool : Name) (command : NodeCommand) (p : PoolRows) → Named w (asked_in_pool pool command w p)
    own_pool pool NodeCommand.ReadPool p = λ k. refl
    own_pool pool NodeCommand.ListNodes p = λ k. refl
    own_pool pool (NodeCommand.PutNode name offer) p = own_unless _ _ _ (own_unless _ _ _ (λ k. refl))
    own_pool pool (NodeCommand.DeleteNode name) p = leads_found (SameIn of w) (get p.nodes name) _ (λ node _. own_unless _ _ _ (λ k. refl))
    own_pool pool (NodeCommand.SetStatus name status) p =
        leads_found (SameIn of w) (get p.nodes name) _
        (λ node _. by (put_pool pool (record p { nodes = insert p.nodes name (record node { status = status }) }) w) (λ k. refl) (is_ready status))
      where
        by : (x : World) → SameIn of w x → (b : Bool) → SameIn of w (cond b x (go_down pool name x))
        by x same true = same
        by x same false = λ k. own_down pool name x k ∙ same k
    own_pool pool (NodeCommand.SetEligible name eligible) p = leads_found (SameIn of w) (get p.nodes name) _ (λ node _ k. refl)
    own_pool pool (NodeCommand.Report name r) p =
        leads_found (SameIn of w) (get p.nodes name) _
        (λ node _. leads_found (SameIn of w) (allocation_at w (r.namespace, r.number))
        (λ x. unless (not (is_on pool name x)) Refusal.NotFound (report_of r w x))
        (λ a _. own_unless (not (is_on pool name a)) Refusal.NotFound (report_of r w a)
        (own_either (same_client a.client r.client) (Done Content.Written w)
        (unless (not (may_become a.client r.client)) Refusal.Conflict (Done Content.Written (reported r a w))) (λ k. refl)
        (own_unless _ _ _ (own_reported r a)))))

    -- ---- what a worker does

    own_finish : (number : ℕ) (ns : Name) → Named w (finish number ns w)
    unfolding finish
    own_finish number ns = own_keeping number ns (finish_for number ns w) (λ t worker e kept is.
        own_either (may_finish worker kept) (finished number ns w t worker e kept) NotEnabled (either t worker e kept is (needs_follower worker kept)) tt)
      where
        same_before : (t : Tenant) (e : Evaluation) → SameIn of w (without_blocked ns e.job t w)
        same_before t e k = elim (blocked_of t e.job) as
            (λ (o : Option ℕ). of_at of (option_map_or (λ n. record w { blocked = without_key (ns, n) w.blocked }) o w) k ≡ of_at of w k)
            [ Some n ↦ refl | None ↦ refl ]

        tenants_same : (t : Tenant) (e : Evaluation) → get w.tenants ns ≡ Some t → get (without_blocked ns e.job t w).tenants ns ≡ Some t
        tenants_same t e is = elim (blocked_of t e.job) as
            (λ (o : Option ℕ). get (option_map_or (λ n. record w { blocked = without_key (ns, n) w.blocked }) o w).tenants ns ≡ Some t)
            [ Some n ↦ is | None ↦ is ]

        by : (t : Tenant) (worker : Worker) (e : Evaluation) (kept : Snapshot) → get w.tenants ns ≡ Some t → (late : Bool) →
            SameIn of w (followed ns worker (follower_of e worker kept) (ended number worker e (end_of worker) t) late (without_blocked ns e.job t w))
        by t worker e kept is true k = own_put ns t
            (with_follower worker.evaluation (record (follower_of e worker kept) { status = Status.Pending }) (ended number worker e (end_of worker) t))
            (without_blocked ns e.job t w) (tenants_same t e is)
            (follower_same worker.evaluation (record (follower_of e worker kept) { status = Status.Pending }) (ended number worker e (end_of worker) t) ∙
            ended_same number worker e (end_of worker) t) k ∙ same_before t e k
        by t worker e kept is false k = own_put ns t (with_follower worker.evaluation (follower_of e worker kept) (ended number worker e (end_of worker) t))
            (without_blocked ns e.job t w) (tenants_same t e is)
            (follower_same worker.evaluation (follower_of e worker kept) (ended number worker e (end_of worker) t) ∙
            ended_same number worker e (end_of worker) t)
            k ∙ same_before t e k

        either : (t : Tenant) (worker : Worker) (e : Evaluation) (kept : Snapshot) → get w.tenants ns ≡ Some t → (b : Bool)
            → Named w (cond b (Done (Content.Finished (end_of worker) (Some (t.evaluation_number + 1)))
            (promote ns e.job (followed ns worker (follower_of e worker kept) (ended number worker e (end_of worker) t)
            (missed w kept (follower_of e worker kept)) (without_blocked ns e.job t w))))
            (Done (Content.Finished (end_of worker) None)
            (promote ns e.job (put_tenant ns (ended number worker e (end_of worker) t) (without_blocked ns e.job t w)))))
        either t worker e kept is true = λ k. own_promote ns e.job
            (followed ns worker (follower_of e worker kept) (ended number worker e (end_of worker) t) (missed w kept (follower_of e worker kept))
            (without_blocked ns e.job t w)) k ∙ by t worker e kept is (missed w kept (follower_of e worker kept)) k
        either t worker e kept is false = λ k. own_promote ns e.job (put_tenant ns (ended number worker e (end_of worker) t) (without_blocked ns e.job t w)) k ∙
            own_put ns t (ended number worker e (end_of worker) t) (without_blocked ns e.job t w) (tenants_same t e is)
            (ended_same number worker e (end_of worker) t) k ∙ same_before t e k

    own_nack : (number : ℕ) (ns : Name) → Named w (nack number ns w)
    unfolding nack
    own_nack number ns = own_at_work number ns (nack_for number ns w) (λ t worker e is. own_either (is_submitted worker.phase) NotEnabled _ tt
        (own_either (nat_le most_nacks (e.nacks + 1)) (given_up number ns w (with_nack worker.evaluation e t) worker e)
        (given_back number ns w (with_nack worker.evaluation e t) worker)
        (λ k. own_promote ns e.job (put_tenant ns (with_status worker.evaluation Status.Failed (without_worker number (with_nack worker.evaluation e t))) w) k
        ∙ own_put ns t (with_status worker.evaluation Status.Failed (without_worker number (with_nack worker.evaluation e t))) w is
        (status_same worker.evaluation Status.Failed (without_worker number (with_nack worker.evaluation e t)) ∙ gone t worker e) k)
        (own_put ns t (without_worker number (with_nack worker.evaluation e t)) w is (gone t worker e))))
      where
        gone : (t : Tenant) (worker : Worker) (e : Evaluation) → of (without_worker number (with_nack worker.evaluation e t)) ≡ of t
        gone t worker e = same_workers (with_nack worker.evaluation e t) (remove t.workers number) ∙ same_evaluations t t.evaluation_number _

  -- ---- Apply

  own_commit : (kept : Snapshot) (p : Plan) (w : World) (t : Tenant) → SameIn of w (commit kept p w t).world
  own_commit = fixed_commit of same_evaluations same_allocations

  own_apply : (w : World) (number : ℕ) (ns : Name) → Named w (apply number ns w)
  unfolding apply
  own_apply w number ns = own_keeping w number ns (apply_for number ns w)
      (λ t worker e kept is. own_either w (is_submitted worker.phase && is_served w w.plans (ns, worker.evaluation))
      (applied number ns worker e (commit kept (plan kept) w t)) NotEnabled
      (λ k. own_change ns (with_worker number (applied_worker (commit kept (plan kept) w t) worker e)) (λ x. same_workers x _)
      (commit kept (plan kept) w t).world k ∙
      own_commit kept (plan kept) w t k) tt)

  -- ---- all steps but requests in namespaces

  pub change_fixed : (step : Step) (w : World) → is_ask step ≡ false → Leads (SameIn of w) (change step w)
  unfolding ask_pool dequeue snap submit
  change_fixed (Step.Ask ns secret command) w e = not_both refl e
  change_fixed (Step.Admin secret command) w e = tt
  change_fixed (Step.Node pool secret command) w e = leads_found (SameIn of w) (get w.pools pool) _ (λ p is. own_pool w pool command p)
  change_fixed (Step.Dequeue worker ns n) w e = own_either w (nat_lt worker workers_end && is_idle w worker && is_served w w.ready (ns, n))
      (option_map_or (dequeue_in worker (ns, n) w) (get w.tenants ns) NotEnabled) NotEnabled
      (leads_there (SameIn of w) (get w.tenants ns) (dequeue_in worker (ns, n) w)
      (λ t is. leads_there (SameIn of w) (get t.evaluations n) (λ e. Done (Content.Took n) (taken worker (ns, n) w t e))
      (λ e _. own_put ns t (with_worker worker (new_worker n e) t) w is (same_workers t _)))) tt
  change_fixed (Step.Snap worker ns) w e = own_at_work w worker ns (snap_for worker ns w) (λ t x e is.
      let t' = with_worker worker (with_snapshot (snapshot_of w ns t x.evaluation e) x) t in
      own_either w (may_snap x.tries x.phase) (Done (Content.Snapped x.evaluation) (put_tenant ns t' w)) NotEnabled
      (own_put ns t t' w is (same_workers t _)) tt)
  change_fixed (Step.Submit worker ns) w e = own_keeping w worker ns (λ t x e. submit_for worker ns w t x) (λ t x e kept is.
      own_either w (may_submit x kept) (Done (Content.Queued x.evaluation) (submitted worker ns w t x)) NotEnabled
      (own_put ns t (with_worker worker (record x { phase = Phase.Submitted }) t) w is (same_workers t _)) tt)
  change_fixed (Step.Apply worker ns) w e = own_apply w worker ns
  change_fixed (Step.Finish worker ns) w e = own_finish w worker ns
  change_fixed (Step.Nack worker ns) w e = own_nack w worker ns

  -- ---- requests in namespaces, where jobs do not count

  module _ (same_jobs : (t : Tenant) (jobs : ByName Job) → of (record t { jobs = jobs }) ≡ of t) (w : World) where
    deregistered_same : (purge : Bool) (id : Name) (job : Job) (t : Tenant) → of (deregistered purge id job t) ≡ of t
    deregistered_same true id job t = same_jobs t (remove t.jobs id)
    deregistered_same false id job t = same_jobs t (insert t.jobs id (stopped_job (t.index + 1) job))

    own_asked : (ns : Name) (command : AskCommand) (t : Tenant) → get w.tenants ns ≡ Some t → Named w (asked_in ns command w t)
    own_asked ns command t is = leads_asked w ns t (λ _. SameIn of w) (λ _ k. refl)
        (λ r. own_make_in ns _ t (with_job r.id (job_of t r) t) w is (same_jobs t _))
        (λ id purge job _. own_make_in ns _ t (deregistered purge id job t) w is (deregistered_same purge id job t))
        (λ n a _ _. own_make_in ns _ t (with_desired n DesiredStatus.Stop t) w is (desired_same n DesiredStatus.Stop t)) command

    pub ask_fixed : (ns : Name) (command : AskCommand) → Leads (SameIn of w) (ask ns command w)
    unfolding ask
    ask_fixed ns command = leads_found (SameIn of w) (get w.tenants ns) _ (λ t is. own_asked ns command t is)
