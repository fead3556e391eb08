-- What is asked in a namespace, and a worker's steps but for Apply, bring no allocation to a client.
use Rattle.std.specs.Prelude.{◌≡◌, ℕ, ◌+◌, Bool, true, false, cond, not, [], ◌∷◌, ◌++◌, Option, Some, None, ◌&&◌, nat_le, nat_lt}
use Rattle.std.proofs.Common.{refl, sym, ap, ◌∙◌}
use Rattle.std.specs.FinMap.{get, insert}
use Rattle.std.specs.Option.{option_map_or}
use Rattle.ns_types.specs.declared.allocation.Allocation.{Allocation}
use Rattle.ns_types.specs.declared.allocation.DesiredStatus.{DesiredStatus}
use Rattle.ns_types.specs.declared.evaluation.Evaluation.{Evaluation}
use Rattle.ns_types.specs.declared.evaluation.Status.{Status}
use Rattle.ns_types.specs.declared.evaluation.Trigger.TheVariants as Trigger
use Rattle.ns_types.specs.declared.job.Job.{Job}
use Rattle.ns_types.specs.declared.job.Registration.{Registration}
use Rattle.ns_types.specs.declared.refusal.Refusal.TheVariants as Refusal
use Rattle.ns_types.specs.declared.reply.Content.TheVariants as Content
use Rattle.ns_types.specs.declared.snapshot.Snapshot.{Snapshot}
use Rattle.ns_types.specs.declared.step.AskCommand.{AskCommand}
use Rattle.ns_types.specs.declared.worker.Phase.TheVariants as Phase
use Rattle.ns_types.specs.Asking.Asks.{first_refusal, document_of, registered_job, register, deregistered, deregister_job, asked_in, ask}
use Rattle.ns_types.specs.Settling.Making.{put_tenant, with_job, with_status, with_desired, with_evaluation, evaluation_of, evaluation_for, make_in}
use Rattle.ns_types.specs.Settling.Outcome.{NotEnabled, Refused, Done}
use Rattle.ns_types.specs.Settling.Releases.{missed}
use Rattle.ns_types.specs.State.Names.{Name, Key}
use Rattle.ns_types.specs.State.Rows.{World, Tenant, is_live}
use Rattle.ns_types.specs.State.Sums.{names_quota, quota_use}
use Rattle.ns_types.specs.Working.Queue.{is_busy, first_waiting, promote, is_served}
use Rattle.ns_types.specs.Working.Snapshot.{snapshot_of}
use Rattle.ns_types.specs.Working.Work.{with_worker, without_worker, workers_end, is_idle, new_worker, taken, dequeue_in, dequeue}
use Rattle.ns_types.specs.Working.Work.{may_snap, with_snapshot, snap_for, snap, may_submit, submitted, submit_for, submit, may_finish, end_of, needs_follower}
use Rattle.ns_types.specs.Working.Work.{follower_of, blocked_of, without_blocked, cancel_blocked, ended, tied_to, with_follower, followed, finished, finish_for}
use Rattle.ns_types.specs.Working.Work.{finish, is_submitted, most_nacks, with_nack, given_back, given_up, nack_for, nack}
use Rattle.ns_types.specs.Working.Worker.{Worker}
use Rattle.ns_types.proofs.Leads.{Leads, leads_unless, leads_refused, leads_found, leads_there, leads_if, leads_at_work, leads_keeping}
use Rattle.ns_audit.proofs.ValidAllocations.Going.{Onward, onward_same, onward_put, onward_make_in}
use Rattle.ns_audit.proofs.ValidAllocations.Work.{unlisted_tenants}
use Rattle.ns_audit.proofs.Held.Rows.{Ends, ends_quiet, ends_still, ends_then, ends_row}

-- ---- one namespace

pub ends_desired : (n : ℕ) (d : DesiredStatus) (t : Tenant) → Ends t (with_desired n d t)
ends_desired n d t = by (get t.allocations n) refl
  where
    by : (o : Option Allocation) → get t.allocations n ≡ o →
        Ends t (option_map_or (λ a. record t { allocations = insert t.allocations n (record a { desired = d }) }) o t)
    by None is = ends_still t
    by (Some a) is = ends_row t n a (record a { desired = d }) is refl (λ held. held)

pub status_leaves : (n : ℕ) (status : Status) (t : Tenant) → (with_status n status t).allocations ≡ t.allocations
status_leaves n status t = elim (get t.evaluations n) as
    (λ (o : Option Evaluation). (option_map_or (λ e. record t { evaluations = insert t.evaluations n (record e { status = status }) })
    o t).allocations ≡ t.allocations) [ Some e ↦ refl | None ↦ refl ]

cancel_leaves : (job : Name) (t : Tenant) → (cancel_blocked job t).allocations ≡ t.allocations
cancel_leaves job t = by (blocked_of t job)
  where
    by : (o : Option ℕ) → (option_map_or (λ n. with_status n Status.Canceled t) o t).allocations ≡ t.allocations
    by None = refl
    by (Some n) = status_leaves n Status.Canceled t

pub ended_leaves : (number : ℕ) (worker : Worker) (e : Evaluation) (status : Status) (t : Tenant) → (ended number worker e status t).allocations ≡ t.allocations
ended_leaves number worker e status t = cancel_leaves e.job (with_status worker.evaluation status (without_worker number t)) ∙
    status_leaves worker.evaluation status (without_worker number t)

pub tied_leaves : (n follower : ℕ) (t : Tenant) → (tied_to n follower t).allocations ≡ t.allocations
tied_leaves n follower t = elim (get t.evaluations n) as
    (λ (o : Option Evaluation). (option_map_or (λ e. record t { evaluations = insert t.evaluations n (record e { follower = Some follower }) })
    o t).allocations ≡ t.allocations) [ Some e ↦ refl | None ↦ refl ]

pub deregistered_leaves : (purge : Bool) (id : Name) (job : Job) (t : Tenant) → (deregistered purge id job t).allocations ≡ t.allocations
deregistered_leaves true id job t = refl
deregistered_leaves false id job t = refl

-- ---- worlds

ends_put : (w x : World) (ns : Name) (t t' : Tenant) → get w.tenants ns ≡ Some t → Ends t t' → x.tenants ≡ (put_tenant ns t' w).tenants → Onward Ends w x
ends_put w x ns t t' is ends tenants k u at = onward_put Ends ends_still w ns t t' is ends k u (sym (ap (λ m. get m k) tenants) ∙ at)

ends_make_in : (w : World) (ns : Name) (e : Evaluation) (t t' : Tenant) → get w.tenants ns ≡ Some t → Ends t t' → Onward Ends w (make_in ns e w t')
ends_make_in w ns e t t' is ends =
    onward_make_in Ends ends_still w ns e t t' is (ends_then t t' (with_evaluation e t') ends (ends_quiet t' (with_evaluation e t') refl))

-- ---- what is asked

module _ (w : World) (ns : Name) (t : Tenant) (is : get w.tenants ns ≡ Some t) where
  still : Onward Ends w w
  still = onward_same Ends ends_still w w refl

  registration_ends : (r : Registration) → Leads (Onward Ends w) (register ns r w t)
  registration_ends r = leads_refused (Onward Ends w) (first_refusal w t r) _ (λ _. by (registered_job (t.index + 1) (document_of t r) (get t.jobs r.id)))
    where
      by : (job : Job) → Onward Ends w (make_in ns (evaluation_of r.id job.document Trigger.JobRegister) w (with_job r.id job t))
      by job = ends_make_in w ns (evaluation_of r.id job.document Trigger.JobRegister) t (with_job r.id job t) is (ends_quiet t (with_job r.id job t) refl)

  asked_ends : (command : AskCommand) → Leads (Onward Ends w) (asked_in ns command w t)
  asked_ends (AskCommand.ListJobs prefix) = still
  asked_ends (AskCommand.Register r) = registration_ends r
  asked_ends (AskCommand.ReadJob id) = leads_found (Onward Ends w) (get t.jobs id) _ (λ job _. still)
  asked_ends (AskCommand.Deregister id purge) = leads_found (Onward Ends w) (get t.jobs id) (deregister_job ns id purge w t) (λ job at.
      ends_make_in w ns (evaluation_of id job.document Trigger.JobDeregister) t (deregistered purge id job t) is
      (ends_quiet t (deregistered purge id job t) (deregistered_leaves purge id job t)))
  asked_ends (AskCommand.JobAllocations id) = still
  asked_ends (AskCommand.JobEvaluations id) = still
  asked_ends (AskCommand.ListEvaluations prefix) = still
  asked_ends (AskCommand.ReadEvaluation n) = leads_found (Onward Ends w) (get t.evaluations n) _ (λ e _. still)
  asked_ends (AskCommand.ListAllocations prefix) = still
  asked_ends (AskCommand.ReadAllocation n) = leads_found (Onward Ends w) (get t.allocations n) _ (λ a _. still)
  asked_ends (AskCommand.StopAllocation n) = leads_found (Onward Ends w) (get t.allocations n) _
      (λ a _. leads_unless (Onward Ends w) (not (is_live a)) Refusal.Conflict _ (λ _.
      ends_make_in w ns (evaluation_for t a Trigger.AllocStop) t (with_desired n DesiredStatus.Stop t) is (ends_desired n DesiredStatus.Stop t)))
  asked_ends AskCommand.ReadNamespace = still
  asked_ends (AskCommand.QuotaUsage quota) = leads_if (Onward Ends w) (names_quota quota t.namespace) (Done (Content.Usage quota (quota_use w quota)) w)
      (Refused Refusal.NotFound) (λ _. still) (λ _. tt)
  asked_ends (AskCommand.Events index) = still

pub ask_ends : (w : World) (ns : Name) (command : AskCommand) → Leads (Onward Ends w) (ask ns command w)
unfolding ask
ask_ends w ns command = leads_found (Onward Ends w) (get w.tenants ns) (asked_in ns command w) (λ t is. asked_ends w ns t is command)

-- ---- a worker's steps

module _ (w : World) (number : ℕ) where
  pub dequeue_ends : (key : Key) → Leads (Onward Ends w) (dequeue number key w)
  unfolding dequeue
  dequeue_ends key = leads_if (Onward Ends w) (nat_lt number workers_end && is_idle w number && is_served w w.ready key)
      (option_map_or (dequeue_in number key w) (get w.tenants key.0) NotEnabled) NotEnabled (λ _.
      leads_there (Onward Ends w) (get w.tenants key.0) (dequeue_in number key w) (λ t is. leads_there (Onward Ends w) (get t.evaluations key.1) _ (λ e _.
      let t' = with_worker number (new_worker key.1 e) t in
      ends_put w (taken number key w t e) key.0 t t' is (ends_quiet t t' refl) refl))) (λ _. tt)

  module _ (ns : Name) where
    pub snap_ends : Leads (Onward Ends w) (snap number ns w)
    unfolding snap
    snap_ends = leads_at_work (Onward Ends w) number ns w (snap_for number ns w) (λ t worker e is _ _.
        by t is worker (may_snap worker.tries worker.phase) (with_snapshot (snapshot_of w ns t worker.evaluation e) worker))
      where
        by : (t : Tenant) → get w.tenants ns ≡ Some t → (worker : Worker) (b : Bool) (new : Worker) →
            Leads (Onward Ends w) (cond b (Done (Content.Snapped worker.evaluation) (put_tenant ns (with_worker number new t) w)) NotEnabled)
        by t is worker true new = ends_put w (put_tenant ns (with_worker number new t) w) ns t (with_worker number new t) is
            (ends_quiet t (with_worker number new t) refl) refl
        by t is worker false new = tt

    pub submit_ends : Leads (Onward Ends w) (submit number ns w)
    unfolding submit
    submit_ends = leads_keeping (Onward Ends w) number ns w (λ t worker e. submit_for number ns w t worker) (λ t worker e kept is _ _ _.
        leads_if (Onward Ends w) (may_submit worker kept) (Done (Content.Queued worker.evaluation) (submitted number ns w t worker)) NotEnabled (λ _.
        let t' = with_worker number (record worker { phase = Phase.Submitted }) t in
        ends_put w (submitted number ns w t worker) ns t t' is (ends_quiet t t' refl) refl) (λ _. tt))

    -- the next one of the job is ready
    promote_ends : (job : Name) (x : World) → Onward Ends w x → Onward Ends w (promote ns job x)
    unfolding promote
    promote_ends job x c = elim (is_busy x ns job) as
        (λ b. Onward Ends w (cond b x (option_map_or (λ t. option_map_or (λ n. record x { ready = x.ready ++ (ns, n) ∷ [] }) (first_waiting job t) x)
        (get x.tenants ns) x))) [ true ↦ c | false ↦ tenant (get x.tenants ns) ]
      where
        waiting : (o : Option ℕ) → Onward Ends w (option_map_or (λ n. record x { ready = x.ready ++ (ns, n) ∷ [] }) o x)
        waiting None = c
        waiting (Some n) = c

        tenant : (o : Option Tenant) → Onward Ends w
            (option_map_or (λ t. option_map_or (λ n. record x { ready = x.ready ++ (ns, n) ∷ [] }) (first_waiting job t) x) o x)
        tenant None = c
        tenant (Some t) = waiting (first_waiting job t)

    module _ (t : Tenant) (is : get w.tenants ns ≡ Some t) (worker : Worker) (e : Evaluation) where
      followed_ends : (t' : Tenant) → t'.allocations ≡ t.allocations → (follower : Evaluation) (b : Bool) →
          Onward Ends w (followed ns worker follower t' b (without_blocked ns e.job t w))
      followed_ends t' same follower true =
          let u = with_follower worker.evaluation (record follower { status = Status.Pending }) t' in
          ends_put w (put_tenant ns u (without_blocked ns e.job t w)) ns t u is
          (ends_quiet t u (tied_leaves worker.evaluation (t'.evaluation_number + 1) t' ∙ same))
          (ap (λ m. insert m ns u) (unlisted_tenants ns e.job t w))
      followed_ends t' same follower false =
          let u = with_follower worker.evaluation follower t' in
          ends_put w (put_tenant ns u (without_blocked ns e.job t w)) ns t u is
          (ends_quiet t u (tied_leaves worker.evaluation (t'.evaluation_number + 1) t' ∙ same))
          (ap (λ m. insert m ns u) (unlisted_tenants ns e.job t w))

      finished_ends : (kept : Snapshot) → Leads (Onward Ends w) (finished number ns w t worker e kept)
      finished_ends kept =
          let t' = ended number worker e (end_of worker) t in
          let same = ended_leaves number worker e (end_of worker) t in
          let x = without_blocked ns e.job t w in
          leads_if (Onward Ends w) (needs_follower worker kept)
          (Done (Content.Finished (end_of worker) (Some (t.evaluation_number + 1)))
          (promote ns e.job (followed ns worker (follower_of e worker kept) t' (missed w kept (follower_of e worker kept)) x)))
          (Done (Content.Finished (end_of worker) None) (promote ns e.job (put_tenant ns t' x)))
          (λ _. promote_ends e.job _ (followed_ends t' same (follower_of e worker kept) (missed w kept (follower_of e worker kept))))
          (λ _. promote_ends e.job _ (ends_put w (put_tenant ns t' x) ns t t' is (ends_quiet t t' same)
          (ap (λ m. insert m ns t') (unlisted_tenants ns e.job t w))))

      nack_for_ends : Leads (Onward Ends w) (nack_for number ns w t worker e)
      nack_for_ends =
          let t' = with_nack worker.evaluation e t in
          let u = without_worker number t' in
          let v = with_status worker.evaluation Status.Failed u in
          leads_if (Onward Ends w) (is_submitted worker.phase) NotEnabled
          (cond (nat_le most_nacks (e.nacks + 1)) (given_up number ns w t' worker e) (given_back number ns w t' worker)) (λ _. tt) (λ _.
          leads_if (Onward Ends w) (nat_le most_nacks (e.nacks + 1)) (given_up number ns w t' worker e) (given_back number ns w t' worker)
          (λ _. promote_ends e.job (put_tenant ns v w)
          (ends_put w (put_tenant ns v w) ns t v is (ends_quiet t v (status_leaves worker.evaluation Status.Failed u)) refl))
          (λ _. ends_put w (put_tenant ns u w) ns t u is (ends_quiet t u refl) refl))

    pub finish_ends : Leads (Onward Ends w) (finish number ns w)
    unfolding finish
    finish_ends = leads_keeping (Onward Ends w) number ns w (finish_for number ns w) (λ t worker e kept is _ _ _.
        leads_if (Onward Ends w) (may_finish worker kept) (finished number ns w t worker e kept) NotEnabled (λ _. finished_ends t is worker e kept) (λ _. tt))

    pub nack_ends : Leads (Onward Ends w) (nack number ns w)
    unfolding nack
    nack_ends = leads_at_work (Onward Ends w) number ns w (nack_for number ns w) (λ t worker e is _ _. nack_for_ends t is worker e)
