-- What is asked in a namespace, and a worker's steps but for Apply: allocations go on, and nodes are the same.
use Rattle.std.specs.Prelude.{◌≡◌, ℕ, ◌+◌, ◌≤◌, Bool, true, false, cond, not, [], ◌∷◌, ◌++◌, Option, Some, None, ◌&&◌, nat_le, nat_lt}
use Rattle.std.proofs.Common.{refl, sym, ap, ◌∙◌}
use Rattle.std.specs.FinMap.{get, insert, remove}
use Rattle.std.specs.Option.{option_map_or, option_and_then}
use Rattle.ns_types.specs.declared.allocation.Allocation.{Allocation}
use Rattle.ns_types.specs.declared.allocation.DesiredStatus.{DesiredStatus}
use Rattle.ns_types.specs.declared.evaluation.Evaluation.{Evaluation}
use Rattle.ns_types.specs.declared.evaluation.Status.{Status}
use Rattle.ns_types.specs.declared.evaluation.Trigger.TheVariants as Trigger
use Rattle.ns_types.specs.declared.job.Job.{Job}
use Rattle.ns_types.specs.declared.job.Registration.{Registration}
use Rattle.ns_types.specs.declared.refusal.Refusal.TheVariants as Refusal
use Rattle.ns_types.specs.declared.reply.Content.TheVariants as Content
use Rattle.ns_types.specs.declared.snapshot.Snapshot.{Snapshot}
use Rattle.ns_types.specs.declared.step.AskCommand.{AskCommand}
use Rattle.ns_types.specs.Working.Worker.{Worker}
use Rattle.ns_types.specs.Asking.Asks.{first_refusal, document_of, registered_job, register, deregistered, deregister_job, asked_in, ask}
use Rattle.ns_types.specs.Settling.Making.{put_tenant, with_job, with_status, with_desired, with_evaluation, evaluation_of, evaluation_for, make_in}
use Rattle.ns_types.specs.State.Names.{Name, Key, ByName, ByNumber}
use Rattle.ns_types.specs.Settling.Outcome.{NotEnabled, Refused, Done}
use Rattle.ns_types.specs.Working.Queue.{is_busy, first_waiting, promote, is_served}
use Rattle.ns_types.specs.Settling.Releases.{missed}
use Rattle.ns_types.specs.State.Rows.{World, Tenant, PoolRows, is_live, is_run, is_held, node_at}
use Rattle.ns_types.specs.State.Sums.{names_quota, quota_use}
use Rattle.ns_types.specs.Working.Work.{with_worker, without_worker, without_key, workers_end, is_idle, new_worker, taken, dequeue_in, dequeue}
use Rattle.ns_types.specs.Working.Work.{may_snap, with_snapshot, snap_for, snap, may_submit, submitted, submit_for, submit, may_finish, end_of, needs_follower}
use Rattle.ns_types.specs.Working.Work.{follower_of, blocked_of, without_blocked, cancel_blocked, ended, tied_to, with_follower, followed, finished, finish_for}
use Rattle.ns_types.specs.Working.Work.{finish, is_submitted, most_nacks, with_nack, given_back, given_up, nack_for, nack}
use Rattle.ns_types.specs.Working.Snapshot.{snapshot_of}
use Rattle.ns_types.specs.declared.worker.Phase.TheVariants as Phase
use Rattle.ns_types.proofs.Lists.{not_both}
use Rattle.ns_audit.proofs.ValidAllocations.Statement.{IsAllocated}
use Rattle.ns_audit.proofs.Steady.Keeping.{more}
use Rattle.ns_types.proofs.Leads.{Leads, leads_unless, leads_refused, leads_found, leads_there, leads_if, leads_at_work, leads_keeping}
use Rattle.ns_types.proofs.Queue.{queue_keeps}
use Rattle.ns_audit.proofs.ValidAllocations.Sound.{itself, le_same}
use Rattle.ns_audit.proofs.ValidAllocations.Going.{Onward, onward_same, onward_put, onward_make_in, Goes, goes_quiet, goes_still, goes_then, goes_evaluation}
use Rattle.ns_audit.proofs.ValidAllocations.Going.{goes_row, Allocates, allocates_on}
use Rattle.ns_types.proofs.Bounds.{tied_number}

-- the allocations go on, and the nodes are the same
pub record Continues (w x : World) : Type 0 where
  pub goes : Onward Goes w x
  pub nodes : (pool name : Name) → node_at x pool name ≡ node_at w pool name

pub continues_allocates : (w x : World) → IsAllocated w → Continues w x → Allocates w x
continues_allocates w x s c = allocates_on w x s c.goes c.nodes

pub continues_same : (w x : World) → x.tenants ≡ w.tenants → x.pools ≡ w.pools → Continues w x
continues_same w x tenants pools = record {
  goes = onward_same Goes goes_still w x tenants;
  nodes =
      λ pool name. ap (λ m. option_and_then (λ (p : PoolRows). get p.nodes name) (get m pool)) pools;
}

pub continues_put : (w x : World) (ns : Name) (t t' : Tenant) → get w.tenants ns ≡ Some t → Goes t t' → x.tenants ≡ (put_tenant ns t' w).tenants →
    x.pools ≡ w.pools → Continues w x
continues_put w x ns t t' is goes tenants pools = record {
  goes = λ k u at. onward_put Goes goes_still w ns t t' is goes k u (sym (ap (λ m. get m k) tenants) ∙ at);
  nodes = (continues_same (put_tenant ns t' w) x tenants pools).nodes;
}

pub continues_make_in : (w : World) (ns : Name) (e : Evaluation) (t t' : Tenant) → get w.tenants ns ≡ Some t → Goes t t' → Continues w (make_in ns e w t')
continues_make_in w ns e t t' is goes = record {
  goes = onward_make_in Goes goes_still w ns e t t' is (goes_then t t' (with_evaluation e t') goes (goes_evaluation e t'));
  nodes = λ pool name. ap (λ m. option_and_then (λ (p : PoolRows). get p.nodes name) (get m pool))
      (queue_keeps (λ x. x.pools) (λ x keys. refl) (put_tenant ns (with_evaluation e t') w) (ns, t'.evaluation_number + 1));
}

-- ---- changes of a namespace

-- other jobs, evaluations and workers
pub goes_rows : (t : Tenant) (jobs : ByName Job) (evaluations : ByNumber Evaluation) (number : ℕ) (workers : ByNumber Worker) → t.evaluation_number ≤ number
    → Goes t (record t { jobs = jobs; evaluations = evaluations; evaluation_number = number; workers = workers })
goes_rows t jobs evaluations number workers le = goes_quiet t
    (record t { jobs = jobs; evaluations = evaluations; evaluation_number = number; workers = workers })
    (record { namespace = refl; index = refl; evaluations = le }) refl refl

goes_job : (jobs : ByName Job) (t : Tenant) → Goes t (record t { jobs = jobs })
goes_job jobs t = goes_rows t jobs t.evaluations t.evaluation_number t.workers (itself t.evaluation_number)

goes_workers : (workers : ByNumber Worker) (t : Tenant) → Goes t (record t { workers = workers })
goes_workers workers t = goes_rows t t.jobs t.evaluations t.evaluation_number workers (itself t.evaluation_number)

goes_evaluations : (evaluations : ByNumber Evaluation) (t : Tenant) → Goes t (record t { evaluations = evaluations })
goes_evaluations evaluations t = goes_rows t t.jobs evaluations t.evaluation_number t.workers (itself t.evaluation_number)

pub goes_desired : (n : ℕ) (d : DesiredStatus) → is_run d ≡ false → (t : Tenant) → Goes t (with_desired n d t)
goes_desired n d ends t = by (get t.allocations n) refl
  where
    by : (o : Option Allocation) → get t.allocations n ≡ o →
        Goes t (option_map_or (λ a. record t { allocations = insert t.allocations n (record a { desired = d }) }) o t)
    by None is = goes_still t
    by (Some a) is = goes_row t n a (record a { desired = d }) is refl (λ live. not_both live (ap (λ r. r && is_held a.client) ends))

goes_status : (n : ℕ) (status : Status) (t : Tenant) → Goes t (with_status n status t)
goes_status n status t = elim (get t.evaluations n) as
    (λ (o : Option Evaluation). Goes t (option_map_or (λ e. record t { evaluations = insert t.evaluations n (record e { status = status }) }) o t)) [
      | Some e ↦ goes_evaluations (insert t.evaluations n (record e { status = status })) t
      | None ↦ goes_still t
    ]

goes_canceled : (job : Name) (t : Tenant) → Goes t (cancel_blocked job t)
goes_canceled job t = elim (blocked_of t job) as (λ (o : Option ℕ). Goes t (option_map_or (λ n. with_status n Status.Canceled t) o t))
    [ Some n ↦ goes_status n Status.Canceled t | None ↦ goes_still t ]

goes_ended : (number : ℕ) (worker : Worker) (e : Evaluation) (status : Status) (t : Tenant) → Goes t (ended number worker e status t)
goes_ended number worker e status t =
    let x = with_status worker.evaluation status (without_worker number t) in
    goes_then t x (cancel_blocked e.job x)
    (goes_then t (without_worker number t) x (goes_workers (remove t.workers number) t) (goes_status worker.evaluation status (without_worker number t)))
    (goes_canceled e.job x)

goes_tied : (n follower : ℕ) (t : Tenant) → Goes t (tied_to n follower t)
goes_tied n follower t = elim (get t.evaluations n) as
    (λ (o : Option Evaluation). Goes t (option_map_or (λ e. record t { evaluations = insert t.evaluations n (record e { follower = Some follower }) }) o t)) [
      | Some e ↦ goes_evaluations (insert t.evaluations n (record e { follower = Some follower })) t
      | None ↦ goes_still t
    ]

goes_follower : (n : ℕ) (follower : Evaluation) (t : Tenant) → Goes t (with_follower n follower t)
goes_follower n follower t =
    let x = tied_to n (t.evaluation_number + 1) t in
    goes_then t x (with_follower n follower t) (goes_tied n (t.evaluation_number + 1) t)
    (goes_rows x x.jobs (insert x.evaluations (t.evaluation_number + 1) follower) (t.evaluation_number + 1) x.workers
    (more x.evaluation_number t.evaluation_number (le_same x.evaluation_number t.evaluation_number (tied_number n (t.evaluation_number + 1) t))))

-- ---- what is asked

module _ (w : World) (ns : Name) (t : Tenant) (is : get w.tenants ns ≡ Some t) where
  still : Continues w w
  still = continues_same w w refl refl

  registration_goes : (r : Registration) → Leads (Continues w) (register ns r w t)
  registration_goes r = leads_refused (Continues w) (first_refusal w t r) _ (λ _. by (registered_job (t.index + 1) (document_of t r) (get t.jobs r.id)))
    where
      by : (job : Job) → Continues w (make_in ns (evaluation_of r.id job.document Trigger.JobRegister) w (with_job r.id job t))
      by job = continues_make_in w ns (evaluation_of r.id job.document Trigger.JobRegister) t (with_job r.id job t) is (goes_job (insert t.jobs r.id job) t)

  deregistered_goes : (purge : Bool) (id : Name) (job : Job) → Goes t (deregistered purge id job t)
  deregistered_goes true id job = goes_job (remove t.jobs id) t
  deregistered_goes false id job = goes_job _ t

  asked_goes : (command : AskCommand) → Leads (Continues w) (asked_in ns command w t)
  asked_goes (AskCommand.ListJobs prefix) = still
  asked_goes (AskCommand.Register r) = registration_goes r
  asked_goes (AskCommand.ReadJob id) = leads_found (Continues w) (get t.jobs id) _ (λ job _. still)
  asked_goes (AskCommand.Deregister id purge) = leads_found (Continues w) (get t.jobs id) (deregister_job ns id purge w t) (λ job at.
      continues_make_in w ns (evaluation_of id job.document Trigger.JobDeregister) t (deregistered purge id job t) is (deregistered_goes purge id job))
  asked_goes (AskCommand.JobAllocations id) = still
  asked_goes (AskCommand.JobEvaluations id) = still
  asked_goes (AskCommand.ListEvaluations prefix) = still
  asked_goes (AskCommand.ReadEvaluation n) = leads_found (Continues w) (get t.evaluations n) _ (λ e _. still)
  asked_goes (AskCommand.ListAllocations prefix) = still
  asked_goes (AskCommand.ReadAllocation n) = leads_found (Continues w) (get t.allocations n) _ (λ a _. still)
  asked_goes (AskCommand.StopAllocation n) = leads_found (Continues w) (get t.allocations n) _
      (λ a _. leads_unless (Continues w) (not (is_live a)) Refusal.Conflict _ (λ _.
      continues_make_in w ns (evaluation_for t a Trigger.AllocStop) t (with_desired n DesiredStatus.Stop t) is (goes_desired n DesiredStatus.Stop refl t)))
  asked_goes AskCommand.ReadNamespace = still
  asked_goes (AskCommand.QuotaUsage quota) = leads_if (Continues w) (names_quota quota t.namespace) (Done (Content.Usage quota (quota_use w quota)) w)
      (Refused Refusal.NotFound) (λ _. still) (λ _. tt)
  asked_goes (AskCommand.Events index) = still

pub ask_goes : (w : World) (ns : Name) (command : AskCommand) → Leads (Continues w) (ask ns command w)
unfolding ask
ask_goes w ns command = leads_found (Continues w) (get w.tenants ns) (asked_in ns command w) (λ t is. asked_goes w ns t is command)

-- ---- a worker's steps

pub unlisted_tenants : (ns job : Name) (t : Tenant) (w : World) → (without_blocked ns job t w).tenants ≡ w.tenants
unlisted_tenants ns job t w = elim (blocked_of t job) as
    (λ (o : Option ℕ). (option_map_or (λ n. record w { blocked = without_key (ns, n) w.blocked }) o w).tenants ≡ w.tenants)
    [ Some n ↦ refl | None ↦ refl ]

module _ (w : World) (number : ℕ) where
  pub dequeue_goes : (key : Key) → Leads (Continues w) (dequeue number key w)
  unfolding dequeue
  dequeue_goes key = leads_if (Continues w) (nat_lt number workers_end && is_idle w number && is_served w w.ready key)
      (option_map_or (dequeue_in number key w) (get w.tenants key.0) NotEnabled) NotEnabled (λ _.
      leads_there (Continues w) (get w.tenants key.0) (dequeue_in number key w) (λ t is. leads_there (Continues w) (get t.evaluations key.1) _ (λ e _.
      continues_put w (taken number key w t e) key.0 t (with_worker number (new_worker key.1 e) t) is
      (goes_workers (insert t.workers number (new_worker key.1 e)) t) refl refl))) (λ _. tt)

  module _ (ns : Name) where
    pub snap_goes : Leads (Continues w) (snap number ns w)
    unfolding snap
    snap_goes = leads_at_work (Continues w) number ns w (snap_for number ns w) (λ t worker e is _ _.
        by t is worker (may_snap worker.tries worker.phase) (with_snapshot (snapshot_of w ns t worker.evaluation e) worker))
      where
        by : (t : Tenant) → get w.tenants ns ≡ Some t → (worker : Worker) (b : Bool) (new : Worker) →
            Leads (Continues w) (cond b (Done (Content.Snapped worker.evaluation) (put_tenant ns (with_worker number new t) w)) NotEnabled)
        by t is worker true new = continues_put w (put_tenant ns (with_worker number new t) w) ns t (with_worker number new t) is
            (goes_workers (insert t.workers number new) t) refl refl
        by t is worker false new = tt

    pub submit_goes : Leads (Continues w) (submit number ns w)
    unfolding submit
    submit_goes = leads_keeping (Continues w) number ns w (λ t worker e. submit_for number ns w t worker) (λ t worker e kept is _ _ _.
        leads_if (Continues w) (may_submit worker kept) (Done (Content.Queued worker.evaluation) (submitted number ns w t worker)) NotEnabled (λ _.
        continues_put w (submitted number ns w t worker) ns t (with_worker number (record worker { phase = Phase.Submitted }) t) is
        (goes_workers (insert t.workers number (record worker { phase = Phase.Submitted })) t) refl refl) (λ _. tt))

    -- the next one of the job is ready
    promote_goes : (job : Name) (x : World) → Continues w x → Continues w (promote ns job x)
    unfolding promote
    promote_goes job x c = elim (is_busy x ns job) as
        (λ b. Continues w (cond b x (option_map_or (λ t. option_map_or (λ n. record x { ready = x.ready ++ (ns, n) ∷ [] }) (first_waiting job t) x)
        (get x.tenants ns) x))) [ true ↦ c | false ↦ tenant (get x.tenants ns) ]
      where
        waiting : (o : Option ℕ) → Continues w (option_map_or (λ n. record x { ready = x.ready ++ (ns, n) ∷ [] }) o x)
        waiting None = c
        waiting (Some n) = record { goes = c.goes; nodes = c.nodes }

        tenant : (o : Option Tenant) → Continues w
            (option_map_or (λ t. option_map_or (λ n. record x { ready = x.ready ++ (ns, n) ∷ [] }) (first_waiting job t) x) o x)
        tenant None = c
        tenant (Some t) = waiting (first_waiting job t)

    module _ (t : Tenant) (is : get w.tenants ns ≡ Some t) (worker : Worker) (e : Evaluation) where
      pools_before : (without_blocked ns e.job t w).pools ≡ w.pools
      pools_before = elim (blocked_of t e.job) as
          (λ (o : Option ℕ). (option_map_or (λ n. record w { blocked = without_key (ns, n) w.blocked }) o w).pools ≡ w.pools) [ Some n ↦ refl | None ↦ refl ]

      followed_goes : (t' : Tenant) → Goes t t' → (follower : Evaluation) (b : Bool) →
          Continues w (followed ns worker follower t' b (without_blocked ns e.job t w))
      followed_goes t' goes follower true = continues_put w _ ns t (with_follower worker.evaluation (record follower { status = Status.Pending }) t') is
          (goes_then t t' (with_follower worker.evaluation (record follower { status = Status.Pending }) t') goes
          (goes_follower worker.evaluation (record follower { status = Status.Pending }) t'))
          (ap (λ m. insert m ns (with_follower worker.evaluation (record follower { status = Status.Pending }) t'))
          (unlisted_tenants ns e.job t w)) pools_before
      followed_goes t' goes follower false = continues_put w _ ns t (with_follower worker.evaluation follower t') is
          (goes_then t t' (with_follower worker.evaluation follower t') goes (goes_follower worker.evaluation follower t'))
          (ap (λ m. insert m ns (with_follower worker.evaluation follower t')) (unlisted_tenants ns e.job t w)) pools_before

      finished_goes : (kept : Snapshot) → Leads (Continues w) (finished number ns w t worker e kept)
      finished_goes kept =
          let t' = ended number worker e (end_of worker) t in
          let goes = goes_ended number worker e (end_of worker) t in
          let x = without_blocked ns e.job t w in
          leads_if (Continues w) (needs_follower worker kept)
          (Done (Content.Finished (end_of worker) (Some (t.evaluation_number + 1)))
          (promote ns e.job (followed ns worker (follower_of e worker kept) t' (missed w kept (follower_of e worker kept)) x)))
          (Done (Content.Finished (end_of worker) None) (promote ns e.job (put_tenant ns t' x)))
          (λ _. promote_goes e.job _ (followed_goes t' goes (follower_of e worker kept) (missed w kept (follower_of e worker kept))))
          (λ _. promote_goes e.job _ (continues_put w (put_tenant ns t' x) ns t t' is goes (ap (λ m. insert m ns t')
          (unlisted_tenants ns e.job t w)) pools_before))

      nacked : Tenant
      nacked = with_nack worker.evaluation e t

      nacked_goes : Goes t (without_worker number (with_nack worker.evaluation e t))
      nacked_goes = goes_rows t t.jobs (insert t.evaluations worker.evaluation (record e { nacks = e.nacks + 1 })) t.evaluation_number (remove t.workers number)
          (itself t.evaluation_number)

      nack_for_goes : Leads (Continues w) (nack_for number ns w t worker e)
      nack_for_goes =
          let t' = with_nack worker.evaluation e t in
          let u = without_worker number t' in
          let v = with_status worker.evaluation Status.Failed u in
          leads_if (Continues w) (is_submitted worker.phase) NotEnabled
          (cond (nat_le most_nacks (e.nacks + 1)) (given_up number ns w t' worker e) (given_back number ns w t' worker)) (λ _. tt) (λ _.
          leads_if (Continues w) (nat_le most_nacks (e.nacks + 1)) (given_up number ns w t' worker e) (given_back number ns w t' worker)
          (λ _. promote_goes e.job (put_tenant ns v w)
          (continues_put w (put_tenant ns v w) ns t v is (goes_then t u v nacked_goes (goes_status worker.evaluation Status.Failed u)) refl refl))
          (λ _. continues_put w _ ns t u is nacked_goes refl refl))

    pub finish_goes : Leads (Continues w) (finish number ns w)
    unfolding finish
    finish_goes = leads_keeping (Continues w) number ns w (finish_for number ns w) (λ t worker e kept is _ _ _.
        leads_if (Continues w) (may_finish worker kept) (finished number ns w t worker e kept) NotEnabled (λ _. finished_goes t is worker e kept) (λ _. tt))

    pub nack_goes : Leads (Continues w) (nack number ns w)
    unfolding nack
    nack_goes = leads_at_work (Continues w) number ns w (nack_for number ns w) (λ t worker e is _ _. nack_for_goes t is worker e)
