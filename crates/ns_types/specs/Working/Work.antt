-- A worker's steps except Apply: it dequeues an evaluation, takes a snapshot, submits its plan, and finishes or nacks.
-- Nomad's page "Scheduling in Nomad", of workers.
use Rattle.std.specs.Prelude.{ℕ, ◌+◌, Bool, true, false, not, ◌&&◌, ◌||◌, if◌then◌else◌, List, [], ◌∷◌, ◌++◌, Option}
use Rattle.std.specs.Prelude.{Some, None, nat_eq, nat_lt, nat_le, filter, option_map, find}
use Rattle.std.specs.Option.{option_map_or}
use Rattle.std.specs.FinMap.{get, insert, remove, contains_key, entries}
use Rattle.ns_types.specs.declared.evaluation.Evaluation.{Evaluation}
use Rattle.ns_types.specs.declared.evaluation.Status.{Status}
use Rattle.ns_types.specs.declared.evaluation.Trigger.TheVariants as Trigger
use Rattle.ns_types.specs.declared.job.JobKind.{JobKind}
use Rattle.ns_types.specs.declared.reply.Content.TheVariants as Content
use Rattle.ns_types.specs.declared.snapshot.Snapshot.{Snapshot}
use Rattle.ns_types.specs.declared.worker.Phase.{Phase}
use Rattle.ns_types.specs.Working.Worker.{Worker}
use Rattle.ns_types.specs.Settling.Making.{put_tenant, with_status}
use Rattle.ns_types.specs.State.Names.{Name, Key, same_name, same_key}
use Rattle.ns_types.specs.Settling.Outcome.{Outcome, NotEnabled, Done}
use Rattle.ns_types.specs.Placing.Plan.{plan, does_nothing, is_short, any_escapes, infeasible_classes}
use Rattle.ns_types.specs.Working.Queue.{promote, is_served}
use Rattle.ns_types.specs.Settling.Releases.{missed}
use Rattle.ns_types.specs.State.Rows.{World, Tenant, is_blocked}
use Rattle.ns_types.specs.Working.Snapshot.{snapshot_of}
use Rattle.ns_types.specs.State.Tables.{any_row}

-- ---- rows of workers

abbrev pub with_worker : ℕ → Worker → Tenant → Tenant
with_worker number worker t = record t { workers = insert t.workers number worker }

abbrev pub without_worker : ℕ → Tenant → Tenant
without_worker number t = record t { workers = remove t.workers number }

abbrev pub without_key : Key → List Key → List Key
without_key key keys = filter (λ other. not (same_key key other)) keys

-- what a worker does with its evaluation; the step is not enabled if the worker has none in this namespace
abbrev pub at_work : ℕ → Name → World → (Tenant → Worker → Evaluation → Outcome World) → Outcome World
at_work number ns w act =
    option_map_or (λ t. option_map_or
    (λ worker. option_map_or (act t worker) (get t.evaluations worker.evaluation) NotEnabled) (get t.workers number)
    NotEnabled) (get w.tenants ns) NotEnabled

-- ---- Dequeue

-- the numbers of workers are below 64
abbrev pub workers_end : ℕ
workers_end = 64

-- the worker has no evaluation, in any namespace
abbrev pub is_idle : World → ℕ → Bool
is_idle w number = not (any_row (λ _ t. contains_key t.workers number) w.tenants)

-- the tries that an evaluation has at first, by the type of its job
abbrev pub tries_for : JobKind → ℕ
tries_for JobKind.Service = 5
tries_for JobKind.Batch = 2

abbrev pub new_worker : ℕ → Evaluation → Worker
new_worker n e = record { evaluation = n; phase = Phase.Took; tries = tries_for e.kind; kept = None }

abbrev pub taken : ℕ → Key → World → Tenant → Evaluation → World
taken number key w t e = record (put_tenant key.0 (with_worker number (new_worker key.1 e) t) w)
    { ready = without_key key w.ready }

abbrev pub dequeue_in : ℕ → Key → World → Tenant → Outcome World
dequeue_in number key w t = option_map_or (λ e. Done (Content.Took key.1) (taken number key w t e))
    (get t.evaluations key.1) NotEnabled

-- an idle worker takes the evaluation that is the next in `ready`
unfoldable pub dequeue : ℕ → Key → World → Outcome World
dequeue number key w =
    if nat_lt number workers_end && is_idle w number && is_served w w.ready key
    then option_map_or (dequeue_in number key w) (get w.tenants key.0) NotEnabled
    else NotEnabled

-- ---- Snap

-- a worker may take a snapshot after it has dequeued, or after something of its plan was dropped while tries remain
abbrev pub may_snap : ℕ → Phase → Bool
may_snap tries Phase.Took = true
may_snap tries Phase.Snapped = false
may_snap tries Phase.Submitted = false
may_snap tries Phase.Applied = false
may_snap tries Phase.Dropped = not (nat_eq tries 0)

abbrev pub with_snapshot : Snapshot → Worker → Worker
with_snapshot kept worker = record worker { phase = Phase.Snapped; kept = Some kept }

abbrev pub snap_for : ℕ → Name → World → Tenant → Worker → Evaluation → Outcome World
snap_for number ns w t worker e =
    if may_snap worker.tries worker.phase
    then Done (Content.Snapped worker.evaluation)
    (put_tenant ns (with_worker number (with_snapshot (snapshot_of w ns t worker.evaluation e) worker) t) w)
    else NotEnabled

unfoldable pub snap : ℕ → Name → World → Outcome World
snap number ns w = at_work number ns w (snap_for number ns w)

-- ---- Submit

-- Neither the headline nor the wire rests on this and the next: the type of a worker's row keeps it.
-- the snapshot whose plan a worker's row has: the kept one from Submit on, until the worker takes another snapshot
abbrev pub planned_in : Phase → Option Snapshot → Option Snapshot
planned_in Phase.Took kept = None
planned_in Phase.Snapped kept = None
planned_in Phase.Submitted kept = kept
planned_in Phase.Applied kept = kept
planned_in Phase.Dropped kept = kept

abbrev pub planned_of : Worker → Option Snapshot
planned_of worker = planned_in worker.phase worker.kept

abbrev pub is_snapped : Phase → Bool
is_snapped Phase.Snapped = true
is_snapped _ = false

-- the worker has taken its snapshot and not submitted since, and the plan stops or places something
abbrev pub may_submit : Worker → Snapshot → Bool
may_submit worker kept = is_snapped worker.phase && not (does_nothing (plan kept))

abbrev pub submitted : ℕ → Name → World → Tenant → Worker → World
submitted number ns w t worker = record
    (put_tenant ns (with_worker number (record worker { phase = Phase.Submitted }) t) w)
    { plans = w.plans ++ (ns, worker.evaluation) ∷ [] }

abbrev pub submit_for : ℕ → Name → World → Tenant → Worker → Snapshot → Outcome World
submit_for number ns w t worker kept =
    if may_submit worker kept then Done (Content.Queued worker.evaluation) (submitted number ns w t worker)
    else NotEnabled

unfoldable pub submit : ℕ → Name → World → Outcome World
submit number ns w = at_work number ns w
    (λ t worker e. option_map_or (submit_for number ns w t worker) worker.kept NotEnabled)

-- ---- Finish

-- a worker may finish after a snapshot whose plan does nothing, after a plan with nothing dropped, or without tries left
abbrev pub may_finish_in : Phase → ℕ → Snapshot → Bool
may_finish_in Phase.Took tries kept = false
may_finish_in Phase.Snapped tries kept = does_nothing (plan kept)
may_finish_in Phase.Submitted tries kept = false
may_finish_in Phase.Applied tries kept = true
may_finish_in Phase.Dropped tries kept = nat_eq tries 0

abbrev pub may_finish : Worker → Snapshot → Bool
may_finish worker kept = may_finish_in worker.phase worker.tries kept

abbrev pub has_failed : Worker → Bool
has_failed worker = nat_eq worker.tries 0

abbrev pub end_of : Worker → Status
end_of worker = if has_failed worker then Status.Failed else Status.Complete

-- the evaluation needs a follower: a missing allocation was not placed, or the tries are used up
abbrev pub needs_follower : Worker → Snapshot → Bool
needs_follower worker kept = has_failed worker || is_short (plan kept)

-- the quota that ended placing, if a quota did
abbrev pub limiting_quota : Snapshot → Option Name
limiting_quota kept = if (plan kept).placing.quota_limited then option_map (λ q. q.name) kept.quota else None

-- the follower as it would be blocked. After a failure it escapes classes, and no quota limits it
abbrev pub follower_of : Evaluation → Worker → Snapshot → Evaluation
follower_of e worker kept = record {
  job = e.job;
  kind = e.kind;
  priority = e.priority;
  pool = kept.pool;
  trigger = if has_failed worker then Trigger.MaxPlanAttempts else Trigger.QueuedAllocs;
  status = Status.Blocked;
  previous = Some worker.evaluation;
  follower = None;
  quota = if has_failed worker then None else limiting_quota kept;
  escapes = has_failed worker || any_escapes kept;
  infeasible = infeasible_classes kept;
  nacks = 0;
  create_index = 0;
  modify_index = 0;
}

-- the number of the job's blocked evaluation
abbrev pub blocked_of : Tenant → Name → Option ℕ
blocked_of t job = option_map (λ e. e.0)
    (find (λ e. same_name job e.1.job && is_blocked e.1.status) (entries t.evaluations))

abbrev pub without_blocked : Name → Name → Tenant → World → World
without_blocked ns job t w = option_map_or (λ n. record w { blocked = without_key (ns, n) w.blocked })
    (blocked_of t job) w

abbrev pub cancel_blocked : Name → Tenant → Tenant
cancel_blocked job t = option_map_or (λ n. with_status n Status.Canceled t) (blocked_of t job) t

-- the evaluation has ended with that status, the job's blocked evaluation is canceled, and the worker is idle
abbrev pub ended : ℕ → Worker → Evaluation → Status → Tenant → Tenant
ended number worker e status t = cancel_blocked e.job (with_status worker.evaluation status (without_worker number t))

-- evaluation n names its follower
abbrev pub tied_to : ℕ → ℕ → Tenant → Tenant
tied_to n follower t = option_map_or (λ e. record t
    { evaluations = insert t.evaluations n (record e { follower = Some follower }) }) (get t.evaluations n) t

-- the follower is the namespace's next evaluation
abbrev pub with_follower : ℕ → Evaluation → Tenant → Tenant
with_follower n follower t =
    let number = t.evaluation_number + 1 in
    record (tied_to n number t) {
      evaluation_number = number;
      evaluations = insert (tied_to n number t).evaluations number follower;
    }

-- a follower that missed a release is pending, and waits until `promote` makes it ready; any other is blocked
abbrev pub followed : Name → Worker → Evaluation → Tenant → Bool → World → World
followed ns worker follower t true w =
    put_tenant ns (with_follower worker.evaluation (record follower { status = Status.Pending }) t) w
followed ns worker follower t false w =
    record (put_tenant ns (with_follower worker.evaluation follower t) w)
    { blocked = w.blocked ++ (ns, t.evaluation_number + 1) ∷ [] }

abbrev pub finished : ℕ → Name → World → Tenant → Worker → Evaluation → Snapshot → Outcome World
finished number ns w t worker e kept =
    let t' = ended number worker e (end_of worker) t in
    let w' = without_blocked ns e.job t w in
    let follower = follower_of e worker kept in
    if needs_follower worker kept
    then Done (Content.Finished (end_of worker) (Some (t.evaluation_number + 1)))
    (promote ns e.job (followed ns worker follower t' (missed w kept follower) w'))
    else Done (Content.Finished (end_of worker) None) (promote ns e.job (put_tenant ns t' w'))

abbrev pub finish_for : ℕ → Name → World → Tenant → Worker → Evaluation → Snapshot → Outcome World
finish_for number ns w t worker e kept =
    if may_finish worker kept then finished number ns w t worker e kept
    else NotEnabled

unfoldable pub finish : ℕ → Name → World → Outcome World
finish number ns w = at_work number ns w
    (λ t worker e. option_map_or (finish_for number ns w t worker e) worker.kept NotEnabled)

-- ---- Nack

abbrev pub is_submitted : Phase → Bool
is_submitted Phase.Submitted = true
is_submitted _ = false

-- an evaluation fails at its third nack
abbrev pub most_nacks : ℕ
most_nacks = 3

abbrev pub with_nack : ℕ → Evaluation → Tenant → Tenant
with_nack n e t = record t { evaluations = insert t.evaluations n (record e { nacks = e.nacks + 1 }) }

-- the worker is idle, and the evaluation is ready again, at the end of the queue
abbrev pub given_back : ℕ → Name → World → Tenant → Worker → Outcome World
given_back number ns w t worker =
    Done (Content.Nacked Status.Pending)
    (record (put_tenant ns (without_worker number t) w) { ready = w.ready ++ (ns, worker.evaluation) ∷ [] })

-- the worker is idle, the evaluation fails without a follower, and the next one of its job becomes ready
abbrev pub given_up : ℕ → Name → World → Tenant → Worker → Evaluation → Outcome World
given_up number ns w t worker e =
    Done (Content.Nacked Status.Failed)
    (promote ns e.job (put_tenant ns (with_status worker.evaluation Status.Failed (without_worker number t)) w))

abbrev pub nack_for : ℕ → Name → World → Tenant → Worker → Evaluation → Outcome World
nack_for number ns w t worker e =
    let t' = with_nack worker.evaluation e t in
    if is_submitted worker.phase then NotEnabled
    else if nat_le most_nacks (e.nacks + 1) then given_up number ns w t' worker e
    else given_back number ns w t' worker

unfoldable pub nack : ℕ → Name → World → Outcome World
nack number ns w = at_work number ns w (nack_for number ns w)
