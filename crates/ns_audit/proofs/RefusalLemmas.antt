-- Which refusals a step answers, command by command.
use Rattle.std.specs.Prelude.{◌≡◌, ℕ, ◌+◌, Bool, true, false, cond, ◌&&◌, nat_lt, nat_le, Option, Some, None, Ok, Err}
use Rattle.std.proofs.Common.{refl, sym, ap, ◌∙◌}
use Rattle.std.specs.FinMap.{contains_key, get}
use Rattle.std.specs.Option.{option_map_or}
use Rattle.ns_types.specs.declared.evaluation.Evaluation.{Evaluation}
use Rattle.ns_types.specs.declared.refusal.Refusal.{Refusal}
use Rattle.ns_types.specs.declared.step.AdminCommand.{AdminCommand}
use Rattle.ns_types.specs.declared.step.AskCommand.{AskCommand}
use Rattle.ns_types.specs.declared.step.NodeCommand.{NodeCommand}
use Rattle.ns_types.specs.declared.step.Step.{Step}
use Rattle.ns_types.specs.Working.Worker.{Worker}
use Rattle.ns_types.specs.Asking.Policies.{administer, with_acl, with_world, secret_of}
use Rattle.ns_types.specs.Asking.Admins.{put_namespace, delete_namespace, put_quota, delete_quota, put_pool_record, delete_pool}
use Rattle.ns_types.specs.Asking.Asks.{ask, asked_in, first_refusal, has_no_room, is_outdated, pool_of}
use Rattle.ns_types.specs.Working.Commit.{apply, apply_for}
use Rattle.ns_types.specs.State.Names.{Name, Key}
use Rattle.ns_types.specs.Asking.Nodes.{ask_pool, asked_in_pool, same_client}
use Rattle.ns_types.specs.Settling.Outcome.{Outcome, NotEnabled, Refused, Done, unless, refused_by, found, lift}
use Rattle.ns_types.specs.Working.Queue.{is_served}
use Rattle.ns_types.specs.State.Rows.{State, World, Tenant, PoolRows, allocation_at}
use Rattle.ns_types.specs.Steps.{Answer, after, act, said, concluded, is_allowed, is_past_bound, settled, reply_of}
use Rattle.ns_types.specs.State.Sums.{names_quota}
use Rattle.ns_types.specs.Working.Work.{at_work, workers_end, is_idle, dequeue, dequeue_in, may_snap, snap, snap_for, may_submit, submit, submit_for}
use Rattle.ns_types.specs.Working.Work.{may_finish, needs_follower, finish, finish_for, is_submitted, most_nacks, nack, nack_for}
use Rattle.ns_types.specs.Access.Sharing.{permits}
use Rattle.ns_types.proofs.Lists.{not_both}
use Rattle.ns_types.proofs.Registrations.{by_tests}
use Rattle.ns_audit.specs.Refusals as law
use Rattle.ns_audit.proofs.RightsLemmas.{denied_without}
use Rattle.ns_audit.proofs.StepLemmas.{same_answer, not_said, not_refused}

-- ---- outcomes

-- whether an outcome is no refusal, or one that passes
abbrev pub only : {S : Type 0} → (Refusal → Bool) → Outcome S → Bool
only passes NotEnabled = true
only passes (Refused refusal) = passes refusal
only passes (Done content s) = true

module _ (passes : Refusal → Bool) where
  by_unless : {S : Type 0} (b : Bool) (refusal : Refusal) (rest : Outcome S) → passes refusal ≡ true → only passes rest ≡ true →
      only passes (unless b refusal rest) ≡ true
  unfolding unless
  by_unless true refusal rest e f = e
  by_unless false refusal rest e f = f

  by_refused : {S : Type 0} (x : Option Refusal) (rest : Outcome S) → option_map_or passes x true ≡ true → only passes rest ≡ true →
      only passes (refused_by x rest) ≡ true
  by_refused None rest e f = f
  by_refused (Some refusal) rest e f = e

  by_if : {S : Type 0} (b : Bool) (first rest : Outcome S) → only passes first ≡ true → only passes rest ≡ true → only passes (cond b first rest) ≡ true
  by_if true first rest e f = e
  by_if false first rest e f = f

  by_option : {S A : Type 0} (o : Option A) (go : A → Outcome S) (none : Outcome S) → only passes none ≡ true → ((a : A) → only passes (go a) ≡ true)
      → only passes (option_map_or go o none) ≡ true
  by_option None go none e f = e
  by_option (Some a) go none e f = f a

  by_lift : {A B : Type 0} (whole : A → B) (o : Outcome A) → only passes o ≡ true → only passes (lift whole o) ≡ true
  by_lift whole NotEnabled e = refl
  by_lift whole (Refused refusal) e = e
  by_lift whole (Done content a) e = refl

-- ---- what is asked and administered

abbrev later : Refusal → Bool
later Refusal.NotFound = true
later Refusal.PoolNotPermitted = true
later (Refusal.BadField member) = true
later Refusal.Conflict = true
later Refusal.InUse = true
later Refusal.Full = true
later _ = false

by_found : {S A : Type 0} (o : Option A) (go : A → Outcome S) → ((a : A) → only later (go a) ≡ true) → only later (found o go) ≡ true
by_found None go f = refl
by_found (Some a) go f = f a

by_tests_later : (a b c d : Bool) → option_map_or later (by_tests a b c d) true ≡ true
by_tests_later false b c d = refl
by_tests_later true false c d = refl
by_tests_later true true true d = refl
by_tests_later true true false true = refl
by_tests_later true true false false = refl

asked : (ns : Name) (command : AskCommand) (w : World) (t : Tenant) → only later (asked_in ns command w t) ≡ true
asked ns (AskCommand.ListJobs prefix) w t = refl
asked ns (AskCommand.Register r) w t = by_refused later (first_refusal w t r) _
    (by_tests_later (permits t.namespace (pool_of t r)) (contains_key w.pools (pool_of t r)) (is_outdated r t) (has_no_room r t)) refl
asked ns (AskCommand.ReadJob id) w t = by_found (get t.jobs id) _ (λ job. refl)
asked ns (AskCommand.Deregister id purge) w t = by_found (get t.jobs id) _ (λ job. refl)
asked ns (AskCommand.JobAllocations id) w t = refl
asked ns (AskCommand.JobEvaluations id) w t = refl
asked ns (AskCommand.ListEvaluations prefix) w t = refl
asked ns (AskCommand.ReadEvaluation n) w t = by_found (get t.evaluations n) _ (λ e. refl)
asked ns (AskCommand.ListAllocations prefix) w t = refl
asked ns (AskCommand.ReadAllocation n) w t = by_found (get t.allocations n) _ (λ a. refl)
asked ns (AskCommand.StopAllocation n) w t = by_found (get t.allocations n) _ (λ a. by_unless later _ _ _ refl refl)
asked ns AskCommand.ReadNamespace w t = refl
asked ns (AskCommand.QuotaUsage quota) w t = by_if later (names_quota quota t.namespace) _ _ refl refl
asked ns (AskCommand.Events index) w t = refl

pool_asked : (pool : Name) (command : NodeCommand) (w : World) (p : PoolRows) → only later (asked_in_pool pool command w p) ≡ true
pool_asked pool NodeCommand.ReadPool w p = refl
pool_asked pool NodeCommand.ListNodes w p = refl
pool_asked pool (NodeCommand.PutNode name offer) w p = by_unless later _ _ _ refl (by_unless later _ _ _ refl refl)
pool_asked pool (NodeCommand.DeleteNode name) w p = by_found (get p.nodes name) _ (λ node. by_unless later _ _ _ refl refl)
pool_asked pool (NodeCommand.SetStatus name status) w p = by_found (get p.nodes name) _ (λ node. refl)
pool_asked pool (NodeCommand.SetEligible name eligible) w p = by_found (get p.nodes name) _ (λ node. refl)
pool_asked pool (NodeCommand.Report name r) w p = by_found (get p.nodes name) _ (λ node. by_found (allocation_at w (r.namespace, r.number)) _ (λ a.
    by_unless later _ _ _ refl (by_if later (same_client a.client r.client) _ _ refl (by_unless later _ _ _ refl refl))))

administered : (secret : Option Name) (command : AdminCommand) (s : State) → only later (administer secret command s) ≡ true
unfolding administer put_namespace delete_namespace put_quota delete_quota put_pool_record delete_pool
administered secret AdminCommand.ListNamespaces s = refl
administered secret (AdminCommand.PutNamespace name namespace) s = by_lift later (with_world s.acl) (put_namespace name namespace s.world)
    (by_unless later _ _ _ refl (by_unless later _ _ _ refl (by_unless later _ _ _ refl (by_unless later _ _ _ refl (by_unless later _ _ _ refl refl)))))
administered secret (AdminCommand.DeleteNamespace name) s = by_lift later (with_world s.acl) (delete_namespace name s.world)
    (by_found (get s.world.tenants name) _ (λ t. by_unless later _ _ _ refl (by_unless later _ _ _ refl refl)))
administered secret AdminCommand.ListQuotas s = refl
administered secret (AdminCommand.ReadQuota name) s = by_lift later (with_world s.acl) _ (by_found (get s.world.quotas name) _ (λ q. refl))
administered secret (AdminCommand.PutQuota name quota) s = by_lift later (with_world s.acl) (put_quota name quota s.world) (by_unless later _ _ _ refl refl)
administered secret (AdminCommand.DeleteQuota name) s = by_lift later (with_world s.acl) (delete_quota name s.world)
    (by_found (get s.world.quotas name) _ (λ q. by_unless later _ _ _ refl refl))
administered secret AdminCommand.ListPools s = refl
administered secret (AdminCommand.PutPool name pool) s = by_lift later (with_world s.acl) (put_pool_record name pool s.world) (by_unless later _ _ _ refl refl)
administered secret (AdminCommand.DeletePool name) s = by_lift later (with_world s.acl) (delete_pool name s.world)
    (by_found (get s.world.pools name) _ (λ p. by_unless later _ _ _ refl (by_unless later _ _ _ refl refl)))
administered secret (AdminCommand.ReadPolicy name) s = by_lift later (with_acl s.world) _ (by_found (get s.acl.policies name) _ (λ policy. refl))
administered secret (AdminCommand.PutPolicy name policy) s = by_lift later (with_acl s.world) _ (by_unless later _ _ _ refl refl)
administered secret (AdminCommand.DeletePolicy name) s = by_lift later (with_acl s.world) _ (by_found (get s.acl.policies name) _ (λ policy. refl))
administered secret (AdminCommand.CreateToken new) s = by_lift later (with_acl s.world) _ (by_unless later _ _ _ refl (by_unless later _ _ _ refl refl))
administered secret (AdminCommand.DeleteToken accessor) s =
    by_lift later (with_acl s.world) _ (by_found (secret_of s.acl accessor) _ (λ secret. by_unless later _ _ _ refl refl))

-- ---- workers

abbrev pub never : Refusal → Bool
never refusal = false

by_at_work : (number : ℕ) (ns : Name) (w : World) (go : Tenant → Worker → Evaluation → Outcome World) →
    ((t : Tenant) (worker : Worker) (e : Evaluation) → only never (go t worker e) ≡ true)
    → only never (at_work number ns w go) ≡ true
by_at_work number ns w go f = by_option never (get w.tenants ns) _ NotEnabled refl (λ t. by_option never (get t.workers number) _ NotEnabled refl (λ worker.
    by_option never (get t.evaluations worker.evaluation) _ NotEnabled refl (λ e. f t worker e)))

dequeued : (number : ℕ) (key : Key) (w : World) → only never (dequeue number key w) ≡ true
unfolding dequeue
dequeued number key w = by_if never (nat_lt number workers_end && is_idle w number && is_served w w.ready key) _ _
    (by_option never (get w.tenants key.0) (dequeue_in number key w) NotEnabled refl
    (λ t. by_option never (get t.evaluations key.1) _ NotEnabled refl (λ e. refl))) refl

snapped : (number : ℕ) (ns : Name) (w : World) → only never (snap number ns w) ≡ true
unfolding snap
snapped number ns w = by_at_work number ns w (snap_for number ns w) (λ t worker e. by_if never (may_snap worker.tries worker.phase) _ _ refl refl)

submitted : (number : ℕ) (ns : Name) (w : World) → only never (submit number ns w) ≡ true
unfolding submit
submitted number ns w = by_at_work number ns w (λ t worker e. option_map_or (submit_for number ns w t worker) worker.kept NotEnabled)
    (λ t worker e. by_option never worker.kept (submit_for number ns w t worker) NotEnabled refl (λ kept. by_if never (may_submit worker kept) _ _ refl refl))

committed : (number : ℕ) (ns : Name) (w : World) → only never (apply number ns w) ≡ true
unfolding apply
committed number ns w = by_at_work number ns w (λ t worker e. option_map_or (apply_for number ns w t worker e) worker.kept NotEnabled)
    (λ t worker e. by_option never worker.kept (apply_for number ns w t worker e) NotEnabled refl (λ kept.
    by_if never (is_submitted worker.phase && is_served w w.plans (ns, worker.evaluation)) _ _ refl refl))

ended : (number : ℕ) (ns : Name) (w : World) → only never (finish number ns w) ≡ true
unfolding finish
ended number ns w = by_at_work number ns w (λ t worker e. option_map_or (finish_for number ns w t worker e) worker.kept NotEnabled)
    (λ t worker e. by_option never worker.kept (finish_for number ns w t worker e) NotEnabled refl (λ kept.
    by_if never (may_finish worker kept) _ _ (by_if never (needs_follower worker kept) _ _ refl refl) refl))

nacked : (number : ℕ) (ns : Name) (w : World) → only never (nack number ns w) ≡ true
unfolding nack
nacked number ns w = by_at_work number ns w (nack_for number ns w) (λ t worker e.
    by_if never (is_submitted worker.phase) _ _ refl (by_if never (nat_le most_nacks (e.nacks + 1)) _ _ refl refl))

-- ---- steps

pub worker_acts : (step : Step) (s : State) → law.is_of_worker step ≡ true → only never (act step s) ≡ true
unfolding act
worker_acts (Step.Ask ns secret command) s e = not_both e refl
worker_acts (Step.Admin secret command) s e = not_both e refl
worker_acts (Step.Node pool secret command) s e = not_both e refl
worker_acts (Step.Dequeue worker ns n) s e = by_lift never (with_world s.acl) (dequeue worker (ns, n) s.world) (dequeued worker (ns, n) s.world)
worker_acts (Step.Snap worker ns) s e = by_lift never (with_world s.acl) (snap worker ns s.world) (snapped worker ns s.world)
worker_acts (Step.Submit worker ns) s e = by_lift never (with_world s.acl) (submit worker ns s.world) (submitted worker ns s.world)
worker_acts (Step.Apply worker ns) s e = by_lift never (with_world s.acl) (apply worker ns s.world) (committed worker ns s.world)
worker_acts (Step.Finish worker ns) s e = by_lift never (with_world s.acl) (finish worker ns s.world) (ended worker ns s.world)
worker_acts (Step.Nack worker ns) s e = by_lift never (with_world s.acl) (nack worker ns s.world) (nacked worker ns s.world)

more : (o : Outcome State) → only never o ≡ true → only later o ≡ true
more NotEnabled e = refl
more (Refused refusal) e = not_both e refl
more (Done content s) e = refl

acts : (step : Step) (s : State) → only later (act step s) ≡ true
unfolding act ask ask_pool
acts (Step.Ask ns secret command) s = by_lift later (with_world s.acl) (ask ns command s.world)
    (by_found (get s.world.tenants ns) (asked_in ns command s.world) (λ t. asked ns command s.world t))
acts (Step.Admin secret command) s = administered secret command s
acts (Step.Node pool secret command) s = by_lift later (with_world s.acl) (ask_pool pool command s.world)
    (by_found (get s.world.pools pool) (asked_in_pool pool command s.world) (λ p. pool_asked pool command s.world p))
acts (Step.Dequeue worker ns n) s = more _ (worker_acts (Step.Dequeue worker ns n) s refl)
acts (Step.Snap worker ns) s = more _ (worker_acts (Step.Snap worker ns) s refl)
acts (Step.Submit worker ns) s = more _ (worker_acts (Step.Submit worker ns) s refl)
acts (Step.Apply worker ns) s = more _ (worker_acts (Step.Apply worker ns) s refl)
acts (Step.Finish worker ns) s = more _ (worker_acts (Step.Finish worker ns) s refl)
acts (Step.Nack worker ns) s = more _ (worker_acts (Step.Nack worker ns) s refl)

refusal_in : Answer → Refusal
refusal_in (Ok reply) = Refusal.Memory
refusal_in (Err refusal) = refusal

pub same_refusal : (a b : Refusal) (s t : State) → said (Err a) s ≡ said (Err b) t → a ≡ b
unfolding refusal_in
same_refusal a b s t e = ap refusal_in (same_answer (Err a) (Err b) s t e)

-- the refusal is one of the outcome's, or a counter would pass its bound
concluded_so : (passes : Refusal → Bool) (step : Step) (s t : State) (o : Outcome State) (refusal : Refusal) → passes Refusal.Full ≡ true → only passes o ≡ true
    → concluded step s o ≡ said (Err refusal) t → passes refusal ≡ true
concluded_so passes step s t NotEnabled refusal full e f = not_said (Err refusal) t f
concluded_so passes step s t (Refused r) refusal full e f = ap passes (sym (same_refusal r refusal s t f)) ∙ e
concluded_so passes step s t (Done content s') refusal full e f = by (is_past_bound (settled s s').world) f
  where
    by : (b : Bool) → cond b (said (Err Refusal.Full) s) (said (Ok (reply_of step content (settled s s').world)) (settled s s')) ≡ said (Err refusal) t →
        passes refusal ≡ true
    by true f = ap passes (sym (same_refusal Refusal.Full refusal s t f)) ∙ full
    by false f = not_refused (reply_of step content (settled s s').world) refusal (same_answer _ _ (settled s s') t f)

pub after_allowed : (step : Step) (s : State) → is_allowed step s.acl ≡ true → after step s ≡ concluded step s (act step s)
unfolding after
after_allowed step s e = ap (λ b. cond b (concluded step s (act step s)) (said (Err Refusal.Denied) s)) e

pub denied_without_right : law.DeniedWithoutRight
denied_without_right step s = ((λ e. by (is_allowed step s.acl) refl e), denied_without step s)
  where
    by : (b : Bool) → is_allowed step s.acl ≡ b → after step s ≡ said (Err Refusal.Denied) s → is_allowed step s.acl ≡ false
    by true is e = not_both (concluded_so later step s s (act step s) Refusal.Denied refl (acts step s) (sym (after_allowed step s is) ∙ e)) refl
    by false is e = is

pub denied_alike : law.DeniedAlike
denied_alike step s t same e = denied_without step t (ap (is_allowed step) (sym same) ∙ (denied_without_right step s).0 e)

later_of_steps : (refusal : Refusal) → later refusal ≡ true → law.is_of_steps refusal ≡ true
later_of_steps Refusal.NotFound e = refl
later_of_steps Refusal.PoolNotPermitted e = refl
later_of_steps (Refusal.BadField member) e = refl
later_of_steps Refusal.Conflict e = refl
later_of_steps Refusal.InUse e = refl
later_of_steps Refusal.Full e = refl
later_of_steps Refusal.Denied e = refl
later_of_steps Refusal.BadHead e = e
later_of_steps Refusal.BadJson e = e
later_of_steps Refusal.BadMethod e = e
later_of_steps Refusal.NeedLength e = e
later_of_steps Refusal.TooLarge e = e
later_of_steps Refusal.NotServed e = e
later_of_steps Refusal.Memory e = e
later_of_steps Refusal.LogFull e = e
later_of_steps Refusal.NotEnabled e = e
later_of_steps Refusal.Foreign e = e

pub steps_refuse_so : law.StepsRefuseSo
steps_refuse_so step s t refusal e = by (is_allowed step s.acl) refl
  where
    by : (b : Bool) → is_allowed step s.acl ≡ b → law.is_of_steps refusal ≡ true
    by true is = later_of_steps refusal (concluded_so later step s t (act step s) refusal refl (acts step s) (sym (after_allowed step s is) ∙ e))
    by false is = ap law.is_of_steps (sym (same_refusal Refusal.Denied refusal s t (sym (denied_without step s is) ∙ e)))

-- an outcome without refusals is refused only where a counter would pass its bound
concluded_full : (step : Step) (s t : State) (o : Outcome State) (refusal : Refusal) → only never o ≡ true →
    concluded step s o ≡ said (Err refusal) t → (refusal ≡ Refusal.Full) × (law.is_past_after s o ≡ true)
concluded_full step s t NotEnabled refusal e f = not_said (Err refusal) t f
concluded_full step s t (Refused r) refusal e f = not_both e refl
concluded_full step s t (Done content s') refusal e f = by (is_past_bound (settled s s').world) refl f
  where
    by : (b : Bool) → is_past_bound (settled s s').world ≡ b →
        cond b (said (Err Refusal.Full) s) (said (Ok (reply_of step content (settled s s').world)) (settled s s')) ≡ said (Err refusal) t →
        (refusal ≡ Refusal.Full) × (law.is_past_after s (Done content s') ≡ true)
    by true is f = (sym (same_refusal Refusal.Full refusal s t f), is)
    by false is f = not_refused (reply_of step content (settled s s').world) refusal (same_answer _ _ (settled s s') t f)

allowed_worker : (step : Step) (s : State) → law.is_of_worker step ≡ true → is_allowed step s.acl ≡ true
allowed_worker (Step.Ask ns secret command) s e = not_both e refl
allowed_worker (Step.Admin secret command) s e = not_both e refl
allowed_worker (Step.Node pool secret command) s e = not_both e refl
allowed_worker (Step.Dequeue worker ns n) s e = refl
allowed_worker (Step.Snap worker ns) s e = refl
allowed_worker (Step.Submit worker ns) s e = refl
allowed_worker (Step.Apply worker ns) s e = refl
allowed_worker (Step.Finish worker ns) s e = refl
allowed_worker (Step.Nack worker ns) s e = refl

pub workers_are_full_only : law.WorkersAreFullOnly
workers_are_full_only step s t refusal own e =
    concluded_full step s t (act step s) refusal (worker_acts step s own) (sym (after_allowed step s (allowed_worker step s own)) ∙ e)
