-- What replies say, step by step.
use Rattle.std.specs.Prelude.{◌≡◌, ◌+◌, Bool, true, false, not, cond, Option, Some, None, Ok, Err, is_ok, is_some, IsSome, IsSomeAnd}
use Rattle.std.proofs.Common.{refl, sym, ap, subst, ◌∙◌}
use Rattle.std.specs.FinMap.{get}
use Rattle.ns_types.specs.declared.allocation.Allocation.{Allocation}
use Rattle.ns_types.specs.declared.refusal.Refusal.{Refusal}
use Rattle.ns_types.specs.declared.reply.Content.{Content}
use Rattle.ns_types.specs.declared.reply.Reply.{Reply}
use Rattle.ns_types.specs.declared.step.AdminCommand.{AdminCommand}
use Rattle.ns_types.specs.declared.step.AskCommand.{AskCommand}
use Rattle.ns_types.specs.declared.step.NodeCommand.{NodeCommand}
use Rattle.ns_types.specs.declared.step.Report.{Report}
use Rattle.ns_types.specs.declared.step.Step.{Step}
use Rattle.ns_types.specs.Asking.Policies.{administer, create_token, delete_policy, delete_token, put_policy, read_policy, secret_of, with_acl, with_world}
use Rattle.ns_types.specs.Asking.Admins.{delete_namespace, delete_pool, delete_quota, put_namespace, put_pool_record, put_quota, read_quota}
use Rattle.ns_types.specs.Asking.Asks.{ask, asked_in, deregister_job, document_of, first_refusal, registered_job, registered_with}
use Rattle.ns_types.specs.State.Names.{Name}
use Rattle.ns_types.specs.Asking.Nodes.{ask_pool, asked_in_pool, may_become, report_of, reported, same_client}
use Rattle.ns_types.specs.Settling.Outcome.{Outcome, NotEnabled, Refused, Done, found, lift, refused_by, unless}
use Rattle.ns_types.specs.State.Rows.{PoolRows, State, Tenant, World, allocation_at}
use Rattle.ns_types.specs.Settling.Settle.{settle}
use Rattle.ns_types.specs.Steps.{Answer, act, after, concluded, is_allowed, is_past_bound, reply_of, said}
use Rattle.ns_types.specs.State.Sums.{names_quota, quota_use}
use Rattle.ns_types.proofs.Lists.{not_both}
use Rattle.ns_steps.specs.Served.{IsServed, IsToldBy, is_reading, only_reads, served_admin, served_ask, served_node}
use Rattle.ns_steps.specs.Told.{Holds, Shape}
use Rattle.ns_types.proofs.Tests.{same_Some}
use Rattle.ns_types.proofs.Settling.{settle_same}

-- a refusal of a step that is enabled: of the state, and not of memory
abbrev is_of_step : Refusal → Bool
is_of_step Refusal.NotEnabled = false
is_of_step Refusal.Memory = false
is_of_step _ = true

abbrev pub told : Reply → Answer → Reply
told other (Ok reply) = reply
told other (Err refusal) = other

-- ---- lines of the table

-- what the reply holds
abbrev IsTold : Option Shape → Content → Type 0
IsTold shape content = IsSomeAnd shape (λ shape. Holds shape content)

-- ---- outcomes, of whatever part

abbrev Tells : {S : Type 0} → (Content → Type 0) → Outcome S → Type 0
Tells P NotEnabled = ⊥
Tells P (Refused refusal) = Unit {0}
Tells P (Done content s) = P content

module _ {S : Type 0} (P : Content → Type 0) where
  tells_unless : (b : Bool) (refusal : Refusal) (rest : Outcome S) → Tells P rest → Tells P (unless b refusal rest)
  unfolding unless
  tells_unless true refusal rest h = tt
  tells_unless false refusal rest h = h

  tells_refused : (x : Option Refusal) (rest : Outcome S) → Tells P rest → Tells P (refused_by x rest)
  tells_refused None rest h = h
  tells_refused (Some refusal) rest h = tt

  tells_found : {A : Type 0} (o : Option A) (f : A → Outcome S) → ((a : A) → Tells P (f a)) → Tells P (found o f)
  tells_found None f h = tt
  tells_found (Some a) f h = h a

  tells_lift : {B : Type 0} (whole : S → B) (o : Outcome S) → Tells P o → Tells P (lift whole o)
  tells_lift whole NotEnabled h = h
  tells_lift whole (Refused refusal) h = tt
  tells_lift whole (Done content s) h = h

tells_concluded : (P : Content → Type 0) (step : Step) (s : State) (o : Outcome State) (reply : Reply) (s' : State) → Tells P o →
    concluded step s o ≡ said (Ok reply) s' → P reply.content
tells_concluded P step s NotEnabled reply s' h e = absurd h
tells_concluded P step s (Refused refusal) reply s' h e = not_both refl (ap (λ x. is_ok x.0) (sym (same_Some _ _ e)))
tells_concluded P step s (Done content x) reply s' h e = by (is_past_bound (settle s.world x.world)) e
  where
    by : (b : Bool) → cond b (said (Err Refusal.Full) s)
        (said (Ok (reply_of step content (settle s.world x.world))) (record x { world = settle s.world x.world })) ≡ said (Ok reply) s' → P reply.content
    by true e = not_both refl (ap (λ x. is_ok x.0) (sym (same_Some _ _ e)))
    by false e = subst P (ap (λ x. (told reply x.0).content) (same_Some _ _ e)) h

-- ---- administrators

told_of : (secret : Option Name) (command : AdminCommand) (s : State) → Tells (IsTold (served_admin command)) (administer secret command s)
unfolding administer put_namespace delete_namespace put_quota delete_quota put_pool_record delete_pool
told_of secret AdminCommand.ListNamespaces s = tt
told_of secret (AdminCommand.PutNamespace name namespace) s = tells_lift _ (with_world s.acl) (put_namespace name namespace s.world)
    (tells_unless _ _ _ _ (tells_unless _ _ _ _ (tells_unless _ _ _ _ (tells_unless _ _ _ _ (tells_unless _ _ _ _ tt)))))
told_of secret (AdminCommand.DeleteNamespace name) s = tells_lift _ (with_world s.acl) (delete_namespace name s.world)
    (tells_found _ (get s.world.tenants name) _ (λ t. tells_unless _ _ _ _ (tells_unless _ _ _ _ tt)))
told_of secret AdminCommand.ListQuotas s = tt
told_of secret (AdminCommand.ReadQuota name) s = tells_lift _ (with_world s.acl) (read_quota name s.world) (tells_found _ (get s.world.quotas name) _ (λ q. tt))
told_of secret (AdminCommand.PutQuota name quota) s = tells_lift _ (with_world s.acl) (put_quota name quota s.world) (tells_unless _ _ _ _ tt)
told_of secret (AdminCommand.DeleteQuota name) s =
    tells_lift _ (with_world s.acl) (delete_quota name s.world) (tells_found _ (get s.world.quotas name) _ (λ q. tells_unless _ _ _ _ tt))
told_of secret AdminCommand.ListPools s = tt
told_of secret (AdminCommand.PutPool name pool) s = tells_lift _ (with_world s.acl) (put_pool_record name pool s.world) (tells_unless _ _ _ _ tt)
told_of secret (AdminCommand.DeletePool name) s = tells_lift _ (with_world s.acl) (delete_pool name s.world)
    (tells_found _ (get s.world.pools name) _ (λ p. tells_unless _ _ _ _ (tells_unless _ _ _ _ tt)))
told_of secret (AdminCommand.ReadPolicy name) s =
    tells_lift _ (with_acl s.world) (read_policy name s.acl) (tells_found _ (get s.acl.policies name) _ (λ policy. tt))
told_of secret (AdminCommand.PutPolicy name policy) s = tells_lift _ (with_acl s.world) (put_policy name policy s.acl) (tells_unless _ _ _ _ tt)
told_of secret (AdminCommand.DeletePolicy name) s =
    tells_lift _ (with_acl s.world) (delete_policy name s.acl) (tells_found _ (get s.acl.policies name) _ (λ policy. tt))
told_of secret (AdminCommand.CreateToken new) s = tells_lift _ (with_acl s.world) (create_token new s.acl) (tells_unless _ _ _ _ (tells_unless _ _ _ _ refl))
told_of secret (AdminCommand.DeleteToken accessor) s =
    tells_lift _ (with_acl s.world) (delete_token accessor s.acl) (tells_found _ (secret_of s.acl accessor) _ (λ token. tells_unless _ _ _ _ tt))

-- ---- what is asked in a namespace

-- all of it is served
pub is_served_ask : (command : AskCommand) → IsSome (served_ask command)
is_served_ask (AskCommand.Register r) = refl
is_served_ask (AskCommand.ReadJob id) = refl
is_served_ask (AskCommand.Deregister id purge) = refl
is_served_ask (AskCommand.ListJobs prefix) = refl
is_served_ask (AskCommand.JobAllocations id) = refl
is_served_ask (AskCommand.JobEvaluations id) = refl
is_served_ask (AskCommand.ListEvaluations prefix) = refl
is_served_ask (AskCommand.ReadEvaluation n) = refl
is_served_ask (AskCommand.ListAllocations prefix) = refl
is_served_ask (AskCommand.ReadAllocation n) = refl
is_served_ask (AskCommand.StopAllocation n) = refl
is_served_ask AskCommand.ReadNamespace = refl
is_served_ask (AskCommand.QuotaUsage quota) = refl
is_served_ask (AskCommand.Events index) = refl

told_in : (ns : Name) (command : AskCommand) (w : World) (t : Tenant) → Tells (IsTold (served_ask command)) (asked_in ns command w t)
told_in ns (AskCommand.Register r) w t =
    tells_refused _ (first_refusal w t r) (registered_with ns r w t (registered_job (t.index + 1) (document_of t r) (get t.jobs r.id))) tt
told_in ns (AskCommand.ReadJob id) w t = tells_found _ (get t.jobs id) _ (λ job. tt)
told_in ns (AskCommand.Deregister id purge) w t = tells_found _ (get t.jobs id) (deregister_job ns id purge w t) (λ job. tt)
told_in ns (AskCommand.JobAllocations id) w t = tt
told_in ns (AskCommand.JobEvaluations id) w t = tt
told_in ns (AskCommand.ListEvaluations prefix) w t = tt
told_in ns (AskCommand.ReadEvaluation n) w t = tells_found _ (get t.evaluations n) _ (λ e. tt)
told_in ns (AskCommand.ListAllocations prefix) w t = tt
told_in ns (AskCommand.ReadAllocation n) w t = tells_found _ (get t.allocations n) _ (λ a. tt)
told_in ns (AskCommand.StopAllocation n) w t = tells_found _ (get t.allocations n) _ (λ a. tells_unless _ _ _ _ tt)
told_in ns (AskCommand.ListJobs prefix) w t = tt
told_in ns AskCommand.ReadNamespace w t = tt
told_in ns (AskCommand.QuotaUsage quota) w t = by (names_quota quota t.namespace)
  where
    by : (b : Bool) → Tells (IsTold (Some Shape.Usage)) (cond b (Done (Content.Usage quota (quota_use w quota)) w) (Refused Refusal.NotFound))
    by true = tt
    by false = tt
told_in ns (AskCommand.Events index) w t = tt

told_ask : (ns : Name) (command : AskCommand) (w : World) → Tells (IsTold (served_ask command)) (ask ns command w)
unfolding ask
told_ask ns command w = tells_found _ (get w.tenants ns) (asked_in ns command w) (λ t. told_in ns command w t)

-- ---- what is told of a pool

-- all of it is served
pub is_served_node : (command : NodeCommand) → IsSome (served_node command)
is_served_node NodeCommand.ReadPool = refl
is_served_node NodeCommand.ListNodes = refl
is_served_node (NodeCommand.PutNode name offer) = refl
is_served_node (NodeCommand.DeleteNode name) = refl
is_served_node (NodeCommand.SetStatus name status) = refl
is_served_node (NodeCommand.SetEligible name eligible) = refl
is_served_node (NodeCommand.Report name r) = refl

told_of_report : (r : Report) (w : World) (a : Allocation) → Tells (IsTold (Some Shape.Written)) (report_of r w a)
told_of_report r w a = by (same_client a.client r.client)
  where
    changed : Outcome World
    changed = unless (not (may_become a.client r.client)) Refusal.Conflict (Done Content.Written (reported r a w))

    by : (b : Bool) → Tells (IsTold (Some Shape.Written)) (cond b (Done Content.Written w) changed)
    by true = tt
    by false = tells_unless _ _ _ _ tt

told_of_pool : (pool : Name) (command : NodeCommand) (w : World) (p : PoolRows) → Tells (IsTold (served_node command)) (asked_in_pool pool command w p)
told_of_pool pool NodeCommand.ReadPool w p = tt
told_of_pool pool NodeCommand.ListNodes w p = tt
told_of_pool pool (NodeCommand.PutNode name offer) w p = tells_unless _ _ _ _ (tells_unless _ _ _ _ tt)
told_of_pool pool (NodeCommand.DeleteNode name) w p = tells_found _ (get p.nodes name) _ (λ node. tells_unless _ _ _ _ tt)
told_of_pool pool (NodeCommand.SetStatus name status) w p = tells_found _ (get p.nodes name) _ (λ node. tt)
told_of_pool pool (NodeCommand.SetEligible name eligible) w p = tells_found _ (get p.nodes name) _ (λ node. tt)
told_of_pool pool (NodeCommand.Report name r) w p = tells_found _ (get p.nodes name) _ (λ node.
    tells_found _ (allocation_at w (r.namespace, r.number)) _ (λ a. tells_unless _ _ _ _ (told_of_report r w a)))

told_node : (pool : Name) (command : NodeCommand) (w : World) → Tells (IsTold (served_node command)) (ask_pool pool command w)
unfolding ask_pool
told_node pool command w = tells_found _ (get w.pools pool) (asked_in_pool pool command w) (λ p. told_of_pool pool command w p)

-- ---- every step that is served

told_by : (step : Step) (s : State) → IsServed step → Tells (IsToldBy step) (act step s)
unfolding act
told_by (Step.Ask ns secret command) s served = tells_lift _ (with_world s.acl) (ask ns command s.world) (told_ask ns command s.world)
told_by (Step.Admin secret command) s served = told_of secret command s
told_by (Step.Node pool secret command) s served = tells_lift _ (with_world s.acl) (ask_pool pool command s.world) (told_node pool command s.world)
told_by _ s served = not_both served refl

decided_concluded : (P : Content → Type 0) (step : Step) (s : State) (o : Outcome State) → Tells P o → concluded step s o ≡ None → ⊥
decided_concluded P step s NotEnabled h e = h
decided_concluded P step s (Refused refusal) h e = not_both refl (ap is_some e)
decided_concluded P step s (Done content x) h e = by (is_past_bound (settle s.world x.world)) e
  where
    by : (b : Bool) → cond b (said (Err Refusal.Full) s)
        (said (Ok (reply_of step content (settle s.world x.world))) (record x { world = settle s.world x.world })) ≡ None → ⊥
    by true e = not_both refl (ap is_some e)
    by false e = not_both refl (ap is_some e)

-- its reply says what it should
pub served_tells : (step : Step) (s s' : State) (reply : Reply) → IsServed step → after step s ≡ said (Ok reply) s' → IsToldBy step reply.content
unfolding after
served_tells step s s' reply served e = by (is_allowed step s.acl) e
  where
    by : (b : Bool) → cond b (concluded step s (act step s)) (said (Err Refusal.Denied) s) ≡ said (Ok reply) s' → IsToldBy step reply.content
    by true e = tells_concluded (IsToldBy step) step s (act step s) reply s' (told_by step s served) e
    by false e = not_both refl (ap (λ x. is_ok x.0) (sym (same_Some _ _ e)))

-- it is never out of turn
pub served_decides : (step : Step) (s : State) → IsServed step → after step s ≡ None → ⊥
unfolding after
served_decides step s served e = by (is_allowed step s.acl) e
  where
    by : (b : Bool) → cond b (concluded step s (act step s)) (said (Err Refusal.Denied) s) ≡ None → ⊥
    by true e = decided_concluded (IsToldBy step) step s (act step s) (told_by step s served) e
    by false e = not_both refl (ap is_some e)

-- ---- reads

abbrev pub Rests : {S : Type 0} → S → Outcome S → Type 0
Rests s NotEnabled = Unit {0}
Rests s (Refused refusal) = is_of_step refusal ≡ true
Rests s (Done content s') = s' ≡ s

rests_found : {S A : Type 0} (s : S) (o : Option A) (f : A → Outcome S) → ((a : A) → Rests s (f a)) → Rests s (found o f)
rests_found s None f h = refl
rests_found s (Some a) f h = h a

rests_lift : {A B : Type 0} (whole : A → B) (a : A) (o : Outcome A) → Rests a o → Rests (whole a) (lift whole o)
rests_lift whole a NotEnabled h = tt
rests_lift whole a (Refused refusal) h = h
rests_lift whole a (Done content x) h = ap whole h

rests_in : (ns : Name) (command : AskCommand) (w : World) (t : Tenant) → only_reads (served_ask command) ≡ true →
    Rests w (asked_in ns command w t)
rests_in ns (AskCommand.ReadJob id) w t only = rests_found w (get t.jobs id) _ (λ job. refl)
rests_in ns (AskCommand.ListJobs prefix) w t only = refl
rests_in ns (AskCommand.JobAllocations id) w t only = refl
rests_in ns (AskCommand.JobEvaluations id) w t only = refl
rests_in ns (AskCommand.ListEvaluations prefix) w t only = refl
rests_in ns (AskCommand.ReadEvaluation n) w t only = rests_found w (get t.evaluations n) _ (λ e. refl)
rests_in ns (AskCommand.ListAllocations prefix) w t only = refl
rests_in ns (AskCommand.ReadAllocation n) w t only = rests_found w (get t.allocations n) _ (λ a. refl)
rests_in ns AskCommand.ReadNamespace w t only = refl
rests_in ns (AskCommand.QuotaUsage quota) w t only = by (names_quota quota t.namespace)
  where
    by : (b : Bool) → Rests w (cond b (Done (Content.Usage quota (quota_use w quota)) w) (Refused Refusal.NotFound))
    by true = refl
    by false = refl
rests_in ns (AskCommand.Register r) w t only = not_both only refl
rests_in ns (AskCommand.Deregister id purge) w t only = not_both only refl
rests_in ns (AskCommand.StopAllocation n) w t only = not_both only refl
rests_in ns (AskCommand.Events index) w t only = refl

rests_ask : (ns : Name) (command : AskCommand) (w : World) → only_reads (served_ask command) ≡ true → Rests w (ask ns command w)
unfolding ask
rests_ask ns command w only = rests_found w (get w.tenants ns) (asked_in ns command w) (λ t. rests_in ns command w t only)

rests_records : (secret : Option Name) (command : AdminCommand) (s : State) → only_reads (served_admin command) ≡ true → Rests s (administer secret command s)
unfolding administer
rests_records secret AdminCommand.ListNamespaces s only = refl
rests_records secret AdminCommand.ListQuotas s only = refl
rests_records secret (AdminCommand.ReadQuota name) s only =
    rests_lift (with_world s.acl) s.world (read_quota name s.world) (rests_found s.world (get s.world.quotas name) _ (λ q. refl))
rests_records secret AdminCommand.ListPools s only = refl
rests_records secret (AdminCommand.ReadPolicy name) s only =
    rests_lift (with_acl s.world) s.acl (read_policy name s.acl) (rests_found s.acl (get s.acl.policies name) _ (λ policy. refl))
rests_records secret _ s only = not_both only refl

rests_of_pool : (pool : Name) (command : NodeCommand) (w : World) (p : PoolRows) → only_reads (served_node command) ≡ true →
    Rests w (asked_in_pool pool command w p)
rests_of_pool pool NodeCommand.ReadPool w p only = refl
rests_of_pool pool NodeCommand.ListNodes w p only = refl
rests_of_pool pool _ w p only = not_both only refl

rests_node : (pool : Name) (command : NodeCommand) (w : World) → only_reads (served_node command) ≡ true →
    Rests w (ask_pool pool command w)
unfolding ask_pool
rests_node pool command w only = rests_found w (get w.pools pool) (asked_in_pool pool command w) (λ p. rests_of_pool pool command w p only)

pub rests_by : (step : Step) (s : State) → IsServed step → is_reading step ≡ true → Rests s (act step s)
unfolding act
rests_by (Step.Ask ns secret command) s served only = rests_lift (with_world s.acl) s.world (ask ns command s.world) (rests_ask ns command s.world only)
rests_by (Step.Admin secret command) s served only = rests_records secret command s only
rests_by (Step.Node pool secret command) s served only =
    rests_lift (with_world s.acl) s.world (ask_pool pool command s.world) (rests_node pool command s.world only)
rests_by _ s served only = not_both served refl

rests_concluded : (step : Step) (s : State) (o : Outcome State) (answer : Answer) (s' : State) → Rests s o → concluded step s o ≡ said answer s' → s' ≡ s
rests_concluded step s NotEnabled answer s' h e = not_both refl (sym (ap is_some e))
rests_concluded step s (Refused refusal) answer s' h e = sym (ap (λ x. x.1) (same_Some _ _ e))
rests_concluded step s (Done content x) answer s' h e = by (is_past_bound (settle s.world x.world)) e
  where
    same : record x { world = settle s.world x.world } ≡ s
    same = (λ i. record (h i) { world = settle s.world (h i).world }) ∙ (λ i. record s { world = settle_same s.world i })

    by : (b : Bool) → cond b (said (Err Refusal.Full) s)
        (said (Ok (reply_of step content (settle s.world x.world))) (record x { world = settle s.world x.world })) ≡ said answer s' → s' ≡ s
    by true e = sym (ap (λ x. x.1) (same_Some _ _ e))
    by false e = sym (ap (λ x. x.1) (same_Some _ _ e)) ∙ same

-- a read leaves the state as it is, whatever it answers
pub reading_rests : (step : Step) (s s' : State) (answer : Answer) → IsServed step → is_reading step ≡ true → after step s ≡ said answer s' → s' ≡ s
unfolding after
reading_rests step s s' answer served only e = by (is_allowed step s.acl) e
  where
    by : (b : Bool) → cond b (concluded step s (act step s)) (said (Err Refusal.Denied) s) ≡ said answer s' → s' ≡ s
    by true e = rests_concluded step s (act step s) answer s' (rests_by step s served only) e
    by false e = sym (ap (λ x. x.1) (same_Some _ _ e))
