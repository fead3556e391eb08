-- What is asked in a namespace stays inside it.
use Rattle.std.specs.Prelude.{◌≡◌, ◌≢◌, ℕ, ◌+◌, Bool, true, false, cond, not, List, [], ◌∷◌, Option, Some, None, Ok, Err, option_map, map, ◌++◌, fold}
use Rattle.std.proofs.Common.{refl, sym, ap, subst, ◌∙◌, ◌⊎◌, inl, inr}
use Rattle.std.specs.FinMap.{get}
use Rattle.ns_types.specs.declared.allocation.Allocation.{Allocation}
use Rattle.ns_types.specs.declared.allocation.DesiredStatus.{DesiredStatus}
use Rattle.ns_types.specs.declared.evaluation.Evaluation.{Evaluation}
use Rattle.ns_types.specs.declared.evaluation.Status.TheVariants as Status
use Rattle.ns_types.specs.declared.evaluation.Trigger.TheVariants as Trigger
use Rattle.ns_types.specs.declared.event.Event.{Event}
use Rattle.ns_types.specs.declared.event.Topic.{Topic}
use Rattle.ns_types.specs.declared.job.Job.{Job}
use Rattle.ns_types.specs.declared.job.Registration.{Registration}
use Rattle.ns_types.specs.declared.node.Class.{Class}
use Rattle.ns_types.specs.declared.node.Node.{Node}
use Rattle.ns_types.specs.declared.records.Pool.{Pool}
use Rattle.ns_types.specs.declared.records.Quota.{Quota}
use Rattle.ns_types.specs.declared.refusal.Refusal.{Refusal}
use Rattle.ns_types.specs.declared.reply.Content.{Content}
use Rattle.ns_types.specs.declared.step.AdminCommand.{AdminCommand}
use Rattle.ns_types.specs.declared.step.AskCommand.{AskCommand}
use Rattle.ns_audit.specs.Laws.{is_admin}
use Rattle.std.proofs.lemmas.List.{append_assoc, append-nil}
use Rattle.std.specs.Option.{option_map_or}
use Rattle.ns_types.proofs.Lists.{each_map}
use Rattle.ns_types.proofs.Once.{each_member}
use Rattle.ns_types.specs.Working.Queue.{queue, is_busy}
use Rattle.ns_laws.proofs.Elements.{filter_in_order}
use Rattle.ns_laws.specs.Sublist.{IsSublist, both_end, taken}
use Rattle.ns_types.specs.declared.step.Step.{Step}
use Rattle.ns_types.specs.Asking.Asks.{first_refusal, document_of, registered_job, register, deregistered, deregister_job, asked_in, ask}
use Rattle.ns_types.specs.Asking.Policies.{with_world}
use Rattle.ns_types.specs.Settling.Making.{put_tenant, with_job, with_desired, with_evaluation, evaluation_of, evaluation_for, make_in}
use Rattle.ns_types.specs.Settling.Outcome.{Outcome, NotEnabled, Refused, Done}
use Rattle.ns_types.specs.Settling.Releases.{woken}
use Rattle.ns_types.specs.Settling.Settle.{settle, stamp, number_releases, wake, unblocked_in, woken_row, pending, is_touched, stamped, stamp_tenant}
use Rattle.ns_types.specs.Settling.Settle.{stamped_evaluation, stamped_allocation, changes_evaluation, created_at, after_release, events_of, topics_of}
use Rattle.ns_types.specs.State.Lists.{Each}
use Rattle.ns_types.specs.State.Names.{Name, ByName, Key, same_name, has_key}
use Rattle.ns_types.specs.State.Rows.{State, World, Tenant, PoolRows, QuotaRows, is_live, evaluation_at}
use Rattle.ns_types.specs.State.Sums.{names_quota, quota_use}
use Rattle.ns_types.specs.Steps.{Answer, said, act, after, is_allowed, concluded, reply_of, settled, is_past_bound}
use Rattle.ns_types.proofs.Leads.{Leads, leads_unless, leads_refused, leads_found, leads_if, leads_lift}
use Rattle.ns_types.proofs.Named.{names, one_name, numbers, one_number, first_of_both}
use Rattle.ns_types.proofs.Queue.{queue_keeps, queues_keep}
use Rattle.ns_types.proofs.Settling.{kept_evaluation, kept_allocation}
use Rattle.ns_types.proofs.TableRows.{get_put, get_other}
use Rattle.ns_types.proofs.Tables.{get-map_rows, map_rows_idle}
use Rattle.ns_types.proofs.Tests.{not_Some, same_Some}
use Rattle.ns_audit.proofs.Alone.Records.{plain_keeps}
use Rattle.ns_laws.proofs.Effect.Rows.{same_limits, settled_pool, settled_quota}
use Rattle.ns_laws.proofs.Scope.Sharing.{other_name}
use Rattle.ns_laws.proofs.Wakes.Queue.{woken_are_called}
use Rattle.ns_audit.proofs.StepLemmas.{same_answer, same_state, not_said, not_refused}
use Rattle.ns_laws.specs.Reach as law

-- ---- what a step leads to

-- the step changes something, and this is its own change and the content of the reply
record Led (s s' : State) (step : Step) (answer : Answer) : Type 0 where
  content : Content
  own : State
  acts : act step s ≡ Done content own
  is : settled s own ≡ s'
  replies : Ok (reply_of step content (settled s own).world) ≡ answer

abbrev IsRefused : State → State → Answer → Type 0
IsRefused s s' answer = (s ≡ s') × (refusal : Refusal) × (Err refusal ≡ answer)

module _ (s s' : State) (step : Step) (answer : Answer) where
  led_by : (o : Outcome State) → act step s ≡ o → concluded step s o ≡ said answer s' → IsRefused s s' answer ⊎ Led s s' step answer
  led_by NotEnabled acts e = not_said answer s' e
  led_by (Refused refusal) acts e = inl (same_state _ _ s s' e, refusal, same_answer _ _ s s' e)
  led_by (Done content own) acts e = by (is_past_bound (settled s own).world) e
    where
      by : (b : Bool) → cond b (said (Err Refusal.Full) s) (said (Ok (reply_of step content (settled s own).world)) (settled s own)) ≡ said answer s' →
          IsRefused s s' answer ⊎ Led s s' step answer
      by true e = inl (same_state _ _ s s' e, Refusal.Full, same_answer _ _ s s' e)
      by false e = inr (record {
        content = content;
        own = own;
        acts = acts;
        is = same_state _ _ (settled s own) s' e;
        replies = same_answer _ _ (settled s own) s' e;
      })

  led : after step s ≡ said answer s' → IsRefused s s' answer ⊎ Led s s' step answer
  unfolding after
  led e = by (is_allowed step s.acl) e
    where
      by : (b : Bool) → cond b (concluded step s (act step s)) (said (Err Refusal.Denied) s) ≡ said answer s' → IsRefused s s' answer ⊎ Led s s' step answer
      by true e = led_by (act step s) refl e
      by false e = inl (same_state _ _ s s' e, Refusal.Denied, same_answer _ _ s s' e)

-- ---- what is asked, before it settles

each_joined : {X : Type 0} (P : X → Type 0) (xs ys : List X) → Each P xs → Each P ys → Each P (xs ++ ys)
each_joined P [] ys h k = k
each_joined P (x ∷ xs) ys h k = (h.0, each_joined P xs ys h.1 k)

module _ (P : Key → Type 0) where
  -- keys that are so follow the others
  record Joined (old new : List Key) : Type 0 where
    joined : List Key
    is : new ≡ old ++ joined
    joins : Each P joined

  joins_none : (keys : List Key) → Joined keys keys
  joins_none keys = record { joined = []; is = sym (append-nil keys); joins = tt }

  joins_then : (a b c : List Key) → Joined a b → Joined b c → Joined a c
  joins_then a b c p q = record {
    joined = p.joined ++ q.joined;
    is = q.is ∙ ap (λ k. k ++ q.joined) p.is ∙ append_assoc a p.joined q.joined;
    joins = each_joined P p.joined q.joined p.joins q.joins;
  }

  queue_joins : (w : World) (key : Key) → P key → Joined w.ready (queue w key).ready
  unfolding queue
  queue_joins w key so = by (evaluation_at w key)
    where
      or : (b : Bool) → Joined w.ready (cond b w (record w { ready = w.ready ++ key ∷ [] })).ready
      or true = joins_none w.ready
      or false = record { joined = key ∷ []; is = refl; joins = (so, tt) }

      by : (o : Option Evaluation) →
          Joined w.ready (option_map_or (λ e. cond (is_busy w key.0 e.job) w (record w { ready = w.ready ++ key ∷ [] })) o w).ready
      by None = joins_none w.ready
      by (Some e) = or (is_busy w key.0 e.job)

  queues_join : (keys : List Key) (w : World) → Each P keys → Joined w.ready (fold queue w keys).ready
  queues_join [] w h = joins_none w.ready
  queues_join (key ∷ keys) w h =
      joins_then w.ready (queue w key).ready (fold queue (queue w key) keys).ready (queue_joins w key h.0) (queues_join keys (queue w key) h.1)

-- the key is the namespace's, or it is a blocked one
abbrev MayJoin : Name → World → Key → Type 0
MayJoin ns w key = (key.0 ≡ ns) ⊎ (has_key w.blocked key ≡ true)

-- only the row of the namespace is another
record StaysIn (ns : Name) (w x : World) : Type 0 where
  there : (t : Tenant) × (get x.tenants ns ≡ Some t)
  elsewhere : (k : Name) → same_name k ns ≡ false → get x.tenants k ≡ get w.tenants k
  pools : x.pools ≡ w.pools
  quotas : x.quotas ≡ w.quotas
  plans : x.plans ≡ w.plans
  blocked : x.blocked ≡ w.blocked
  ready : Joined (MayJoin ns w) w.ready x.ready

module _ (w : World) (ns : Name) (t : Tenant) (is : get w.tenants ns ≡ Some t) where
  still : StaysIn ns w w
  still = record {
    there = (t, is);
    elsewhere = λ k differs. refl;
    pools = refl;
    quotas = refl;
    plans = refl;
    blocked = refl;
    ready = joins_none (MayJoin ns w) w.ready;
  }

  made : (e : Evaluation) (u : Tenant) → StaysIn ns w (make_in ns e w u)
  made e u = record {
    there = (with_evaluation e u, ap (λ m. get m ns) tenants ∙ get_put names one_name w.tenants ns (with_evaluation e u));
    elsewhere = λ k differs. ap (λ m. get m k) tenants ∙ get_other names one_name w.tenants ns (with_evaluation e u) k differs;
    pools = queue_keeps (λ y. y.pools) (λ y keys. refl) (put_tenant ns (with_evaluation e u) w) (ns, u.evaluation_number + 1);
    quotas = queue_keeps (λ y. y.quotas) (λ y keys. refl) (put_tenant ns (with_evaluation e u) w) (ns, u.evaluation_number + 1);
    plans = queue_keeps (λ y. y.plans) (λ y keys. refl) (put_tenant ns (with_evaluation e u) w) (ns, u.evaluation_number + 1);
    blocked = queue_keeps (λ y. y.blocked) (λ y keys. refl) (put_tenant ns (with_evaluation e u) w) (ns, u.evaluation_number + 1);
    ready = queue_joins (MayJoin ns w) (put_tenant ns (with_evaluation e u) w) (ns, u.evaluation_number + 1) (inl refl);
  }
    where
      tenants : (make_in ns e w u).tenants ≡ (put_tenant ns (with_evaluation e u) w).tenants
      tenants = queue_keeps (λ y. y.tenants) (λ y keys. refl) (put_tenant ns (with_evaluation e u) w) (ns, u.evaluation_number + 1)

  registered : (r : Registration) → Leads (StaysIn ns w) (register ns r w t)
  registered r = leads_refused (StaysIn ns w) (first_refusal w t r) _ (λ _. by (registered_job (t.index + 1) (document_of t r) (get t.jobs r.id)))
    where
      by : (job : Job) → StaysIn ns w (make_in ns (evaluation_of r.id job.document Trigger.JobRegister) w (with_job r.id job t))
      by job = made (evaluation_of r.id job.document Trigger.JobRegister) (with_job r.id job t)

  asked : (command : AskCommand) → Leads (StaysIn ns w) (asked_in ns command w t)
  asked (AskCommand.ListJobs prefix) = still
  asked (AskCommand.Register r) = registered r
  asked (AskCommand.ReadJob id) = leads_found (StaysIn ns w) (get t.jobs id) _ (λ job _. still)
  asked (AskCommand.Deregister id purge) = leads_found (StaysIn ns w) (get t.jobs id) (deregister_job ns id purge w t) (λ job at.
      made (evaluation_of id job.document Trigger.JobDeregister) (deregistered purge id job t))
  asked (AskCommand.JobAllocations id) = still
  asked (AskCommand.JobEvaluations id) = still
  asked (AskCommand.ListEvaluations prefix) = still
  asked (AskCommand.ReadEvaluation n) = leads_found (StaysIn ns w) (get t.evaluations n) _ (λ e _. still)
  asked (AskCommand.ListAllocations prefix) = still
  asked (AskCommand.ReadAllocation n) = leads_found (StaysIn ns w) (get t.allocations n) _ (λ a _. still)
  asked (AskCommand.StopAllocation n) = leads_found (StaysIn ns w) (get t.allocations n) _
      (λ a _. leads_unless (StaysIn ns w) (not (is_live a)) Refusal.Conflict _ (λ _.
      made (evaluation_for t a Trigger.AllocStop) (with_desired n DesiredStatus.Stop t)))
  asked AskCommand.ReadNamespace = still
  asked (AskCommand.QuotaUsage quota) = leads_if (StaysIn ns w) (names_quota quota t.namespace) (Done (Content.Usage quota (quota_use w quota)) w)
      (Refused Refusal.NotFound) (λ _. still) (λ _. tt)
  asked (AskCommand.Events index) = still

ask_stays : (w : World) (ns : Name) (command : AskCommand) → Leads (StaysIn ns w) (ask ns command w)
unfolding ask
ask_stays w ns command = leads_found (StaysIn ns w) (get w.tenants ns) (asked_in ns command w) (λ t is. asked w ns t is command)

act_stays : (s : State) (ns : Name) (secret : Option Name) (command : AskCommand) →
    Leads (λ (y : State). StaysIn ns s.world y.world) (act (Step.Ask ns secret command) s)
unfolding act
act_stays s ns secret command = leads_lift (λ (y : State). StaysIn ns s.world y.world) (with_world s.acl) (StaysIn ns s.world) (λ w h. h)
    (ask ns command s.world) (ask_stays s.world ns command)

own_stays : (s s' : State) (ns : Name) (secret : Option Name) (command : AskCommand) (answer : Answer) (l : Led s s' (Step.Ask ns secret command) answer) →
    StaysIn ns s.world l.own.world
own_stays s s' ns secret command answer l = subst (Leads (λ (y : State). StaysIn ns s.world y.world)) l.acts (act_stays s ns secret command)

-- ---- what it settles to

module _ (w x : World) where
  abbrev row_settled : Name → Tenant → Tenant
  row_settled k t = stamp_tenant (get w.tenants k) (unblocked_in (woken w x) k t)

  get_settled : (k : Name) → get (settle w x).tenants k ≡ option_map (row_settled k) (get x.tenants k)
  unfolding settle stamp number_releases wake
  get_settled k = get-map_rows names one_name (λ ns t. stamp_tenant (get w.tenants ns) t) _ k
      ∙ ap (λ m. option_map (stamp_tenant (get w.tenants k)) (get m k)) (queues_keep (λ y. y.tenants) (λ y keys. refl) (woken w x) _)
      ∙ ap (option_map (stamp_tenant (get w.tenants k))) (get-map_rows names one_name (unblocked_in (woken w x)) x.tenants k)
      ∙ by (get x.tenants k)
    where
      by : (o : Option Tenant) → option_map (stamp_tenant (get w.tenants k)) (option_map (unblocked_in (woken w x) k) o) ≡ option_map (row_settled k) o
      by None = refl
      by (Some t) = refl

  there_settled : (k : Name) (t : Tenant) → get x.tenants k ≡ Some t → get (settle w x).tenants k ≡ Some (row_settled k t)
  there_settled k t is = get_settled k ∙ ap (option_map (row_settled k)) is

-- ---- another namespace

woken_was_blocked : (w x : World) (key : Key) → has_key (woken w x) key ≡ true → has_key w.blocked key ≡ true
woken_was_blocked w x key e = first_of_both (has_key w.blocked key) _ (sym (woken_are_called w x key) ∙ e)

module _ (w x : World) (ns : Name) (old : Tenant) where
  abbrev keys : List Key
  keys = woken w x

  abbrev u : Tenant
  u = unblocked_in keys ns old

  abbrev index : ℕ
  index = old.index + 1

  -- its evaluations once some are woken, and then stamped
  get_woken : (n : ℕ) → get u.evaluations n ≡ option_map (woken_row keys ns n) (get old.evaluations n)
  get_woken n = get-map_rows numbers one_number (woken_row keys ns) old.evaluations n

  get_stamped : (n : ℕ) → get (stamped index old u).evaluations n ≡ option_map (stamped_evaluation index old n) (option_map (woken_row keys ns n)
      (get old.evaluations n))
  get_stamped n = get-map_rows numbers one_number (stamped_evaluation index old) u.evaluations n ∙
      ap (option_map (stamped_evaluation index old n)) (get_woken n)

  woken_so : (n : ℕ) (e : Evaluation) → law.IsSameOrWoken w ns n e (woken_row keys ns n e)
  woken_so n e = by (has_key keys (ns, n)) refl
    where
      by : (b : Bool) → has_key keys (ns, n) ≡ b → law.IsSameOrWoken w ns n e (cond b (pending e) e)
      by true has = inr (woken_was_blocked w x (ns, n) has, refl)
      by false has = inl refl

  stamped_so : (n : ℕ) (e : Evaluation) → get old.evaluations n ≡ Some e →
      law.IsSameOrWoken w ns n e (stamped_evaluation index old n (woken_row keys ns n e))
  stamped_so n e is = by (has_key keys (ns, n)) refl
    where
      stamp_of : Bool → Evaluation → Evaluation
      stamp_of c e = cond c (record e { create_index = created_at index (get old.evaluations n) (λ (o : Evaluation). o.create_index); modify_index = index }) e

      one : (c : Bool) → stamp_of c (pending e) ≡ record e { status = Status.Pending; modify_index = (stamp_of c (pending e)).modify_index }
      one true = λ i. record (pending e) { create_index = created_at index (is i) (λ (o : Evaluation). o.create_index); modify_index = index }
      one false = refl

      by : (b : Bool) → has_key keys (ns, n) ≡ b → law.IsSameOrWoken w ns n e (stamped_evaluation index old n (cond b (pending e) e))
      by true has = inr (woken_was_blocked w x (ns, n) has, one (changes_evaluation old n (pending e)))
      by false has = inl (ap (λ c. stamp_of c e) (kept_evaluation old n e is))

  told : (topics : List Topic) → Each (λ (event : Event). event.index ≡ index) (map (λ topic. record { index = index; topic = topic }) topics)
  told [] = tt
  told (topic ∷ topics) = (refl, told topics)

  left : (touched : Bool) → law.IsLeft w ns old (cond touched (stamped index old u) u)
  left true = record {
    namespace = refl;
    evaluation_number = refl;
    allocation_number = refl;
    jobs = refl;
    allocations = map_rows_idle numbers one_number (stamped_allocation index old) old.allocations (λ n a is.
        ap (λ c. cond c (record a { create_index = created_at index (get old.allocations n) (λ (o : Allocation). o.create_index); modify_index = index }) a)
        (kept_allocation old n a is));
    workers = refl;
    evaluation = λ n e is. (
      stamped_evaluation index old n (woken_row keys ns n e),
      get_stamped n ∙ ap (λ o. option_map (stamped_evaluation index old n) (option_map (woken_row keys ns n) o)) is,
      stamped_so n e is,
    );
    no_evaluation = λ n is. get_stamped n ∙ ap (λ o. option_map (stamped_evaluation index old n) (option_map (woken_row keys ns n) o)) is;
    index_and_events = inr (refl, events_of index old u, told (topics_of old u), refl);
  }
  left false = record {
    namespace = refl;
    evaluation_number = refl;
    allocation_number = refl;
    jobs = refl;
    allocations = refl;
    workers = refl;
    evaluation = λ n e is. (woken_row keys ns n e, get_woken n ∙ ap (option_map (woken_row keys ns n)) is, woken_so n e);
    no_evaluation = λ n is. get_woken n ∙ ap (option_map (woken_row keys ns n)) is;
    index_and_events = inl (refl, refl);
  }

  left_settled : law.IsLeft w ns old (stamp_tenant (Some old) u)
  unfolding stamp_tenant
  left_settled = left (is_touched old u)

same_left : (w : World) (ns : Name) (t : Tenant) → law.IsLeft w ns t t
same_left w ns t = record {
  namespace = refl;
  evaluation_number = refl;
  allocation_number = refl;
  jobs = refl;
  allocations = refl;
  workers = refl;
  evaluation = λ n e is. (e, is, inl refl);
  no_evaluation = λ n is. is;
  index_and_events = inl (refl, refl);
}

pub ask_stays_inside : law.AskStaysInside
ask_stays_inside ns other secret command s s' answer old another e is = by (led s s' (Step.Ask ns secret command) answer e)
  where
    by : IsRefused s s' answer ⊎ Led s s' (Step.Ask ns secret command) answer →
        (t : Tenant) × (get s'.world.tenants other ≡ Some t) × law.IsLeft s.world other old t
    by (inl refused) = (old, ap (λ (y : State). get y.world.tenants other) (sym refused.0) ∙ is, same_left s.world other old)
    by (inr l) =
        let own = (own_stays s s' ns secret command answer l).elsewhere other (other_name other ns (λ same. another (sym same))) ∙ is in (
          stamp_tenant (Some old) (unblocked_in (woken s.world l.own.world) other old),
          ap (λ (y : State). get y.world.tenants other) (sym l.is) ∙ there_settled s.world l.own.world other old own ∙
              ap (λ o. Some (stamp_tenant o (unblocked_in (woken s.world l.own.world) other old))) is,
          left_settled s.world l.own.world other old,
        )

-- ---- records, pools and quotas

module _ {X Y : Type 0} (kept : X → Y) where
  abbrev Has : Option X → Y → Type 0
  Has o y = (x : X) × (o ≡ Some x) × (kept x ≡ y)

  has_still : (o p : Option X) → option_map kept o ≡ option_map kept p → (y : Y) → Has o y → Has p y
  has_still None p e y h = absurd (not_Some _ h.1)
  has_still (Some x) None e y h = absurd (not_Some _ (sym e))
  has_still (Some x) (Some z) e y h = (z, refl, same_Some _ _ (sym e) ∙ ap kept (same_Some _ _ h.1) ∙ h.2)

pub plain_step : (step : Step) → ((secret : Option Name) (command : AdminCommand) → step ≢ Step.Admin secret command) → is_admin step ≡ false
plain_step (Step.Admin secret command) not_so = absurd (not_so secret command refl)
plain_step (Step.Ask ns secret command) not_so = refl
plain_step (Step.Node pool secret command) not_so = refl
plain_step (Step.Dequeue worker ns n) not_so = refl
plain_step (Step.Snap worker ns) not_so = refl
plain_step (Step.Submit worker ns) not_so = refl
plain_step (Step.Apply worker ns) not_so = refl
plain_step (Step.Finish worker ns) not_so = refl
plain_step (Step.Nack worker ns) not_so = refl

pub records_stay : law.RecordsStay
records_stay step s s' answer no_admin e = (
  λ name namespace. (
    has_still (λ (t : Tenant). t.namespace) _ _ (sym (kept name)) namespace,
    has_still (λ (t : Tenant). t.namespace) _ _ (kept name) namespace,
  ),
  (plain_keeps s s' step answer plain [] e).1,
)
  where
    plain : is_admin step ≡ false
    plain = plain_step step no_admin

    kept : (name : Name) → option_map (λ (t : Tenant). t.namespace) (get s'.world.tenants name)
        ≡ option_map (λ (t : Tenant). t.namespace) (get s.world.tenants name)
    kept name = (plain_keeps s s' step answer plain name e).0

abbrev pool_kept : PoolRows → Pool × ByName Node
pool_kept p = (p.pool, p.nodes)

abbrev quota_kept : QuotaRows → Quota
quota_kept q = q.quota

released_keeps : (classes : List Class) (p : PoolRows) → pool_kept (after_release classes p) ≡ pool_kept p
released_keeps [] p = refl
released_keeps (class ∷ classes) p = refl

pub ask_leaves_pools : law.AskLeavesPools
ask_leaves_pools ns secret command s s' answer e = (
  λ name pool nodes. (pool_still _ _ (sym (pools name)) pool nodes, pool_still _ _ (pools name) pool nodes),
  λ name quota. (has_still quota_kept _ _ (sym (quotas name)) quota, has_still quota_kept _ _ (quotas name) quota),
)
  where
    pool_still : (o p : Option PoolRows) → option_map pool_kept o ≡ option_map pool_kept p → (pool : Pool) (nodes : ByName Node) →
        (x : PoolRows) × (o ≡ Some x) × (x.pool ≡ pool) × (x.nodes ≡ nodes) → (x : PoolRows) × (p ≡ Some x) × (x.pool ≡ pool) × (x.nodes ≡ nodes)
    pool_still o p e pool nodes h =
        let r = has_still pool_kept o p e (pool, nodes) (h.0, h.1, λ i. (h.2 i, h.3 i)) in
        (r.0, r.1, ap (λ y. y.0) r.2, ap (λ y. y.1) r.2)

    -- what the end of the step and the step's own change keep is as it was
    still : {A : Type 0} (part : World → A) → ((l : Led s s' (Step.Ask ns secret command) answer) → part (settle s.world l.own.world) ≡ part s.world) →
        part s'.world ≡ part s.world
    still part kept = by (led s s' (Step.Ask ns secret command) answer e)
      where
        by : IsRefused s s' answer ⊎ Led s s' (Step.Ask ns secret command) answer → part s'.world ≡ part s.world
        by (inl refused) = ap (λ (y : State). part y.world) (sym refused.0)
        by (inr l) = ap (λ (y : State). part y.world) (sym l.is) ∙ kept l

    pools : (name : Name) → option_map pool_kept (get s'.world.pools name) ≡ option_map pool_kept (get s.world.pools name)
    pools name = still (λ w. option_map pool_kept (get w.pools name)) (λ l. settled_pool s.world l.own.world name pool_kept released_keeps ∙
        ap (λ m. option_map pool_kept (get m name)) (own_stays s s' ns secret command answer l).pools)

    quotas : (name : Name) → option_map quota_kept (get s'.world.quotas name) ≡ option_map quota_kept (get s.world.quotas name)
    quotas name = still (λ w. option_map quota_kept (get w.quotas name)) (λ l. settled_quota s.world l.own.world name quota_kept same_limits ∙
        ap (λ m. option_map quota_kept (get m name)) (own_stays s s' ns secret command answer l).quotas)

-- ---- the order of what waits

same_list : {X : Type 0} (xs : List X) → IsSublist xs xs
same_list [] = both_end
same_list (x ∷ xs) = taken x xs xs (same_list xs)

module _ (ns : Name) (w x : World) where
  may_wake : Each (MayJoin ns w) (woken w x)
  may_wake = each_map (λ key has. inr (woken_was_blocked w x key has)) (woken w x) (each_member (woken w x))

  plans_settled : (settle w x).plans ≡ x.plans
  unfolding settle stamp number_releases wake
  plans_settled = queues_keep (λ y. y.plans) (λ y keys. refl) (woken w x) _

  blocked_settled : IsSublist (settle w x).blocked x.blocked
  unfolding settle stamp number_releases wake
  blocked_settled = subst (λ keys. IsSublist keys x.blocked) (sym (queues_keep (λ y. y.blocked) (λ y keys. refl) (woken w x) _))
      (filter_in_order (λ key. not (has_key (woken w x) key)) x.blocked)

  ready_settled : Joined (MayJoin ns w) x.ready (settle w x).ready
  unfolding settle stamp number_releases wake
  ready_settled = queues_join (MayJoin ns w) (woken w x) _ may_wake

  order_settled : StaysIn ns w x → law.KeepsOrder ns w (settle w x)
  order_settled own =
      let j = joins_then (MayJoin ns w) w.ready x.ready (settle w x).ready own.ready ready_settled in record {
        plans = plans_settled ∙ own.plans;
        blocked = subst (IsSublist (settle w x).blocked) own.blocked blocked_settled;
        joined = j.joined;
        ready = j.is;
        joins = j.joins;
      }

same_order : (ns : Name) (w : World) → law.KeepsOrder ns w w
same_order ns w = record { plans = refl; blocked = same_list w.blocked; joined = []; ready = sym (append-nil w.ready); joins = tt }

pub ask_keeps_order : law.AskKeepsOrder
ask_keeps_order ns secret command s s' answer e = by (led s s' (Step.Ask ns secret command) answer e)
  where
    by : IsRefused s s' answer ⊎ Led s s' (Step.Ask ns secret command) answer → law.KeepsOrder ns s.world s'.world
    by (inl refused) = subst (λ (y : State). law.KeepsOrder ns s.world y.world) refused.0 (same_order ns s.world)
    by (inr l) = subst (λ (y : State). law.KeepsOrder ns s.world y.world) l.is
        (order_settled ns s.world l.own.world (own_stays s s' ns secret command answer l))

-- ---- the index that a reply shows

index_in : Answer → Option ℕ
index_in (Ok reply) = reply.index
index_in (Err refusal) = None

pub index_is_shown : law.IndexIsShown
unfolding index_in
index_is_shown ns secret command s s' reply e = by (led s s' (Step.Ask ns secret command) (Ok reply) e)
  where
    by : IsRefused s s' (Ok reply) ⊎ Led s s' (Step.Ask ns secret command) (Ok reply) →
        (t : Tenant) × (get s'.world.tenants ns ≡ Some t) × (reply.index ≡ Some t.index)
    by (inl refused) = not_refused reply refused.1 (sym refused.2)
    by (inr l) =
        let own = (own_stays s s' ns secret command (Ok reply) l).there in
        let is = there_settled s.world l.own.world ns own.0 own.1 in (
          row_settled s.world l.own.world ns own.0,
          ap (λ (y : State). get y.world.tenants ns) (sym l.is) ∙ is,
          ap index_in (sym l.replies) ∙ ap (option_map (λ (t : Tenant). t.index)) is,
        )
