-- What a step leaves where it is made, and what its end does to each row.
use Rattle.std.specs.Prelude.{◌≡◌, ◌≢◌, ℕ, ◌+◌, Bool, true, false, cond, List, [], ◌∷◌, Option, Some, None, Ok, Err, option_map}
use Rattle.std.proofs.Common.{refl, sym, ap, subst, ◌∙◌}
use Rattle.std.specs.FinMap.{get, insert, remove, get-remove}
use Rattle.std.specs.Option.{option_and_then}
use Rattle.std.specs.Ordering.{eq_by_cmp}
use Rattle.ns_types.specs.declared.allocation.Allocation.{Allocation}
use Rattle.ns_types.specs.declared.evaluation.Evaluation.{Evaluation}
use Rattle.ns_types.specs.declared.node.Class.{Class}
use Rattle.ns_types.specs.declared.refusal.Refusal.{Refusal}
use Rattle.ns_types.specs.declared.reply.Content.{Content}
use Rattle.ns_types.specs.declared.reply.Reply.{Reply}
use Rattle.ns_types.specs.declared.step.Step.{Step}
use Rattle.ns_types.specs.Settling.Making.{put_tenant, with_evaluation, make_in}
use Rattle.ns_types.specs.Settling.Outcome.{Outcome, NotEnabled, Refused, Done, unless, refused_by, found, lift}
use Rattle.ns_types.specs.Settling.Releases.{woken, released_classes, releases_quota}
use Rattle.ns_types.specs.Settling.Settle.{woken_row, unblocked_in, wake, after_release, after_quota_release, number_releases, is_touched}
use Rattle.ns_types.specs.Settling.Settle.{changes_evaluation, changes_allocation, created_at, stamped_evaluation, stamped_allocation, stamped, stamp_tenant}
use Rattle.ns_types.specs.Settling.Same.{same_evaluation}
use Rattle.ns_types.specs.Settling.Settle.{stamp, settle, is_changed, changes_job}
use Rattle.ns_types.specs.State.Names.{Name, Key, ByName, ByNumber, name_cmp}
use Rattle.ns_types.specs.State.Rows.{State, World, Tenant, PoolRows, QuotaRows, node_at}
use Rattle.ns_types.specs.State.Tables.{any_row}
use Rattle.ns_types.specs.Steps.{after, act, said, concluded, is_allowed, is_past_bound, reply_of, settled}
use Rattle.ns_types.proofs.Leads.{Leads}
use Rattle.ns_types.proofs.Named.{names, one_name, numbers, one_number, same_name_refl, same_name_is}
use Rattle.ns_types.proofs.Queue.{queue_keeps, queues_keep}
use Rattle.ns_types.proofs.Settling.{kept_allocation}
use Rattle.ns_types.proofs.TableRows.{get_put, get_other, some_row}
use Rattle.ns_types.proofs.Tables.{get-map_rows}
use Rattle.ns_types.proofs.Tests.{third_of_four}
use Rattle.ns_audit.proofs.Alone.Recording.{record_kept}
use Rattle.ns_audit.proofs.StepLemmas.{same_answer, same_reply, same_state, not_said, not_refused}
use Rattle.ns_audit.proofs.ValidAllocations.Going.{release_nodes}

-- ---- where the step is made, this holds of what it says and of what it leaves

abbrev pub Does : {S : Type 0} → (Content → S → Type 0) → Outcome S → Type 0
Does Q NotEnabled = Unit {0}
Does Q (Refused refusal) = Unit {0}
Does Q (Done content x) = Q content x

module _ {S : Type 0} (Q : Content → S → Type 0) where
  pub does_unless : (b : Bool) (refusal : Refusal) (o : Outcome S) → (b ≡ false → Does Q o) → Does Q (unless b refusal o)
  unfolding unless
  does_unless true refusal o h = tt
  does_unless false refusal o h = h refl

  pub does_refused : (x : Option Refusal) (o : Outcome S) → Does Q o → Does Q (refused_by x o)
  does_refused None o h = h
  does_refused (Some refusal) o h = tt

  pub does_found : {A : Type 0} (x : Option A) (f : A → Outcome S) → ((a : A) → x ≡ Some a → Does Q (f a)) → Does Q (found x f)
  does_found {A = A} x f h = by x refl
    where
      by : (y : Option A) → x ≡ y → Does Q (found y f)
      by None is = tt
      by (Some a) is = h a is

  pub does_if : (b : Bool) (o p : Outcome S) → (b ≡ true → Does Q o) → (b ≡ false → Does Q p) → Does Q (cond b o p)
  does_if true o p h k = h refl
  does_if false o p h k = k refl

pub does_of : {S : Type 0} (P Q : Content → S → Type 0) → ((content : Content) (x : S) → P content x → Q content x) → (o : Outcome S) → Does P o → Does Q o
does_of P Q f NotEnabled h = tt
does_of P Q f (Refused refusal) h = tt
does_of P Q f (Done content x) h = f content x h

-- what holds wherever the change is made holds with every content
pub does_led : {S : Type 0} (P : S → Type 0) (o : Outcome S) → Leads P o → Does (λ _. P) o
does_led P NotEnabled h = tt
does_led P (Refused refusal) h = tt
does_led P (Done content x) h = h

pub does_lift : {A B : Type 0} (Q : Content → B → Type 0) (whole : A → B) (o : Outcome A) → Does (λ content a. Q content (whole a)) o → Does Q (lift whole o)
does_lift Q whole NotEnabled h = tt
does_lift Q whole (Refused refusal) h = tt
does_lift Q whole (Done content a) h = h

module _ (step : Step) (s s' : State) (reply : Reply) (Q : Reply → State → Type 0) where
  abbrev pub AtEnd : Content → State → Type 0
  AtEnd content x = Q (reply_of step content (settle s.world x.world)) (settled s x)

  concluded_does : (o : Outcome State) → Does AtEnd o → concluded step s o ≡ said (Ok reply) s' → Q reply s'
  concluded_does NotEnabled h e = not_said _ s' e
  concluded_does (Refused refusal) h e = not_refused reply refusal (sym (same_answer _ _ s s' e))
  concluded_does (Done content x) h e = by (is_past_bound (settled s x).world) e
    where
      replies : Reply
      replies = reply_of step content (settle s.world x.world)

      by : (b : Bool) → cond b (said (Err Refusal.Full) s) (said (Ok replies) (settled s x)) ≡ said (Ok reply) s' → Q reply s'
      by true e = not_refused reply Refusal.Full (sym (same_answer _ _ s s' e))
      by false e = subst (λ r. Q r s') (same_reply replies reply (same_answer (Ok replies) (Ok reply) (settled s x) s' e))
          (subst (λ y. Q replies y) (same_state (Ok replies) (Ok reply) (settled s x) s' e) h)

  pub after_does : after step s ≡ said (Ok reply) s' → Does AtEnd (act step s) → Q reply s'
  unfolding after
  after_does e h = by (is_allowed step s.acl) e
    where
      by : (b : Bool) → cond b (concluded step s (act step s)) (said (Err Refusal.Denied) s) ≡ said (Ok reply) s' → Q reply s'
      by true e = concluded_does (act step s) h e
      by false e = not_refused reply Refusal.Denied (sym (same_answer _ _ s s' e))

-- ---- tables

pub put_there : {X : Type 0} (m : ByName X) (k : Name) (x : X) → get (insert m k x) k ≡ Some x
put_there = get_put names one_name

pub differs : (a b : Name) → a ≢ b → eq_by_cmp name_cmp a b ≡ false
differs a b other = by (eq_by_cmp name_cmp a b) refl
  where
    by : (c : Bool) → eq_by_cmp name_cmp a b ≡ c → c ≡ false
    by true e = absurd (other (same_name_is a b e))
    by false e = refl

pub put_elsewhere : {X : Type 0} (m : ByName X) (k : Name) (x : X) (q : Name) → q ≢ k → get (insert m k x) q ≡ get m q
put_elsewhere m k x q other = get_other names one_name m k x q (differs q k other)

pub removed : {X : Type 0} (m : ByName X) (k : Name) → get (remove m k) k ≡ None
removed m k = get-remove names m k k ∙ ap (λ b. cond b None (get m k)) (same_name_refl k)

pub removed_elsewhere : {X : Type 0} (m : ByName X) (k q : Name) → q ≢ k → get (remove m k) q ≡ get m q
removed_elsewhere m k q other = get-remove names m k q ∙ ap (λ b. cond b None (get m q)) (differs q k other)

twice : {A : Type 0} (f g : A → A) (o : Option A) → option_map f (option_map g o) ≡ option_map (λ x. f (g x)) o
twice f g None = refl
twice f g (Some x) = refl

-- ---- the end of a step, namespace by namespace

module _ (w w' : World) where
  abbrev keys : List Key
  keys = woken w w'

  abbrev pub settled_rows : Name → Tenant → Tenant
  settled_rows ns t = stamp_tenant (get w.tenants ns) (unblocked_in keys ns t)

  pub settled_tenant : (ns : Name) → get (settle w w').tenants ns ≡ option_map (settled_rows ns) (get w'.tenants ns)
  unfolding settle stamp number_releases wake
  settled_tenant ns = get-map_rows names one_name (λ ns t. stamp_tenant (get w.tenants ns) t) (wake keys w').tenants ns
      ∙ ap (λ m. option_map (stamp_tenant (get w.tenants ns)) (get m ns)) (queues_keep (λ x. x.tenants) (λ x ks. refl) keys _)
      ∙ ap (option_map (stamp_tenant (get w.tenants ns))) (get-map_rows names one_name (unblocked_in keys) w'.tenants ns)
      ∙ twice (stamp_tenant (get w.tenants ns)) (unblocked_in keys ns) (get w'.tenants ns)

  pub settled_there : (ns : Name) (t : Tenant) → get w'.tenants ns ≡ Some t → get (settle w w').tenants ns ≡ Some (settled_rows ns t)
  settled_there ns t is = settled_tenant ns ∙ ap (option_map (settled_rows ns)) is

module _ {A : Type 0} (part : Tenant → A) (same : (i : ℕ) (o t : Tenant) → part (stamped i o t) ≡ part t) where
  pub stamp_keeps : (o : Option Tenant) (t : Tenant) → part (stamp_tenant o t) ≡ part t
  unfolding stamp_tenant
  stamp_keeps None t = refl
  stamp_keeps (Some o) t = elim (is_touched o t) as (λ b. part (cond b (stamped (o.index + 1) o t) t) ≡ part t) [ true ↦ same _ o t | false ↦ refl ]

pub settled_jobs : (w w' : World) (ns : Name) (t : Tenant) → (settled_rows w w' ns t).jobs ≡ t.jobs
settled_jobs w w' ns t = stamp_keeps (λ t. t.jobs) (λ i o t. refl) (get w.tenants ns) (unblocked_in (woken w w') ns t)

pub settled_namespace : (w w' : World) (ns : Name) (t : Tenant) → (settled_rows w w' ns t).namespace ≡ t.namespace
settled_namespace w w' ns t = stamp_keeps (λ t. t.namespace) (λ i o t. refl) (get w.tenants ns) (unblocked_in (woken w w') ns t)

-- ---- evaluations

-- the end of a step gives an evaluation other indexes at most
pub redated_evaluation : (o : Option Tenant) (t : Tenant) (n : ℕ) (e : Evaluation) → get t.evaluations n ≡ Some e →
    (created : ℕ) × (modified : ℕ) × (get (stamp_tenant o t).evaluations n ≡ Some (record e { create_index = created; modify_index = modified }))
unfolding stamp_tenant
redated_evaluation None t n e at = (e.create_index, e.modify_index, at)
redated_evaluation (Some o) t n e at = by (is_touched o t)
  where
    Redated : Option Evaluation → Type 0
    Redated r = (created : ℕ) × (modified : ℕ) × (r ≡ Some (record e { create_index = created; modify_index = modified }))

    row : (b : Bool) (created : ℕ) → Redated (Some (cond b (record e { create_index = created; modify_index = o.index + 1 }) e))
    row true created = (created, o.index + 1, refl)
    row false created = (e.create_index, e.modify_index, refl)

    by : (b : Bool) → Redated (get (cond b (stamped (o.index + 1) o t) t).evaluations n)
    by true = subst Redated (sym (get-map_rows numbers one_number (stamped_evaluation (o.index + 1) o) t.evaluations n
        ∙ ap (option_map (stamped_evaluation (o.index + 1) o n)) at))
        (row (changes_evaluation o n e) (created_at (o.index + 1) (get o.evaluations n) (λ r. r.create_index)))
    by false = (e.create_index, e.modify_index, at)

-- ---- allocations

-- the end of a step gives an allocation other indexes at most
pub redated_allocation : (o : Option Tenant) (t : Tenant) (n : ℕ) (a : Allocation) → get t.allocations n ≡ Some a →
    (created : ℕ) × (modified : ℕ) × (get (stamp_tenant o t).allocations n ≡ Some (record a { create_index = created; modify_index = modified }))
unfolding stamp_tenant
redated_allocation None t n a at = (a.create_index, a.modify_index, at)
redated_allocation (Some o) t n a at = by (is_touched o t)
  where
    Redated : Option Allocation → Type 0
    Redated r = (created : ℕ) × (modified : ℕ) × (r ≡ Some (record a { create_index = created; modify_index = modified }))

    row : (b : Bool) (created : ℕ) → Redated (Some (cond b (record a { create_index = created; modify_index = o.index + 1 }) a))
    row true created = (created, o.index + 1, refl)
    row false created = (a.create_index, a.modify_index, refl)

    by : (b : Bool) → Redated (get (cond b (stamped (o.index + 1) o t) t).allocations n)
    by true = subst Redated (sym (get-map_rows numbers one_number (stamped_allocation (o.index + 1) o) t.allocations n
        ∙ ap (option_map (stamped_allocation (o.index + 1) o n)) at))
        (row (changes_allocation o n a) (created_at (o.index + 1) (get o.allocations n) (λ r. r.create_index)))
    by false = (a.create_index, a.modify_index, at)

-- an allocation is as it was, its indexes apart
pub record StillAllocated (a : Allocation) (rows : ByNumber Allocation) (n : ℕ) : Type 0 where
  pub row : Allocation
  pub is_row : get rows n ≡ Some row
  pub job : row.job ≡ a.job
  pub pool : row.pool ≡ a.pool
  pub node : row.node ≡ a.node
  pub desired : row.desired ≡ a.desired
  pub client : row.client ≡ a.client

stamped_allocated : (o : Option Tenant) (t : Tenant) (n : ℕ) (a : Allocation) → get t.allocations n ≡ Some a →
    StillAllocated a (stamp_tenant o t).allocations n
stamped_allocated o t n a at = let r = redated_allocation o t n a at in
    record { row = record a { create_index = r.0; modify_index = r.1 }; is_row = r.2; job = refl; pool = refl; node = refl; desired = refl; client = refl }

pub settled_allocated : (w w' : World) (ns : Name) (t : Tenant) (n : ℕ) (a : Allocation) → get t.allocations n ≡ Some a →
    StillAllocated a (settled_rows w w' ns t).allocations n
settled_allocated w w' ns t n a at = stamped_allocated (get w.tenants ns) (unblocked_in (woken w w') ns t) n a at

-- where the allocation is the former one it stays so
pub stamped_former : (o t : Tenant) (n : ℕ) → get t.allocations n ≡ get o.allocations n → get (stamp_tenant (Some o) t).allocations n ≡ get o.allocations n
unfolding stamp_tenant
stamped_former o t n same = by (is_touched o t)
  where
    left : (x : Option Allocation) → get o.allocations n ≡ x → option_map (stamped_allocation (o.index + 1) o n) x ≡ x
    left None is = refl
    left (Some a) is = ap (λ b. Some (cond b (record a {
      create_index = created_at (o.index + 1) (get o.allocations n) (λ o. o.create_index);
      modify_index = o.index + 1;
    }) a)) (kept_allocation o n a is)

    by : (b : Bool) → get (cond b (stamped (o.index + 1) o t) t).allocations n ≡ get o.allocations n
    by true = get-map_rows numbers one_number (stamped_allocation (o.index + 1) o) t.allocations n
        ∙ ap (option_map (stamped_allocation (o.index + 1) o n)) same ∙ left (get o.allocations n) refl
    by false = same

pub settled_former : (w w' : World) (ns : Name) (o t : Tenant) (n : ℕ) → get w.tenants ns ≡ Some o → get t.allocations n ≡ get o.allocations n →
    get (settled_rows w w' ns t).allocations n ≡ get o.allocations n
settled_former w w' ns o t n is same = ap (λ x. get (stamp_tenant x (unblocked_in (woken w w') ns t)).allocations n) is
    ∙ stamped_former o (unblocked_in (woken w w') ns t) n same

-- ---- an evaluation is made

pub made_there : (w : World) (ns : Name) (e : Evaluation) (t : Tenant) → get (make_in ns e w t).tenants ns ≡ Some (with_evaluation e t)
made_there w ns e t = ap (λ m. get m ns) (queue_keeps (λ x. x.tenants) (λ x ks. refl) (put_tenant ns (with_evaluation e t) w) (ns, t.evaluation_number + 1))
    ∙ put_there w.tenants ns (with_evaluation e t)

pub number_there : (n : ℕ) (e : Evaluation) (rows : ByNumber Evaluation) → get (insert rows n e) n ≡ Some e
number_there n e rows = get_put numbers one_number rows n e

-- ---- the index of a new evaluation

-- the rows have that index, and so has the evaluation
pub record IsNewAt (index n : ℕ) (t : Tenant) : Type 0 where
  pub is_now : t.index ≡ index
  pub row : Evaluation
  pub is_row : get t.evaluations n ≡ Some row
  pub created : row.create_index ≡ index
  pub modified : row.modify_index ≡ index

stamped_new : (o t : Tenant) (n : ℕ) (e : Evaluation) → get o.evaluations n ≡ None → get t.evaluations n ≡ Some e →
    IsNewAt (o.index + 1) n (stamp_tenant (Some o) t)
unfolding stamp_tenant
stamped_new o t n e none at = subst (λ b. IsNewAt (o.index + 1) n (cond b (stamped (o.index + 1) o t) t)) (sym touched) (record {
  is_now = refl;
  row = record e { create_index = created_at (o.index + 1) (get o.evaluations n) (λ o. o.create_index); modify_index = o.index + 1 };
  is_row = get-map_rows numbers one_number (stamped_evaluation (o.index + 1) o) t.evaluations n
      ∙ ap (option_map (stamped_evaluation (o.index + 1) o n)) at
      ∙ ap (λ b. Some (cond b (record e { create_index = created_at (o.index + 1) (get o.evaluations n) (λ o. o.create_index); modify_index = o.index + 1 }) e))
      changes;
  created = ap (λ x. created_at (o.index + 1) x (λ (o : Evaluation). o.create_index)) none;
  modified = refl;
})
  where
    changes : changes_evaluation o n e ≡ true
    changes = ap (λ x. is_changed same_evaluation x e) none

    touched : is_touched o t ≡ true
    touched = third_of_four (any_row (λ id _. changes_job o t id) t.jobs) (any_row (λ id _. changes_job o t id) o.jobs)
        (any_row (changes_evaluation o) t.evaluations) (any_row (changes_allocation o) t.allocations)
        (some_row numbers one_number (changes_evaluation o) t.evaluations n e at changes)

pub settled_new : (w w' : World) (ns : Name) (o t : Tenant) (n : ℕ) (e : Evaluation) → get w.tenants ns ≡ Some o → get o.evaluations n ≡ None →
    get t.evaluations n ≡ Some e → IsNewAt (o.index + 1) n (settled_rows w w' ns t)
settled_new w w' ns o t n e is none at = subst (λ x. IsNewAt (o.index + 1) n (stamp_tenant x (unblocked_in (woken w w') ns t))) (sym is)
    (stamped_new o (unblocked_in (woken w w') ns t) n (woken_row (woken w w') ns n e) none
    (get-map_rows numbers one_number (woken_row (woken w w') ns) t.evaluations n ∙ ap (option_map (woken_row (woken w w') ns n)) at))

-- ---- the end of a step, pool by pool and quota by quota

module _ {A : Type 0} (w w' : World) (name : Name) where
  pub settled_pool : (part : PoolRows → A) → ((classes : List Class) (p : PoolRows) → part (after_release classes p) ≡ part p) →
      option_map part (get (settle w w').pools name) ≡ option_map part (get w'.pools name)
  unfolding settle stamp number_releases wake
  settled_pool part same = record_kept (λ name p. after_release (released_classes w w' name p) p) part
      (λ name p. same (released_classes w w' name p) p) _ name
      ∙ ap (λ m. option_map part (get m name)) (queues_keep (λ x. x.pools) (λ x ks. refl) (woken w w') _)

  pub settled_quota : (part : QuotaRows → A) → ((b : Bool) (q : QuotaRows) → part (after_quota_release b q) ≡ part q) →
      option_map part (get (settle w w').quotas name) ≡ option_map part (get w'.quotas name)
  unfolding settle stamp number_releases wake
  settled_quota part same = record_kept (λ name q. after_quota_release (releases_quota w w' name q) q) part
      (λ name q. same (releases_quota w w' name q) q) _ name
      ∙ ap (λ m. option_map part (get m name)) (queues_keep (λ x. x.quotas) (λ x ks. refl) (woken w w') _)

  pub settled_part : (part : Tenant → A) → ((i : ℕ) (o t : Tenant) → part (stamped i o t) ≡ part t) →
      ((keys : List Key) (t : Tenant) → part (unblocked_in keys name t) ≡ part t) →
      option_map part (get (settle w w').tenants name) ≡ option_map part (get w'.tenants name)
  settled_part part same woke = ap (option_map part) (settled_tenant w w' name) ∙ by (get w'.tenants name)
    where
      by : (o : Option Tenant) → option_map part (option_map (settled_rows w w' name) o) ≡ option_map part o
      by None = refl
      by (Some t) = ap Some (stamp_keeps part same (get w.tenants name) (unblocked_in (woken w w') name t) ∙ woke (woken w w') t)

pub same_record : (classes : List Class) (p : PoolRows) → (after_release classes p).pool ≡ p.pool
same_record [] p = refl
same_record (class ∷ classes) p = refl

pub same_limits : (b : Bool) (q : QuotaRows) → (after_quota_release b q).quota ≡ q.quota
same_limits true q = refl
same_limits false q = refl

pub node_of_parts : (w : World) (pool name : Name) → node_at w pool name ≡
    option_and_then (λ nodes. get nodes name) (option_map (λ p. p.nodes) (get w.pools pool))
node_of_parts w pool name = by (get w.pools pool)
  where
    by : (o : Option PoolRows) → option_and_then (λ p. get p.nodes name) o ≡ option_and_then (λ nodes. get nodes name) (option_map (λ p. p.nodes) o)
    by None = refl
    by (Some p) = refl

pub settled_node : (w w' : World) (pool name : Name) → node_at (settle w w') pool name ≡ node_at w' pool name
settled_node w w' pool name = node_of_parts (settle w w') pool name
    ∙ ap (option_and_then (λ nodes. get nodes name)) (settled_pool w w' pool (λ p. p.nodes) release_nodes) ∙ sym (node_of_parts w' pool name)
