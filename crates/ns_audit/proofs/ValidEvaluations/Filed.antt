-- What is said of evaluations while a step is under way, and the changes of a namespace and of the lists that keep it.
use Rattle.std.specs.Prelude.{◌≡◌, ◌≢◌, ℕ, ◌+◌, ◌≤◌, ◌<◌, Bool, true, false, cond, List, [], ◌∷◌, ◌++◌, Option, Some, None, ◌&&◌, fold, is_some}
use Rattle.std.proofs.Common.{◌⊎◌, inl, inr, refl, sym, ap, subst, ◌∙◌, arith}
use Rattle.std.specs.FinMap.{get, get-insert, insert, contains_key}
use Rattle.std.specs.Option.{option_map_or}
use Rattle.std.specs.Ordering.{eq_by_cmp}
use Rattle.ns_types.specs.declared.allocation.Allocation.{Allocation}
use Rattle.ns_types.specs.declared.evaluation.Evaluation.{Evaluation}
use Rattle.ns_types.specs.declared.evaluation.Trigger.{Trigger}
use Rattle.ns_types.specs.declared.job.Job.{Job}
use Rattle.ns_types.specs.declared.job.JobKind.{JobKind}
use Rattle.ns_types.specs.declared.name.NameKind.TheVariants as NameKind
use Rattle.ns_types.specs.State.Limits.{is_between, is_pool_name}
use Rattle.ns_types.specs.State.Lists.{Each}
use Rattle.ns_types.specs.Settling.Making.{put_tenant, put_pool, change_tenant, new_evaluation, evaluation_of, evaluation_for, with_evaluation, make_in, make}
use Rattle.ns_types.specs.State.Name.{is_name}
use Rattle.ns_types.specs.State.Names.{Name, Key, ByNumber, name_cmp, same_name, same_key, has_key}
use Rattle.ns_types.specs.Working.Queue.{queue, is_busy}
use Rattle.ns_types.specs.State.Rows.{World, Tenant, PoolRows, is_open, is_blocked, evaluation_at}
use Rattle.ns_types.specs.State.Tables.{map_rows}
use Rattle.ns_types.specs.Working.Work.{most_nacks}
use Rattle.ns_types.proofs.Lists.{not_both}
use Rattle.ns_types.proofs.Named.{names, one_name, numbers as numbers_, one_number, same_name_is, same_name_refl}
use Rattle.ns_types.proofs.Tests.{not_Some, same_Some}
use Rattle.ns_types.proofs.TableRows.{row_of_insert}
use Rattle.ns_audit.proofs.Steady.Keeping.{more, row_of_map}
use Rattle.ns_audit.proofs.ValidEvaluations.Pairs.{Pairs}

-- ---- one evaluation

-- what it names is within the limits, if it is open then its pool passes, and its numbers are no later than the last ones
pub record IsFiledEvaluation (pools : Name → Bool) (last index : ℕ) (e : Evaluation) : Type 0 where
  pub named : (is_name NameKind.Job e.job && is_pool_name e.pool) ≡ true
  pub priority : is_between 1 100 e.priority ≡ true
  pub exists : is_open e.status ≡ true → pools e.pool ≡ true
  pub previous : (m : ℕ) → e.previous ≡ Some m → m ≤ last
  pub follower : (m : ℕ) → e.follower ≡ Some m → m ≤ last
  pub given_back : e.nacks ≤ most_nacks
  pub few_nacks : is_open e.status ≡ true → e.nacks < most_nacks
  pub created : e.create_index ≤ index
  pub modified : e.modify_index ≤ index

pub grown_evaluation : (pools : Name → Bool) (last index : ℕ) (e : Evaluation) → IsFiledEvaluation pools last index e →
    IsFiledEvaluation pools (last + 1) index e
grown_evaluation pools last index e f = record {
  named = f.named;
  priority = f.priority;
  exists = f.exists;
  previous = λ m is. more m last (f.previous m is);
  follower = λ m is. more m last (f.follower m is);
  given_back = f.given_back;
  few_nacks = f.few_nacks;
  created = f.created;
  modified = f.modified;
}

-- ---- the evaluations of a namespace

-- the blocked ones pass, and each is of another job
pub record IsFiledRows (pools : Name → Bool) (last index : ℕ) (listed : ℕ → Bool) (rows : ByNumber Evaluation) : Type 0 where
  pub row : (n : ℕ) (e : Evaluation) → get rows n ≡ Some e → IsFiledEvaluation pools last index e
  pub in_list : (n : ℕ) (e : Evaluation) → get rows n ≡ Some e → is_blocked e.status ≡ true → listed n ≡ true
  pub one : (m n : ℕ) (d e : Evaluation) → get rows m ≡ Some d → get rows n ≡ Some e → is_blocked d.status ≡ true → is_blocked e.status ≡ true → d.job ≡ e.job →
      m ≡ n

-- a blocked one is listed, and no other of its job is blocked
pub record IsOnlyOne (listed : ℕ → Bool) (rows : ByNumber Evaluation) (n : ℕ) (e : Evaluation) : Type 0 where
  pub in_list : listed n ≡ true
  pub one : (m : ℕ) (d : Evaluation) → get rows m ≡ Some d → is_blocked d.status ≡ true → d.job ≡ e.job → m ≡ n

pub grown_rows : (pools : Name → Bool) (last index : ℕ) (listed : ℕ → Bool) (rows : ByNumber Evaluation) → IsFiledRows pools last index listed rows →
    IsFiledRows pools (last + 1) index listed rows
grown_rows pools last index listed rows s = record { row = λ n e at. grown_evaluation pools last index e (s.row n e at); in_list = s.in_list; one = s.one }

pub relisted_rows : (pools : Name → Bool) (last index : ℕ) (listed listed' : ℕ → Bool) (rows : ByNumber Evaluation) → IsFiledRows pools last index listed rows
    → ((n : ℕ) (e : Evaluation) → get rows n ≡ Some e → is_blocked e.status ≡ true → listed n ≡ true → listed' n ≡ true) →
    IsFiledRows pools last index listed' rows
relisted_rows pools last index listed listed' rows s h =
    record { row = s.row; in_list = λ n e at blocked. h n e at blocked (s.in_list n e at blocked); one = s.one }

-- a row is put
pub put_rows : (pools : Name → Bool) (last index : ℕ) (listed : ℕ → Bool) (rows : ByNumber Evaluation) → IsFiledRows pools last index listed rows
    → (n : ℕ) (new : Evaluation) → IsFiledEvaluation pools last index new → (is_blocked new.status ≡ true → IsOnlyOne listed rows n new) →
    IsFiledRows pools last index listed (insert rows n new)
put_rows pools last index listed rows s n new f only = record {
  row = λ k e at. by_row k e (came k e at);
  in_list = λ k e at. by_list k e (came k e at);
  one = λ j k d e a b. by_one j k d e (came j d a) (came k e b);
}
  where
    came : (k : ℕ) (x : Evaluation) → get (insert rows n new) k ≡ Some x → ((k ≡ n) × (new ≡ x)) ⊎ (get rows k ≡ Some x)
    came k x is = row_of_insert numbers_ one_number rows n new k x is

    by_row : (k : ℕ) (x : Evaluation) → ((k ≡ n) × (new ≡ x)) ⊎ (get rows k ≡ Some x) → IsFiledEvaluation pools last index x
    by_row k x (inl a) = subst (IsFiledEvaluation pools last index) a.1 f
    by_row k x (inr a) = s.row k x a

    by_list : (k : ℕ) (x : Evaluation) → ((k ≡ n) × (new ≡ x)) ⊎ (get rows k ≡ Some x) → is_blocked x.status ≡ true → listed k ≡ true
    by_list k x (inl a) blocked = ap listed a.0 ∙ (only (ap (λ (e : Evaluation). is_blocked e.status) a.1 ∙ blocked)).in_list
    by_list k x (inr a) blocked = s.in_list k x a blocked

    by_one : (j k : ℕ) (d e : Evaluation) → ((j ≡ n) × (new ≡ d)) ⊎ (get rows j ≡ Some d) → ((k ≡ n) × (new ≡ e)) ⊎ (get rows k ≡ Some e)
        → is_blocked d.status ≡ true → is_blocked e.status ≡ true → d.job ≡ e.job → j ≡ k
    by_one j k d e (inl a) (inl b) p q same = a.0 ∙ sym b.0
    by_one j k d e (inl a) (inr b) p q same = a.0 ∙
        sym ((only (ap (λ (x : Evaluation). is_blocked x.status) a.1 ∙ p)).one k e b q (sym same ∙ sym (ap (λ (x : Evaluation). x.job) a.1)))
    by_one j k d e (inr a) (inl b) p q same = (only (ap (λ (x : Evaluation). is_blocked x.status) b.1 ∙ q)).one j d a p
        (same ∙ sym (ap (λ (x : Evaluation). x.job) b.1)) ∙ sym b.0
    by_one j k d e (inr a) (inr b) p q same = s.one j k d e a b p q same

-- in the place of one with its job and its status
pub replaced_rows : (pools : Name → Bool) (last index : ℕ) (listed : ℕ → Bool) (rows : ByNumber Evaluation) → IsFiledRows pools last index listed rows
    → (n : ℕ) (old new : Evaluation) → get rows n ≡ Some old → new.status ≡ old.status → new.job ≡ old.job → IsFiledEvaluation pools last index new →
    IsFiledRows pools last index listed (insert rows n new)
replaced_rows pools last index listed rows s n old new at status job f = put_rows pools last index listed rows s n new f (λ blocked.
    let was = ap is_blocked (sym status) ∙ blocked in
    record { in_list = s.in_list n old at was; one = λ m d d_at d_blocked same. s.one m n d old d_at at d_blocked was (same ∙ job) })

-- each row is changed
pub mapped_rows : (pools : Name → Bool) (last index index' : ℕ) (listed listed' : ℕ → Bool) (rows : ByNumber Evaluation) (f : ℕ → Evaluation → Evaluation) →
    IsFiledRows pools last index listed rows
    → ((n : ℕ) (e : Evaluation) → get rows n ≡ Some e → IsFiledEvaluation pools last index' (f n e))
    → ((n : ℕ) (e : Evaluation) → get rows n ≡ Some e → (f n e).job ≡ e.job)
    → ((n : ℕ) (e : Evaluation) → get rows n ≡ Some e → is_blocked (f n e).status ≡ true → (is_blocked e.status ≡ true) × (listed n ≡ true → listed' n ≡ true))
    → IsFiledRows pools last index' listed' (map_rows f rows)
mapped_rows pools last index index' listed listed' rows f s row job status = record {
  row = λ n e at. let y = was n e at in subst (IsFiledEvaluation pools last index') y.2 (row n y.0 y.1);
  in_list = λ n e at blocked. let y = was n e at in let z = status n y.0 y.1 (ap (λ (x : Evaluation). is_blocked x.status) y.2 ∙ blocked) in
      z.1 (s.in_list n y.0 y.1 z.0);
  one = λ m n d e a b p q same.
      let y = was m d a in
      let z = was n e b in
      s.one m n y.0 z.0 y.1 z.1 (status m y.0 y.1 (ap (λ (x : Evaluation). is_blocked x.status) y.2 ∙ p)).0
      (status n z.0 z.1 (ap (λ (x : Evaluation). is_blocked x.status) z.2 ∙ q)).0
      (sym (job m y.0 y.1) ∙ ap (λ (x : Evaluation). x.job) y.2 ∙ same ∙ sym (ap (λ (x : Evaluation). x.job) z.2) ∙ job n z.0 z.1);
}
  where
    was : (n : ℕ) (e : Evaluation) → get (map_rows f rows) n ≡ Some e → (y : Evaluation) × (get rows n ≡ Some y) × (f n y ≡ e)
    was n e at = row_of_map numbers_ one_number f rows n e at

-- ---- a namespace

-- a job of which an evaluation may be made
pub record IsFiledJob (pools : Name → Bool) (j : Job) : Type 0 where
  pub pool : is_pool_name j.document.pool ≡ true
  pub priority : is_between 1 100 j.document.priority ≡ true
  pub exists : pools j.document.pool ≡ true

-- its evaluations, its jobs, and its index, which a step leaves until it settles
abbrev pub IsFiledTenant : (Name → Bool) → ℕ → (ℕ → Bool) → Tenant → Type 0
IsFiledTenant pools index listed t =
    IsFiledRows pools t.evaluation_number index listed t.evaluations × ((id : Name) (j : Job) → get t.jobs id ≡ Some j → IsFiledJob pools j) × (t.index ≡ index)

-- ---- the whole

-- pools that pass are there
pub record IsFiled (pools : Name → Bool) (index : Name → ℕ) (w : World) : Type 0 where
  pub known : (name : Name) → pools name ≡ true → contains_key w.pools name ≡ true
  pub tenant : (ns : Name) (t : Tenant) → get w.tenants ns ≡ Some t → IsFiledTenant pools (index ns) (λ n. has_key w.blocked (ns, n)) t
  pub once : Pairs (λ a b. same_key a b ≡ false) w.blocked

-- of all but one namespace
pub record IsFiledBeside (pools : Name → Bool) (index : Name → ℕ) (ns : Name) (w : World) : Type 0 where
  pub known : (name : Name) → pools name ≡ true → contains_key w.pools name ≡ true
  pub tenant : (k : Name) (t : Tenant) → k ≢ ns → get w.tenants k ≡ Some t → IsFiledTenant pools (index k) (λ n. has_key w.blocked (k, n)) t
  pub once : Pairs (λ a b. same_key a b ≡ false) w.blocked

module _ (pools : Name → Bool) (index : Name → ℕ) where
  pub beside : (ns : Name) (w : World) → IsFiled pools index w → IsFiledBeside pools index ns w
  beside ns w s = record { known = s.known; tenant = λ k t _ is. s.tenant k t is; once = s.once }

  pub put_beside : (ns : Name) (t' : Tenant) (w : World) → IsFiledBeside pools index ns w → IsFiledTenant pools (index ns) (λ n. has_key w.blocked (ns, n)) t' →
      IsFiled pools index (put_tenant ns t' w)
  put_beside ns t' w s filed = record {
    known = s.known;
    tenant =
        λ k x at. by k x (eq_by_cmp name_cmp k ns) refl (sym (get-insert names w.tenants ns t' k) ∙ at);
    once = s.once;
  }
    where
      by : (k : Name) (x : Tenant) (b : Bool) → eq_by_cmp name_cmp k ns ≡ b → cond b (Some t') (get w.tenants k) ≡ Some x →
          IsFiledTenant pools (index k) (λ n. has_key w.blocked (k, n)) x
      by k x true same at = subst (λ k. IsFiledTenant pools (index k) (λ n. has_key w.blocked (k, n)) x) (sym (same_name_is k ns same))
          (subst (IsFiledTenant pools (index ns) (λ n. has_key w.blocked (ns, n))) (same_Some t' x at) filed)
      by k x false other at = s.tenant k x (λ e. not_both (ap (λ j. same_name j ns) e ∙ same_name_refl ns) other) at

  pub put_filed : (ns : Name) (t' : Tenant) (w : World) → IsFiled pools index w → IsFiledTenant pools (index ns) (λ n. has_key w.blocked (ns, n)) t' →
      IsFiled pools index (put_tenant ns t' w)
  put_filed ns t' w s filed = put_beside ns t' w (beside ns w s) filed

  pub change_filed : (ns : Name) (f : Tenant → Tenant) (w : World) → IsFiled pools index w
      → ((t : Tenant) → IsFiledTenant pools (index ns) (λ n. has_key w.blocked (ns, n)) t →
      IsFiledTenant pools (index ns) (λ n. has_key w.blocked (ns, n)) (f t)) → IsFiled pools index (change_tenant ns f w)
  change_filed ns f w s keeps = by (get w.tenants ns) refl
    where
      by : (o : Option Tenant) → get w.tenants ns ≡ o → IsFiled pools index (option_map_or (λ t. put_tenant ns (f t) w) o w)
      by None is = s
      by (Some t) is = put_filed ns (f t) w s (keeps t (s.tenant ns t is))

  pub map_filed : (f : Name → Tenant → Tenant) (w : World) → IsFiled pools index w
      → ((ns : Name) (t : Tenant) → get w.tenants ns ≡ Some t → IsFiledTenant pools (index ns) (λ n. has_key w.blocked (ns, n)) (f ns t)) →
      IsFiled pools index (record w { tenants = map_rows f w.tenants })
  map_filed f w s keeps = record {
    known = s.known;
    once = s.once;
    tenant = λ ns t is. let y = row_of_map names one_name f w.tenants ns t is in
        subst (IsFiledTenant pools (index ns) (λ n. has_key w.blocked (ns, n))) y.2 (keeps ns y.0 y.1);
  }

  -- ---- what no evaluation speaks of

  pub lists_filed : (w : World) (ready plans : List Key) → IsFiled pools index w → IsFiled pools index (record w { ready = ready; plans = plans })
  lists_filed w ready plans s = record { known = s.known; tenant = s.tenant; once = s.once }

  pub put_pool_filed : (pool : Name) (p : PoolRows) (w : World) → IsFiled pools index w → IsFiled pools index (put_pool pool p w)
  put_pool_filed pool p w s = record {
    tenant = s.tenant;
    once = s.once;
    known = λ name passes. ap is_some (get-insert names w.pools pool p name) ∙
        by name (eq_by_cmp name_cmp name pool) (s.known name passes);
  }
    where
      by : (name : Name) (b : Bool) → contains_key w.pools name ≡ true → is_some (cond b (Some p) (get w.pools name)) ≡ true
      by name true has = refl
      by name false has = has

  pub queue_filed : (w : World) (key : Key) → IsFiled pools index w → IsFiled pools index (queue w key)
  unfolding queue
  queue_filed w key s = by (evaluation_at w key)
    where
      by : (e : Option Evaluation) → IsFiled pools index (option_map_or (λ e. cond (is_busy w key.0 e.job) w (record w { ready = w.ready ++ key ∷ [] })) e w)
      by None = s
      by (Some e) = elim (is_busy w key.0 e.job) as (λ b. IsFiled pools index (cond b w (record w { ready = w.ready ++ key ∷ [] })))
          [ true ↦ s | false ↦ lists_filed w (w.ready ++ key ∷ []) w.plans s ]

-- ---- new evaluations

none_named : {A : Type 0} (m : ℕ) → None ≡ Some m → A
none_named m e = absurd (not_Some _ e)

pub at_least_zero : (n : ℕ) → 0 ≤ n
at_least_zero n = omega arith

pub zero_below : 0 < most_nacks
zero_below = omega arith

pub new_filed : (pools : Name → Bool) (last index : ℕ) (job : Name) (kind : JobKind) (priority : ℕ) (pool : Name) (trigger : Trigger) →
    is_name NameKind.Job job ≡ true → is_between 1 100 priority ≡ true → is_pool_name pool ≡ true → pools pool ≡ true
    → IsFiledEvaluation pools last index (new_evaluation job kind priority pool trigger)
new_filed pools last index job kind priority pool trigger named between pool_named there = record {
  named = λ i. named i && pool_named i;
  priority = between;
  exists = λ _. there;
  previous = λ m is. none_named m is;
  follower = λ m is. none_named m is;
  given_back = at_least_zero most_nacks;
  few_nacks = λ _. zero_below;
  created = at_least_zero index;
  modified = at_least_zero index;
}

-- an allocation for the end of which an evaluation may be made
pub record IsCause (pools : Name → Bool) (a : Allocation) : Type 0 where
  pub named : is_name NameKind.Job a.job ≡ true
  pub pool : is_pool_name a.pool ≡ true
  pub priority : is_between 1 100 a.priority ≡ true
  pub exists : pools a.pool ≡ true

module _ (pools : Name → Bool) (index : ℕ) (listed : ℕ → Bool) (t : Tenant) (s : IsFiledTenant pools index listed t) where
  pub with_evaluation_filed : (e : Evaluation) → IsFiledEvaluation pools t.evaluation_number index e → is_blocked e.status ≡ false →
      IsFiledTenant pools index listed (with_evaluation e t)
  with_evaluation_filed e f unblocked = (
    put_rows pools (t.evaluation_number + 1) index listed t.evaluations (grown_rows pools t.evaluation_number index listed t.evaluations s.0)
        (t.evaluation_number + 1) e (grown_evaluation pools t.evaluation_number index e f)
        (λ blocked. not_both blocked unblocked),
    s.1,
    s.2,
  )

  module _ (a : Allocation) (trigger : Trigger) where
    pub unblocked_for : is_blocked (evaluation_for t a trigger).status ≡ false
    unblocked_for = elim (get t.jobs a.job) as (λ (o : Option Job). is_blocked
        (option_map_or (λ (job : Job). evaluation_of a.job job.document trigger) o (new_evaluation a.job JobKind.Service a.priority a.pool trigger)).status
        ≡ false) [ None ↦ refl | Some j ↦ refl ]

    pub filed_for : IsCause pools a → IsFiledEvaluation pools t.evaluation_number index (evaluation_for t a trigger)
    filed_for cause = by (get t.jobs a.job) refl
      where
        by : (o : Option Job) → get t.jobs a.job ≡ o →
            IsFiledEvaluation pools t.evaluation_number index
            (option_map_or (λ (job : Job). evaluation_of a.job job.document trigger) o (new_evaluation a.job JobKind.Service a.priority a.pool trigger))
        by None at = new_filed pools t.evaluation_number index a.job JobKind.Service a.priority a.pool trigger cause.named cause.priority cause.pool
            cause.exists
        by (Some j) at = let f = s.1 a.job j at in
            new_filed pools t.evaluation_number index a.job j.document.kind j.document.priority j.document.pool trigger cause.named f.priority f.pool f.exists

module _ (pools : Name → Bool) (index : Name → ℕ) where
  pub make_in_filed : (ns : Name) (e : Evaluation) (w : World) (t : Tenant) → IsFiled pools index w →
      IsFiledTenant pools (index ns) (λ n. has_key w.blocked (ns, n)) t
      → IsFiledEvaluation pools t.evaluation_number (index ns) e → is_blocked e.status ≡ false → IsFiled pools index (make_in ns e w t)
  make_in_filed ns e w t s filed f unblocked = queue_filed pools index (put_tenant ns (with_evaluation e t) w) (ns, t.evaluation_number + 1)
      (put_filed pools index ns (with_evaluation e t) w s (with_evaluation_filed pools (index ns) (λ n. has_key w.blocked (ns, n)) t filed e f unblocked))

  pub make_filed : (ns : Name) (a : Allocation) (trigger : Trigger) (w : World) → IsFiled pools index w → IsCause pools a →
      IsFiled pools index (make ns (λ t. evaluation_for t a trigger) w)
  make_filed ns a trigger w s cause = by (get w.tenants ns) refl
    where
      by : (o : Option Tenant) → get w.tenants ns ≡ o → IsFiled pools index (option_map_or (λ t. make_in ns (evaluation_for t a trigger) w t) o w)
      by None is = s
      by (Some t) is = let r = s.tenant ns t is in make_in_filed ns (evaluation_for t a trigger) w t s r
          (filed_for pools (index ns) (λ n. has_key w.blocked (ns, n)) t r a trigger cause)
          (unblocked_for pools (index ns) (λ n. has_key w.blocked (ns, n)) t r a trigger)

  pub makes_filed : {A : Type 0} (ns_of : A → Name) (row_of : A → Allocation) (trigger : Trigger) (xs : List A) (w : World) → IsFiled pools index w →
      Each (λ x. IsCause pools (row_of x)) xs
      → IsFiled pools index (fold (λ y x. make (ns_of x) (λ t. evaluation_for t (row_of x) trigger) y) w xs)
  makes_filed ns_of row_of trigger [] w s each = s
  makes_filed ns_of row_of trigger (x ∷ xs) w s each = makes_filed ns_of row_of trigger xs (make (ns_of x) (λ t. evaluation_for t (row_of x) trigger) w)
      (make_filed (ns_of x) (row_of x) trigger w s each.0) each.1
