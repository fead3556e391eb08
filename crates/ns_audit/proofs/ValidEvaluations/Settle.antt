-- A sound world is filed; what every step does at its end keeps a world filed; and a filed world that is orderly has what is said of evaluations.
use Rattle.std.specs.Prelude.{◌≡◌, ◌≢◌, ℕ, ◌+◌, ◌≤◌, Bool, true, false, cond, not, List, [], ◌∷◌, map, Option, Some, None, filter, fold, is_some, option_map}
use Rattle.std.proofs.Common.{◌⊎◌, inl, inr, refl, sym, ap, subst, ◌∙◌, arith}
use Rattle.std.specs.FinMap.{get, get-entries, entries, entries_sorted, contains_key}
use Rattle.std.specs.Option.{option_map_or, option_and_then}
use Rattle.ns_types.specs.declared.evaluation.Evaluation.{Evaluation}
use Rattle.ns_types.specs.declared.job.Document.{Document}
use Rattle.ns_types.specs.declared.job.Job.{Job}
use Rattle.ns_types.specs.State.Limits.{is_between, is_distinct, is_pool_name, is_good_document}
use Rattle.ns_types.specs.State.Names.{Name, Key, ByNumber, same_name, same_key, has_key}
use Rattle.ns_types.specs.Working.Queue.{queue}
use Rattle.ns_types.specs.Settling.Releases.{released_classes, woken}
use Rattle.ns_types.specs.State.Rows.{World, Tenant, PoolRows, is_open, is_blocked, evaluation_at}
use Rattle.ns_types.specs.Settling.Settle.{pending, unblocked_in, wake, after_release, number_releases, is_touched, changes_evaluation, created_at}
use Rattle.ns_types.specs.Settling.Settle.{woken_row, stamped_evaluation, stamped, stamp_tenant, stamp, settle}
use Rattle.ns_types.specs.State.Tables.{map_rows}
use Rattle.ns_types.specs.Validity.{IsSound, IsSoundTenant, IsSoundEvaluation}
use Rattle.ns_types.proofs.Lists.{not_both}
use Rattle.ns_types.proofs.Named.{names, one_name, numbers as numbers_, one_number, same_name_is, same_name_refl, first_of_both, second_of_both}
use Rattle.ns_types.proofs.Tables.{get-map_rows, each_row}
use Rattle.ns_types.proofs.Tests.{same_Some}
use Rattle.ns_audit.specs.Orderly.{IsBlockedIn, IsListed, IsOrderly}
use Rattle.ns_audit.proofs.ValidEvaluations.Statement.{IsSoundInEvaluations}
use Rattle.ns_audit.proofs.Steady.Keeping.{more, row_of_map}
use Rattle.ns_audit.proofs.Steady.Workers.{at_tenant}
use Rattle.ns_audit.proofs.Alone.Orderly.{turned_name}
use Rattle.ns_audit.proofs.Steady.Resting.{woken_of_blocked}
use Rattle.ns_audit.proofs.ValidEvaluations.Filed.{IsFiledEvaluation, mapped_rows, IsFiledJob, IsFiledTenant, IsFiled, queue_filed}
use Rattle.ns_audit.proofs.ValidEvaluations.Pairs.{pairs_of, pairs_still, pairs_with, pairs_where, pairs_among, pairs_mapped, pairs_of_mapped}
use Rattle.ns_audit.proofs.ValidEvaluations.Pairs.{pairs_of_distinct, distinct_of_pairs, pairs_sorted, pairs_at}
use Rattle.ns_audit.proofs.ValidWorkers.Once.{has_key_still}

-- ---- at most one of a job is blocked

abbrev is_blocked_row : ℕ × Evaluation → Bool
is_blocked_row e = is_blocked e.1.status

-- of two blocked ones
abbrev DiffersInJob : ℕ × Evaluation → ℕ × Evaluation → Type 0
DiffersInJob x y = is_blocked_row x ≡ true → is_blocked_row y ≡ true → same_name x.1.job y.1.job ≡ false

module _ (rows : ByNumber Evaluation) where
  one_of_distinct : is_distinct same_name (map (λ (e : ℕ × Evaluation). e.1.job) (filter is_blocked_row (entries rows))) ≡ true
      → (m n : ℕ) (d e : Evaluation) → get rows m ≡ Some d → get rows n ≡ Some e → is_blocked d.status ≡ true → is_blocked e.status ≡ true → d.job ≡ e.job →
      m ≡ n
  one_of_distinct distinct m n d e a b p q same = by (pairs_at DiffersInJob (λ x y k on off_. turned_name x.1.job y.1.job (k off_ on)) (entries rows)
      (pairs_among (λ x y. same_name x.1.job y.1.job ≡ false) is_blocked_row (entries rows)
      (pairs_of_mapped (λ (e : ℕ × Evaluation). e.1.job) (λ i j. same_name i j ≡ false) (filter is_blocked_row (entries rows))
      (pairs_of_distinct same_name _ distinct)))
      m n d e (sym (get-entries rows m) ∙ a) (sym (get-entries rows n) ∙ b))
    where
      by : (m ≡ n) ⊎ DiffersInJob (m, d) (n, e) → m ≡ n
      by (inl is) = is
      by (inr k) = not_both (ap (λ j. same_name j e.job) same ∙ same_name_refl e.job) (k p q)

  distinct_of_one : ((m n : ℕ) (d e : Evaluation) → get rows m ≡ Some d → get rows n ≡ Some e → is_blocked d.status ≡ true → is_blocked e.status ≡ true →
      d.job ≡ e.job → m ≡ n)
      → is_distinct same_name (map (λ (e : ℕ × Evaluation). e.1.job) (filter is_blocked_row (entries rows))) ≡ true
  distinct_of_one one = distinct_of_pairs same_name _
      (pairs_mapped (λ (e : ℕ × Evaluation). e.1.job) (λ i j. same_name i j ≡ false) (filter is_blocked_row (entries rows))
      (pairs_where (λ x y. same_name x.1.job y.1.job ≡ false) is_blocked_row (entries rows)
      (pairs_of (λ (x y : ℕ × Evaluation). (get rows x.0 ≡ Some x.1) × (get rows y.0 ≡ Some y.1) × (x.0 ≢ y.0)) DiffersInJob
      (λ x y k p q. apart x y k p q (same_name x.1.job y.1.job) refl) (entries rows)
      (pairs_with (λ (x : ℕ × Evaluation). get rows x.0 ≡ Some x.1) (λ x y. x.0 ≢ y.0) (entries rows)
      (each_row numbers_ one_number (λ n e. get rows n ≡ Some e) rows (λ n e at. at))
      (pairs_sorted (entries rows) (entries_sorted rows))))))
    where
      apart : (x y : ℕ × Evaluation) → (get rows x.0 ≡ Some x.1) × (get rows y.0 ≡ Some y.1) × (x.0 ≢ y.0) → is_blocked_row x ≡ true → is_blocked_row y ≡ true →
          (b : Bool) → same_name x.1.job y.1.job ≡ b → b ≡ false
      apart x y k p q true same = absurd (k.2 (one x.0 y.0 x.1 y.1 k.0 k.1 p q (same_name_is x.1.job y.1.job same)))
      apart x y k p q false _ = refl

-- ---- a sound world is filed

abbrev pub index_in : World → Name → ℕ
index_in w ns = option_map_or (λ t. t.index) (get w.tenants ns) 0

abbrev pub pools_in : World → Name → Bool
pools_in w name = contains_key w.pools name

filed_of : (w : World) (ns : Name) (t : Tenant) → IsSoundTenant w ns t → (n : ℕ) (e : Evaluation) → get t.evaluations n ≡ Some e →
    IsFiledEvaluation (pools_in w) t.evaluation_number t.index e
filed_of w ns t s n e at = let r = s.evaluation n e at in record {
  named = r.named;
  priority = r.priority;
  exists = λ open_. (r.allowed open_).exists;
  previous = r.previous;
  follower = r.follower;
  given_back = r.given_back;
  few_nacks = r.few_nacks;
  created = r.created;
  modified = r.modified;
}

pub good_document : (d : Document) → is_good_document d ≡ true → (is_between 1 100 d.priority ≡ true) × (is_pool_name d.pool ≡ true)
good_document d good =
    let few = first_of_both _ _ (first_of_both _ _ (first_of_both _ _ (first_of_both _ _ (first_of_both _ _ good)))) in
    (first_of_both (is_between 1 100 d.priority) (is_pool_name d.pool) few, second_of_both (is_between 1 100 d.priority) (is_pool_name d.pool) few)

pub job_of_sound : (w : World) (ns : Name) (t : Tenant) → IsSoundTenant w ns t → (id : Name) (j : Job) → get t.jobs id ≡ Some j → IsFiledJob (pools_in w) j
job_of_sound w ns t s id j at = let r = s.job id j at in record {
  priority = (good_document j.document r.good).0;
  pool = (good_document j.document r.good).1;
  exists = r.allowed.exists;
}

pub sound_filed : (w : World) → IsSound w → IsFiled (pools_in w) (index_in w) w
sound_filed w s = record { known = λ name has. has; tenant = of_tenant; once = pairs_of_distinct same_key w.blocked s.blocked_once }
  where
    of_tenant : (ns : Name) (t : Tenant) → get w.tenants ns ≡ Some t → IsFiledTenant (pools_in w) (index_in w ns) (λ n. has_key w.blocked (ns, n)) t
    of_tenant ns t is = subst (λ i. IsFiledTenant (pools_in w) i (λ n. has_key w.blocked (ns, n)) t)
        (sym (ap (λ o. option_map_or (λ (t : Tenant). t.index) o 0) is)) (
          record {
            row = filed_of w ns t r;
            in_list = λ n e at blocked. r.blocked_listed n e at ∙ blocked;
            one = one_of_distinct t.evaluations r.one_blocked;
          },
          job_of_sound w ns t r,
          refl,
        )
      where
        r : IsSoundTenant w ns t
        r = s.tenant ns t is

-- ---- a filed and orderly world has what is said of evaluations

pub filed_sound : (pools : Name → Bool) (w : World) → IsFiled pools (index_in w) w → IsOrderly w → IsSoundInEvaluations w
filed_sound pools w s o = record {
  evaluation = λ ns t is n e at. evaluation ns t is n e at;
  one_blocked = λ ns t is. distinct_of_one t.evaluations (s.tenant ns t is).0.one;
  blocked_listed = λ ns t is n e at. listed ns t is n e at (has_key w.blocked (ns, n)) refl (is_blocked e.status) refl;
  blocked = λ key has. there key (o.blocked key.0 key.1 has);
  blocked_once = distinct_of_pairs same_key w.blocked s.once;
}
  where
    evaluation : (ns : Name) (t : Tenant) → get w.tenants ns ≡ Some t → (n : ℕ) (e : Evaluation) → get t.evaluations n ≡ Some e → IsSoundEvaluation w t n e
    evaluation ns t is n e at =
        let f = (s.tenant ns t is).0.row n e at in
        let index = (s.tenant ns t is).2 in
        record {
          below = (o.tenant ns t is).numbers n e at;
          named = f.named;
          priority = f.priority;
          allowed = λ open_. let a = (o.tenant ns t is).evaluation n e at open_ in
              record { exists = s.known e.pool (f.exists open_); permitted = a.permitted; its_quota = a.its_quota };
          previous = f.previous;
          follower = f.follower;
          given_back = f.given_back;
          few_nacks = f.few_nacks;
          created = subst (λ i. e.create_index ≤ i) (sym index) f.created;
          modified = subst (λ i. e.modify_index ≤ i) (sym index) f.modified;
        }

    listed : (ns : Name) (t : Tenant) → get w.tenants ns ≡ Some t → (n : ℕ) (e : Evaluation) → get t.evaluations n ≡ Some e → (a : Bool) →
        has_key w.blocked (ns, n) ≡ a → (b : Bool) → is_blocked e.status ≡ b → a ≡ b
    listed ns t is n e at true has true blocked = refl
    listed ns t is n e at false has false blocked = refl
    listed ns t is n e at true has false blocked =
        let b = at_tenant w IsBlockedIn ns n t is (o.blocked ns n has) in
        not_both (ap is_blocked (ap (λ (e : Evaluation). e.status) (same_Some _ _ (sym at ∙ b.is_row)) ∙ b.is_blocked)) blocked
    listed ns t is n e at false has true blocked = not_both ((s.tenant ns t is).0.in_list n e at blocked) has

    there : (key : Key) → IsListed w IsBlockedIn key.0 key.1 → is_some (evaluation_at w key) ≡ true
    there key l = ap is_some (ap (option_and_then (λ (t : Tenant). get t.evaluations key.1)) l.is_tenant ∙ l.entry.is_row)

-- ---- wakes

module _ (pools : Name → Bool) (index : Name → ℕ) where
  queues_filed : (keys : List Key) (w : World) → IsFiled pools index w → IsFiled pools index (fold queue w keys)
  queues_filed [] w s = s
  queues_filed (key ∷ keys) w s = queues_filed keys (queue w key) (queue_filed pools index w key s)

  -- what is woken was blocked, and so open
  wake_filed : (keys : List Key) (w : World) → ((key : Key) → has_key keys key ≡ true → has_key w.blocked key ≡ true) → IsOrderly w → IsFiled pools index w →
      IsFiled pools index (wake keys w)
  unfolding wake
  wake_filed keys w inside o s = queues_filed keys _
      (record { known = s.known; once = pairs_still (λ a b. same_key a b ≡ false) (λ key. not (has_key keys key)) w.blocked s.once; tenant = of_tenant })
    where
      was_open : (ns : Name) (t : Tenant) → get w.tenants ns ≡ Some t → (n : ℕ) (e : Evaluation) → get t.evaluations n ≡ Some e → has_key keys (ns, n) ≡ true →
          is_open e.status ≡ true
      was_open ns t is n e at has =
          let b = at_tenant w IsBlockedIn ns n t is (o.blocked ns n (inside (ns, n) has)) in
          ap is_open (ap (λ (e : Evaluation). e.status) (same_Some _ _ (sym at ∙ b.is_row)) ∙ b.is_blocked)

      of_row : (ns : Name) (t : Tenant) → get w.tenants ns ≡ Some t → (last_one index_one : ℕ) (n : ℕ) (e : Evaluation) → get t.evaluations n ≡ Some e →
          IsFiledEvaluation pools last_one index_one e → IsFiledEvaluation pools last_one index_one (woken_row keys ns n e)
      of_row ns t is last_one index_one n e at f = by (has_key keys (ns, n)) refl
        where
          by : (b : Bool) → has_key keys (ns, n) ≡ b → IsFiledEvaluation pools last_one index_one (cond b (pending e) e)
          by true has = let open_ = was_open ns t is n e at has in record {
            named = f.named;
            priority = f.priority;
            exists = λ _. f.exists open_;
            previous = f.previous;
            follower = f.follower;
            given_back = f.given_back;
            few_nacks = λ _. f.few_nacks open_;
            created = f.created;
            modified = f.modified;
          }
          by false has = f

      job : (ns : Name) (n : ℕ) (e : Evaluation) → (woken_row keys ns n e).job ≡ e.job
      job ns n e = elim (has_key keys (ns, n)) as (λ b. (cond b (pending e) e).job ≡ e.job) [ true ↦ refl | false ↦ refl ]

      status : (ns : Name) (n : ℕ) (e : Evaluation) → is_blocked (woken_row keys ns n e).status ≡ true → (is_blocked e.status ≡ true) ×
          (has_key w.blocked (ns, n) ≡ true → has_key (filter (λ key. not (has_key keys key)) w.blocked) (ns, n) ≡ true)
      status ns n e = by (has_key keys (ns, n)) refl
        where
          by : (b : Bool) → has_key keys (ns, n) ≡ b → is_blocked (cond b (pending e) e).status ≡ true → (is_blocked e.status ≡ true) ×
              (has_key w.blocked (ns, n) ≡ true → has_key (filter (λ key. not (has_key keys key)) w.blocked) (ns, n) ≡ true)
          by true has blocked = not_both blocked refl
          by false has blocked = (blocked, λ listed. has_key_still (λ key. not (has_key keys key)) w.blocked (ns, n) listed (ap not has))

      of_tenant : (ns : Name) (t' : Tenant) → get (map_rows (unblocked_in keys) w.tenants) ns ≡ Some t' →
          IsFiledTenant pools (index ns) (λ n. has_key (filter (λ key. not (has_key keys key)) w.blocked) (ns, n)) t'
      of_tenant ns t' at =
          let y = row_of_map names one_name (unblocked_in keys) w.tenants ns t' at in
          let r = s.tenant ns y.0 y.1 in
          subst (IsFiledTenant pools (index ns) (λ n. has_key (filter (λ key. not (has_key keys key)) w.blocked) (ns, n))) y.2 (
            mapped_rows pools y.0.evaluation_number (index ns) (index ns) (λ n. has_key w.blocked (ns, n))
                (λ n. has_key (filter (λ key. not (has_key keys key)) w.blocked) (ns, n)) y.0.evaluations (woken_row keys ns) r.0
                (λ n e e_at. of_row ns y.0 y.1 y.0.evaluation_number (index ns) n e e_at (r.0.row n e e_at)) (λ n e _. job ns n e) (λ n e _. status ns n e),
            r.1,
            r.2,
          )

  -- ---- release numbers

  number_releases_filed : (w w' x : World) → IsFiled pools index x → IsFiled pools index (number_releases w w' x)
  unfolding number_releases
  number_releases_filed w w' x s = record {
    tenant = s.tenant;
    once = s.once;
    known = λ name passes. ap is_some (get-map_rows names one_name (λ name pool. after_release (released_classes w w' name pool) pool) x.pools name) ∙
        still name (get x.pools name) (s.known name passes);
  }
    where
      still : (name : Name) (o : Option PoolRows) → is_some o ≡ true → is_some (option_map (λ pool. after_release (released_classes w w' name pool) pool) o)
          ≡ true
      still name None has = has
      still name (Some p) has = refl

-- ---- indexes

pub itself : (a : ℕ) → a ≤ a
itself a = omega arith

module _ (pools : Name → Bool) (listed : ℕ → Bool) (o t : Tenant) (s : IsFiledTenant pools o.index listed t)
    (made : (n : ℕ) (e : Evaluation) → get o.evaluations n ≡ Some e → e.create_index ≤ o.index) where
  created_before : (n : ℕ) (x : Option Evaluation) → get o.evaluations n ≡ x → created_at (o.index + 1) x (λ e. e.create_index) ≤ o.index + 1
  created_before n None at = itself (o.index + 1)
  created_before n (Some e) at = more e.create_index o.index (made n e at)

  stamped_row : (n : ℕ) (e : Evaluation) → IsFiledEvaluation pools t.evaluation_number o.index e →
      IsFiledEvaluation pools t.evaluation_number (o.index + 1) (stamped_evaluation (o.index + 1) o n e)
  stamped_row n e f = by (changes_evaluation o n e)
    where
      by : (b : Bool) → IsFiledEvaluation pools t.evaluation_number (o.index + 1)
          (cond b (record e { create_index = created_at (o.index + 1) (get o.evaluations n) (λ o. o.create_index); modify_index = o.index + 1 }) e)
      by true = record {
        named = f.named;
        priority = f.priority;
        exists = f.exists;
        previous = f.previous;
        follower = f.follower;
        given_back = f.given_back;
        few_nacks = f.few_nacks;
        created = created_before n (get o.evaluations n) refl;
        modified = itself (o.index + 1);
      }
      by false = record {
        named = f.named;
        priority = f.priority;
        exists = f.exists;
        previous = f.previous;
        follower = f.follower;
        given_back = f.given_back;
        few_nacks = f.few_nacks;
        created = more e.create_index o.index f.created;
        modified = more e.modify_index o.index f.modified;
      }

  stamped_job : (n : ℕ) (e : Evaluation) → (stamped_evaluation (o.index + 1) o n e).job ≡ e.job
  stamped_job n e = elim (changes_evaluation o n e) as
      (λ b. (cond b (record e { create_index = created_at (o.index + 1) (get o.evaluations n) (λ o. o.create_index); modify_index = o.index + 1 })
      e).job ≡ e.job) [ true ↦ refl | false ↦ refl ]

  stamped_status : (n : ℕ) (e : Evaluation) → (stamped_evaluation (o.index + 1) o n e).status ≡ e.status
  stamped_status n e = elim (changes_evaluation o n e) as
      (λ b. (cond b (record e { create_index = created_at (o.index + 1) (get o.evaluations n) (λ o. o.create_index); modify_index = o.index + 1 })
      e).status ≡ e.status) [ true ↦ refl | false ↦ refl ]

  stamped_filed : IsFiledTenant pools (o.index + 1) listed (stamped (o.index + 1) o t)
  stamped_filed = (
    mapped_rows pools t.evaluation_number o.index (o.index + 1) listed listed t.evaluations (stamped_evaluation (o.index + 1) o) s.0
        (λ n e at. stamped_row n e (s.0.row n e at)) (λ n e _. stamped_job n e)
        (λ n e _ blocked. (ap is_blocked (sym (stamped_status n e)) ∙ blocked, λ has. has)),
    s.1,
    refl,
  )

  touched_filed : IsFiledTenant pools (stamp_tenant (Some o) t).index listed (stamp_tenant (Some o) t)
  unfolding stamp_tenant
  touched_filed = elim (is_touched o t) as (λ b. IsFiledTenant pools (cond b (stamped (o.index + 1) o t) t).index listed
      (cond b (stamped (o.index + 1) o t) t)) [
        | true ↦ stamped_filed
        | false ↦ subst (λ i. IsFiledTenant pools i listed t) (sym s.2) s
      ]

stamp_filed : (pools : Name → Bool) (w x : World) →
    ((ns : Name) (t : Tenant) → get w.tenants ns ≡ Some t → (n : ℕ) (e : Evaluation) → get t.evaluations n ≡ Some e → e.create_index ≤ t.index)
    → IsFiled pools (index_in w) x → IsFiled pools (index_in (stamp w x)) (stamp w x)
unfolding stamp stamp_tenant
stamp_filed pools w x made s = record { known = s.known; once = s.once; tenant = of_tenant }
  where
    of_old : (ns : Name) (t : Tenant) (o : Option Tenant) → get w.tenants ns ≡ o →
        IsFiledTenant pools (option_map_or (λ t. t.index) o 0) (λ n. has_key x.blocked (ns, n)) t →
        IsFiledTenant pools (stamp_tenant o t).index (λ n. has_key x.blocked (ns, n)) (stamp_tenant o t)
    of_old ns t None is r = subst (λ i. IsFiledTenant pools i (λ n. has_key x.blocked (ns, n)) t) (sym r.2) r
    of_old ns t (Some o) is r = touched_filed pools (λ n. has_key x.blocked (ns, n)) o t r (made ns o is)

    of_tenant : (ns : Name) (t' : Tenant) → get (stamp w x).tenants ns ≡ Some t' →
        IsFiledTenant pools (index_in (stamp w x) ns) (λ n. has_key x.blocked (ns, n)) t'
    of_tenant ns t' at =
        let y = row_of_map names one_name (λ ns t. stamp_tenant (get w.tenants ns) t) x.tenants ns t' at in
        subst (λ i. IsFiledTenant pools i (λ n. has_key x.blocked (ns, n)) t') (sym (ap (λ o. option_map_or (λ (t : Tenant). t.index) o 0) at))
        (subst (λ t. IsFiledTenant pools t.index (λ n. has_key x.blocked (ns, n)) t) y.2 (of_old ns y.0 (get w.tenants ns) refl (s.tenant ns y.0 y.1)))

pub settle_filed : (pools : Name → Bool) (w w' : World) → IsSound w → IsOrderly w' → IsFiled pools (index_in w) w' →
    IsFiled pools (index_in (settle w w')) (settle w w')
unfolding settle
settle_filed pools w w' s o filed = stamp_filed pools w _ (λ ns t is n e at. ((s.tenant ns t is).evaluation n e at).created)
    (number_releases_filed pools (index_in w) w w' _ (wake_filed pools (index_in w) (woken w w') w' (woken_of_blocked w w') o filed))
