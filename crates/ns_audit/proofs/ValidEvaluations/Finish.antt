-- Finish keeps what is said of evaluations.
use Rattle.std.specs.Prelude.{◌≡◌, ◌≢◌, ℕ, ◌+◌, ◌≤◌, Bool, true, false, cond, not, T, List, [], ◌∷◌, ◌++◌, Option, Some, None, ◌&&◌, ◌||◌, find, is_some}
use Rattle.std.specs.Prelude.{option_map}
use Rattle.std.proofs.Common.{◌⊎◌, inl, inr, refl, sym, ap, subst, ◌∙◌}
use Rattle.std.specs.FinMap.{get, get-entries, get-insert, insert, entries, contains_key}
use Rattle.std.specs.Option.{option_map_or}
use Rattle.std.specs.Ordering.{eq_by_cmp, nat_cmp}
use Rattle.ns_types.specs.declared.evaluation.Evaluation.{Evaluation}
use Rattle.ns_types.specs.declared.evaluation.Status.{Status}
use Rattle.ns_types.specs.declared.name.NameKind.TheVariants as NameKind
use Rattle.ns_types.specs.declared.reply.Content.TheVariants as Content
use Rattle.ns_types.specs.declared.snapshot.Snapshot.{Snapshot}
use Rattle.ns_types.specs.Working.Worker.{Worker}
use Rattle.ns_types.specs.State.Limits.{is_pool_name}
use Rattle.ns_types.specs.State.Lists.{Each}
use Rattle.ns_types.specs.Settling.Making.{put_tenant, with_status}
use Rattle.ns_types.specs.State.Name.{is_name}
use Rattle.ns_types.specs.State.Names.{Name, Key, ByNumber, same_name, same_key, has_key}
use Rattle.ns_types.specs.Settling.Outcome.{NotEnabled, Done}
use Rattle.ns_types.specs.Working.Queue.{promote}
use Rattle.ns_types.specs.Settling.Releases.{missed}
use Rattle.ns_types.specs.State.Rows.{World, Tenant, PoolRows, is_open, is_blocked}
use Rattle.ns_types.specs.Validity.{IsSound}
use Rattle.ns_types.specs.Working.Work.{without_worker, without_key, end_of, needs_follower, follower_of, blocked_of, without_blocked, cancel_blocked, ended}
use Rattle.ns_types.specs.Working.Work.{with_follower, followed, may_finish, finished, finish_for, finish}
use Rattle.ns_types.proofs.Elements.{each_found}
use Rattle.ns_types.proofs.Lists.{not_both, left_none, right_none, any_part}
use Rattle.ns_types.proofs.Named.{numbers as numbers_, one_number, same_name_is, same_name_refl, same_number_refl, first_of_both, second_of_both, same_key_is}
use Rattle.ns_types.proofs.Named.{same_key_refl}
use Rattle.ns_types.proofs.Tables.{tied, each_row}
use Rattle.ns_types.proofs.Tests.{not_Some, same_Some}
use Rattle.ns_audit.specs.Orderly.{IsBlockedIn}
use Rattle.ns_audit.proofs.Steady.Keeping.{elsewhere, above, more}
use Rattle.ns_audit.proofs.Steady.Finish.{same_blocked, shut_end}
use Rattle.ns_audit.proofs.Steady.Work.{pending_not_blocked}
use Rattle.ns_audit.proofs.Steady.Workers.{at_tenant, find_each}
use Rattle.ns_types.proofs.Leads.{Leads, leads_if, leads_keeping}
use Rattle.ns_audit.proofs.Alone.Orderly.{orderly, blocked_is}
use Rattle.ns_audit.proofs.ValidEvaluations.Filed.{IsFiledEvaluation, IsFiledRows, grown_rows, relisted_rows, put_rows, replaced_rows, IsFiledTenant, IsFiled}
use Rattle.ns_audit.proofs.ValidEvaluations.Filed.{IsFiledBeside, beside, put_beside, at_least_zero, zero_below}
use Rattle.ns_audit.proofs.ValidEvaluations.Pairs.{pairs_still, pairs_append}
use Rattle.ns_audit.proofs.ValidEvaluations.Settle.{index_in, pools_in, sound_filed, itself}
use Rattle.ns_audit.proofs.ValidEvaluations.Work.{held_pending, promote_filed}
use Rattle.ns_audit.proofs.ValidWorkers.Once.{has_key_still, has_key_last}

-- ---- the list of blocked ones

other_key : (ns : Name) (k m : ℕ) → m ≢ k → same_key (ns, k) (ns, m) ≡ false
other_key ns k m differs = by (same_key (ns, k) (ns, m)) refl
  where
    by : (b : Bool) → same_key (ns, k) (ns, m) ≡ b → b ≡ false
    by true same = absurd (differs (sym (same_key_is (ns, k) (ns, m) same).1))
    by false _ = refl

other_name : (ns other : Name) (k m : ℕ) → other ≢ ns → same_key (ns, k) (other, m) ≡ false
other_name ns other k m differs = by (same_key (ns, k) (other, m)) refl
  where
    by : (b : Bool) → same_key (ns, k) (other, m) ≡ b → b ≡ false
    by true same = absurd (differs (sym (same_key_is (ns, k) (other, m) same).0))
    by false _ = refl

key_still : (keys : List Key) (k key : Key) → has_key keys key ≡ true → has_key (keys ++ k ∷ []) key ≡ true
key_still [] k key has = absurd (subst T (sym has) tt)
key_still (x ∷ xs) k key has = by (key_still xs k key) (same_key key x) has
  where
    by : (has_key xs key ≡ true → has_key (xs ++ k ∷ []) key ≡ true) → (b : Bool) → (b || has_key xs key) ≡ true → (b || has_key (xs ++ k ∷ []) key) ≡ true
    by rest true has = refl
    by rest false has = rest has

-- a key that is not listed is none of those that are
unlisted : (keys : List Key) (k : Key) → has_key keys k ≡ false → Each (λ x. same_key x k ≡ false) keys
unlisted [] k none = tt
unlisted (x ∷ xs) k none = (by (same_key x k) refl, unlisted xs k (right_none (same_key k x) _ none))
  where
    by : (b : Bool) → same_key x k ≡ b → b ≡ false
    by true same = not_both (ap (same_key k) (λ i. ((same_key_is x k same).0 i, (same_key_is x k same).1 i)) ∙ same_key_refl k)
        (left_none (same_key k x) _ none)
    by false _ = refl

-- ---- the job's blocked evaluation

none_found : {A : Type 0} (f : A → Bool) (xs : List A) → find f xs ≡ None → Each (λ x. f x ≡ false) xs
none_found f [] is = tt
none_found f (x ∷ xs) is = by (none_found f xs) (f x) refl is
  where
    by : (find f xs ≡ None → Each (λ x. f x ≡ false) xs) → (b : Bool) → f x ≡ b → cond b (Some x) (find f xs) ≡ None → (f x ≡ false) ×
        Each (λ x. f x ≡ false) xs
    by rest true t is = absurd (not_Some _ (sym is))
    by rest false t is = (t, rest is)

-- none of the job is blocked
abbrev NoneBlocked : Name → ByNumber Evaluation → Type 0
NoneBlocked job rows = (m : ℕ) (d : Evaluation) → get rows m ≡ Some d → is_blocked d.status ≡ true → d.job ≢ job

record IsBlockedOf (rows : ByNumber Evaluation) (job : Name) (k : ℕ) : Type 0 where
  row : Evaluation
  is_row : get rows k ≡ Some row
  is_so : is_blocked row.status ≡ true
  its_job : row.job ≡ job

module _ (t : Tenant) (job : Name) where
  passes : ℕ × Evaluation → Bool
  passes e = same_name job e.1.job && is_blocked e.1.status

  blocked_there : (k : ℕ) → blocked_of t job ≡ Some k → IsBlockedOf t.evaluations job k
  unfolding passes
  blocked_there k is = by (find passes (entries t.evaluations)) refl is
    where
      by : (x : Option (ℕ × Evaluation)) → find passes (entries t.evaluations) ≡ x → option_map (λ e. e.0) x ≡ Some k → IsBlockedOf t.evaluations job k
      by None found is = absurd (not_Some _ is)
      by (Some x) found is =
          let y = find_each (λ e. get t.evaluations e.0 ≡ Some e.1) passes (entries t.evaluations) x
          (each_row numbers_ one_number (λ k e. get t.evaluations k ≡ Some e) t.evaluations (λ k e at. at)) found in
          subst (IsBlockedOf t.evaluations job) (same_Some _ _ is)
          (record {
            row = x.1;
            is_row = y.0;
            is_so = second_of_both (same_name job x.1.job) _ y.1;
            its_job =
                sym (same_name_is job x.1.job (first_of_both (same_name job x.1.job) _ y.1));
          })

  none_blocked : blocked_of t job ≡ None → NoneBlocked job t.evaluations
  unfolding passes
  none_blocked is m d at blocked same = by (find passes (entries t.evaluations)) refl is
    where
      by : (x : Option (ℕ × Evaluation)) → find passes (entries t.evaluations) ≡ x → option_map (λ e. e.0) x ≡ None → ⊥
      by None found is = not_both (λ i. (ap (same_name job) same ∙ same_name_refl job) i && blocked i)
          (each_found one_number (λ e. passes e ≡ false) (entries t.evaluations) (none_found passes (entries t.evaluations) found) m d
          (sym (get-entries t.evaluations m) ∙ at))
      by (Some x) found is = not_Some _ (sym is)

-- ---- rows

row_beside : (rows : ByNumber Evaluation) (k : ℕ) (v : Evaluation) (q : ℕ) (x : Evaluation) → get (insert rows k v) q ≡ Some x → ((q ≡ k) × (v ≡ x))
    ⊎ ((q ≢ k) × (get rows q ≡ Some x))
row_beside rows k v q x is = by (eq_by_cmp nat_cmp q k) refl (sym (get-insert numbers_ rows k v q) ∙ is)
  where
    by : (b : Bool) → eq_by_cmp nat_cmp q k ≡ b → cond b (Some v) (get rows q) ≡ Some x → ((q ≡ k) × (v ≡ x)) ⊎ ((q ≢ k) × (get rows q ≡ Some x))
    by true same is = inl (tied one_number q k same, same_Some v x is)
    by false other is = inr ((λ same. not_both (ap (λ j. eq_by_cmp nat_cmp j k) same ∙ same_number_refl k) other), is)

-- with another status that is not open
shut_row : (pools : Name → Bool) (last index : ℕ) (e : Evaluation) (status : Status) → is_open status ≡ false → IsFiledEvaluation pools last index e →
    IsFiledEvaluation pools last index (record e { status = status })
shut_row pools last index e status shut f = record {
  named = f.named;
  priority = f.priority;
  exists = λ open_. not_both open_ shut;
  previous = f.previous;
  follower = f.follower;
  given_back = f.given_back;
  few_nacks = λ open_. not_both open_ shut;
  created = f.created;
  modified = f.modified;
}

with_follower_row : (pools : Name → Bool) (last index : ℕ) (e : Evaluation) (number : ℕ) → number ≤ last → IsFiledEvaluation pools last index e →
    IsFiledEvaluation pools last index (record e { follower = Some number })
with_follower_row pools last index e number low f = record {
  named = f.named;
  priority = f.priority;
  exists = f.exists;
  previous = f.previous;
  follower = λ m is. subst (λ m. m ≤ last) (same_Some _ _ is) low;
  given_back = f.given_back;
  few_nacks = f.few_nacks;
  created = f.created;
  modified = f.modified;
}

-- ---- the follower comes

module _ (pools : Name → Bool) (index : ℕ) (listed : ℕ → Bool) (t : Tenant) (s : IsFiledTenant pools index listed t) (n : ℕ) (f : Evaluation)
    (good : IsFiledEvaluation pools (t.evaluation_number + 1) index f) (only : is_blocked f.status ≡ true → (listed (t.evaluation_number + 1) ≡ true) ×
    NoneBlocked f.job t.evaluations) where
  abbrev next : ℕ
  next = t.evaluation_number + 1

  grown : IsFiledRows pools next index listed t.evaluations
  grown = grown_rows pools t.evaluation_number index listed t.evaluations s.0

  follower_filed : IsFiledTenant pools index listed (with_follower n f t)
  follower_filed = by (get t.evaluations n) refl
    where
      tied_row : Option Evaluation → Tenant
      tied_row o = option_map_or (λ e. record t { evaluations = insert t.evaluations n (record e { follower = Some (t.evaluation_number + 1) }) }) o t

      put : (rows : ByNumber Evaluation) → IsFiledRows pools next index listed rows → (is_blocked f.status ≡ true → NoneBlocked f.job rows) →
          IsFiledRows pools next index listed (insert rows next f)
      put rows filed none = put_rows pools next index listed rows filed next f good
          (λ blocked. record { in_list = (only blocked).0; one = λ m d at d_blocked same. absurd (none blocked m d at d_blocked same) })

      by : (o : Option Evaluation) → get t.evaluations n ≡ o →
          IsFiledTenant pools index listed (record (tied_row o) {
            evaluation_number = t.evaluation_number + 1;
            evaluations =
                insert (tied_row o).evaluations (t.evaluation_number + 1) f;
          })
      by None at = (put t.evaluations grown (λ blocked. (only blocked).1), s.1, s.2)
      by (Some e) at = (
        put (insert t.evaluations n (record e { follower = Some next }))
            (replaced_rows pools next index listed t.evaluations grown n e (record e { follower = Some next }) at refl refl
            (with_follower_row pools next index e next (itself next) (grown.row n e at)))
            (λ blocked m d d_at d_blocked same. still (only blocked).1 m d d_blocked same
            (row_beside t.evaluations n (record e { follower = Some next }) m d d_at)),
        s.1,
        s.2,
      )
        where
          still : NoneBlocked f.job t.evaluations → (m : ℕ) (d : Evaluation) → is_blocked d.status ≡ true → d.job ≡ f.job →
              ((m ≡ n) × (record e { follower = Some (t.evaluation_number + 1) } ≡ d)) ⊎ ((m ≢ n) × (get t.evaluations m ≡ Some d)) → ⊥
          still none m d blocked same (inl is) = none n e at (ap (λ (x : Evaluation). is_blocked x.status) is.1 ∙ blocked)
              (ap (λ (x : Evaluation). x.job) is.1 ∙ same)
          still none m d blocked same (inr is) = none m d is.1 blocked same

-- ---- the evaluation has ended, and the job's blocked one is canceled

record IsEnded (pools : Name → Bool) (index : Name → ℕ) (ns job : Name) (number : ℕ) (w : World) (t : Tenant) : Type 0 where
  filed : IsFiledTenant pools (index ns) (λ m. has_key w.blocked (ns, m)) t
  others : IsFiledBeside pools index ns w
  none : NoneBlocked job t.evaluations
  same_number : t.evaluation_number ≡ number
  fresh : has_key w.blocked (ns, number + 1) ≡ false

module _ (w : World) (s : IsSound w) (ns : Name) (number : ℕ) (t : Tenant) (worker : Worker) (e : Evaluation) (is : get w.tenants ns ≡ Some t)
    (has : get t.workers number ≡ Some worker) (at : get t.evaluations worker.evaluation ≡ Some e) where
  abbrev listed : ℕ → Bool
  listed n = has_key w.blocked (ns, n)

  all_filed : IsFiled (pools_in w) (index_in w) w
  all_filed = sound_filed w s

  its : IsFiledTenant (pools_in w) (index_in w ns) listed t
  its = all_filed.tenant ns t is

  pending : e.status ≡ Status.Pending
  pending = held_pending w s ns t is number worker has e at

  abbrev closed : Evaluation
  closed = record e { status = end_of worker }

  abbrev t1 : Tenant
  t1 = record (without_worker number t) { evaluations = insert t.evaluations worker.evaluation closed }

  rows1 : IsFiledRows (pools_in w) t.evaluation_number (index_in w ns) listed t1.evaluations
  rows1 = put_rows (pools_in w) t.evaluation_number (index_in w ns) listed t.evaluations its.0 worker.evaluation closed
      (shut_row (pools_in w) t.evaluation_number (index_in w ns) e (end_of worker) (shut_end worker).0 (its.0.row worker.evaluation e at))
      (λ blocked. not_both blocked (shut_end worker).1)

  fresh_key : has_key w.blocked (ns, t.evaluation_number + 1) ≡ false
  fresh_key = by (has_key w.blocked (ns, t.evaluation_number + 1)) refl
    where
      by : (b : Bool) → has_key w.blocked (ns, t.evaluation_number + 1) ≡ b → b ≡ false
      by true has = let b = at_tenant w IsBlockedIn ns (t.evaluation_number + 1) t is ((orderly w s).blocked ns (t.evaluation_number + 1) has) in
          absurd (above _ _ ((s.tenant ns t is).evaluation (t.evaluation_number + 1) b.row b.is_row).below refl)
      by false _ = refl

  ended_by : (o : Option ℕ) → blocked_of t e.job ≡ o
      → IsEnded (pools_in w) (index_in w) ns e.job t.evaluation_number (option_map_or (λ n. record w { blocked = without_key (ns, n) w.blocked }) o w)
      (option_map_or (λ n. with_status n Status.Canceled t1) o t1)
  ended_by None none = record {
    filed = (rows1, its.1, its.2);
    others = beside (pools_in w) (index_in w) ns w all_filed;
    none = λ m d d_at blocked same. by m d blocked same (row_beside t.evaluations worker.evaluation closed m d d_at);
    same_number = refl;
    fresh = fresh_key;
  }
    where
      by : (m : ℕ) (d : Evaluation) → is_blocked d.status ≡ true → d.job ≡ e.job → ((m ≡ worker.evaluation) × (closed ≡ d))
          ⊎ ((m ≢ worker.evaluation) × (get t.evaluations m ≡ Some d)) → ⊥
      by m d blocked same (inl x) = not_both (ap (λ (x : Evaluation). is_blocked x.status) x.1 ∙ blocked) (shut_end worker).1
      by m d blocked same (inr x) = none_blocked t e.job none m d x.1 blocked same
  ended_by (Some k) some = subst (IsEnded (pools_in w) (index_in w) ns e.job t.evaluation_number (record w { blocked = without_key (ns, k) w.blocked }))
      (sym is_canceled) (record {
        filed = (
          relisted_rows (pools_in w) t.evaluation_number (index_in w ns) listed (λ m. has_key (without_key (ns, k) w.blocked) (ns, m))
              (insert t1.evaluations k canceled) rows2 (λ m d d_at blocked in_list.
              has_key_still (λ other. not (same_key (ns, k) other)) w.blocked (ns, m) in_list (ap not (other_key ns k m (not_canceled m d d_at blocked).0))),
          its.1,
          its.2,
        );
        others = record {
          known = all_filed.known;
          once = pairs_still (λ a b. same_key a b ≡ false) (λ other. not (same_key (ns, k) other)) w.blocked all_filed.once;
          tenant = λ other x differs x_at. let r = all_filed.tenant other x x_at in (
            relisted_rows (pools_in w) x.evaluation_number (index_in w other) (λ m. has_key w.blocked (other, m))
                (λ m. has_key (without_key (ns, k) w.blocked) (other, m)) x.evaluations r.0 (λ m d _ _ in_list.
                has_key_still (λ key. not (same_key (ns, k) key)) w.blocked (other, m) in_list (ap not (other_name ns other k m differs))),
            r.1,
            r.2,
          );
        };
        none = λ m d d_at blocked same. let x = not_canceled m d d_at blocked in
            x.0 (rows1.one m k d b.row x.1 kept_row blocked b.is_so (same ∙ sym b.its_job));
        same_number = refl;
        fresh = any_part (λ other. not (same_key (ns, k) other)) (same_key (ns, t.evaluation_number + 1)) w.blocked fresh_key;
      })
    where
      b : IsBlockedOf t.evaluations e.job k
      b = blocked_there t e.job k some

      canceled : Evaluation
      canceled = record b.row { status = Status.Canceled }

      kept_row : get t1.evaluations k ≡ Some b.row
      kept_row = elsewhere t.evaluations worker.evaluation k closed b.row (λ same. pending_not_blocked e.status pending
          (ap (λ (x : Evaluation). x.status) (same_Some _ _ (sym at ∙ ap (get t.evaluations) (sym same) ∙ b.is_row)) ∙ blocked_is b.row.status b.is_so))
          b.is_row

      is_canceled : with_status k Status.Canceled t1 ≡ record t1 { evaluations = insert t1.evaluations k canceled }
      is_canceled = ap (λ o. option_map_or (λ e. record t1 { evaluations = insert t1.evaluations k (record e { status = Status.Canceled }) }) o t1) kept_row

      rows2 : IsFiledRows (pools_in w) t.evaluation_number (index_in w ns) listed (insert t1.evaluations k canceled)
      rows2 = put_rows (pools_in w) t.evaluation_number (index_in w ns) listed t1.evaluations rows1 k canceled
          (shut_row (pools_in w) t.evaluation_number (index_in w ns) b.row Status.Canceled refl (rows1.row k b.row kept_row)) (λ blocked. not_both blocked refl)

      not_canceled : (m : ℕ) (d : Evaluation) → get (insert t1.evaluations k canceled) m ≡ Some d → is_blocked d.status ≡ true → (m ≢ k) ×
          (get t1.evaluations m ≡ Some d)
      not_canceled m d d_at blocked = by (row_beside t1.evaluations k canceled m d d_at)
        where
          by : ((m ≡ k) × (canceled ≡ d)) ⊎ ((m ≢ k) × (get t1.evaluations m ≡ Some d)) → (m ≢ k) × (get t1.evaluations m ≡ Some d)
          by (inl x) = not_both (ap (λ (x : Evaluation). is_blocked x.status) x.1 ∙ blocked) refl
          by (inr x) = x

  is_ended : IsEnded (pools_in w) (index_in w) ns e.job t.evaluation_number (without_blocked ns e.job t w) (ended number worker e (end_of worker) t)
  is_ended = subst (λ x. IsEnded (pools_in w) (index_in w) ns e.job t.evaluation_number (without_blocked ns e.job t w) (cancel_blocked e.job x)) (sym closes)
      (subst (λ o. IsEnded (pools_in w) (index_in w) ns e.job t.evaluation_number (without_blocked ns e.job t w)
      (option_map_or (λ n. with_status n Status.Canceled t1) o t1))
      (sym (same_blocked t t1 e.job worker.evaluation e (end_of worker) at pending (shut_end worker).1 refl)) (ended_by (blocked_of t e.job) refl))
    where
      closes : with_status worker.evaluation (end_of worker) (without_worker number t) ≡ t1
      closes = ap (λ o. option_map_or (λ e. record (without_worker number t)
          { evaluations = insert t.evaluations worker.evaluation (record e { status = end_of worker }) }) o (without_worker number t)) at

-- ---- Finish

module _ (w : World) (s : IsSound w) (ns : Name) (number : ℕ) (t : Tenant) (worker : Worker) (e : Evaluation) (kept : Snapshot)
    (is : get w.tenants ns ≡ Some t) (has : get t.workers number ≡ Some worker) (at : get t.evaluations worker.evaluation ≡ Some e)
    (keeps : worker.kept ≡ Some kept) where
  abbrev w1 : World
  w1 = without_blocked ns e.job t w

  abbrev t2 : Tenant
  t2 = ended number worker e (end_of worker) t

  over : IsEnded (pools_in w) (index_in w) ns e.job t.evaluation_number w1 t2
  over = is_ended w s ns number t worker e is has at

  there : contains_key w.pools kept.pool ≡ true
  there = (((s.tenant ns t is).worker number worker has).snapshot kept keeps).allowed.exists

  pool_named : is_pool_name kept.pool ≡ true
  pool_named = by (get w.pools kept.pool) refl there
    where
      by : (o : Option PoolRows) → get w.pools kept.pool ≡ o → is_some o ≡ true → is_pool_name kept.pool ≡ true
      by None pool_at some = absurd (subst T (sym some) tt)
      by (Some p) pool_at some = (s.pool kept.pool p pool_at).named

  good : (status : Status) → IsFiledEvaluation (pools_in w) (t2.evaluation_number + 1) (index_in w ns) (record (follower_of e worker kept) { status = status })
  good status =
      let f = ((sound_filed w s).tenant ns t is).0.row worker.evaluation e at in
      let r = (s.tenant ns t is).evaluation worker.evaluation e at in
      record {
        named = λ i. first_of_both (is_name NameKind.Job e.job) (is_pool_name e.pool) f.named i && pool_named i;
        priority = f.priority;
        exists = λ _. there;
        previous = λ m m_is. subst (λ m. m ≤ t2.evaluation_number + 1) (same_Some worker.evaluation m m_is)
            (subst (λ n. worker.evaluation ≤ n + 1) (sym over.same_number) (more _ _ r.below));
        follower = λ m m_is. absurd (not_Some _ m_is);
        given_back = at_least_zero 3;
        few_nacks = λ _. zero_below;
        created = at_least_zero (index_in w ns);
        modified = at_least_zero (index_in w ns);
      }

  followed_filed : (late : Bool) → IsFiled (pools_in w) (index_in w) (followed ns worker (follower_of e worker kept) t2 late w1)
  followed_filed true = put_beside (pools_in w) (index_in w) ns
      (with_follower worker.evaluation (record (follower_of e worker kept) { status = Status.Pending }) t2) w1 over.others
      (follower_filed (pools_in w) (index_in w ns) (λ m. has_key w1.blocked (ns, m)) t2 over.filed worker.evaluation
      (record (follower_of e worker kept) { status = Status.Pending }) (good Status.Pending) (λ blocked. not_both blocked refl))
  followed_filed false = put_beside (pools_in w) (index_in w) ns (with_follower worker.evaluation (follower_of e worker kept) t2)
      (record w1 { blocked = w1.blocked ++ (ns, t2.evaluation_number + 1) ∷ [] }) (record {
        known = over.others.known;
        once = pairs_append (λ a b. same_key a b ≡ false) w1.blocked (ns, t2.evaluation_number + 1) over.others.once
            (unlisted w1.blocked (ns, t2.evaluation_number + 1) (ap (λ n. has_key w1.blocked (ns, n + 1)) over.same_number ∙ over.fresh));
        tenant = λ other x differs x_at. let r = over.others.tenant other x differs x_at in (
          relisted_rows (pools_in w) x.evaluation_number (index_in w other) (λ m. has_key w1.blocked (other, m))
              (λ m. has_key (w1.blocked ++ (ns, t2.evaluation_number + 1) ∷ []) (other, m)) x.evaluations r.0
              (λ m d _ _ in_list. key_still w1.blocked (ns, t2.evaluation_number + 1) (other, m) in_list),
          r.1,
          r.2,
        );
      }) (follower_filed (pools_in w) (index_in w ns) (λ m. has_key (w1.blocked ++ (ns, t2.evaluation_number + 1) ∷ []) (ns, m)) t2 (
        relisted_rows (pools_in w) t2.evaluation_number (index_in w ns) (λ m. has_key w1.blocked (ns, m))
            (λ m. has_key (w1.blocked ++ (ns, t2.evaluation_number + 1) ∷ []) (ns, m)) t2.evaluations over.filed.0
            (λ m d _ _ in_list. key_still w1.blocked (ns, t2.evaluation_number + 1) (ns, m) in_list),
        over.filed.1,
        over.filed.2,
      )
      worker.evaluation (follower_of e worker kept) (good Status.Blocked) (λ _. (has_key_last w1.blocked (ns, t2.evaluation_number + 1), over.none)))

  finished_filed : Leads (IsFiled (pools_in w) (index_in w)) (finished number ns w t worker e kept)
  finished_filed = leads_if _ (needs_follower worker kept)
      (Done (Content.Finished (end_of worker) (Some (t.evaluation_number + 1)))
      (promote ns e.job (followed ns worker (follower_of e worker kept) t2 (missed w kept (follower_of e worker kept)) w1)))
      (Done (Content.Finished (end_of worker) None) (promote ns e.job (put_tenant ns t2 w1)))
      (λ _. promote_filed (pools_in w) (index_in w) ns e.job _ (followed_filed (missed w kept (follower_of e worker kept))))
      (λ _. promote_filed (pools_in w) (index_in w) ns e.job _ (put_beside (pools_in w) (index_in w) ns t2 w1 over.others over.filed))

pub finish_filed : (w : World) → IsSound w → (number : ℕ) (ns : Name) → Leads (IsFiled (pools_in w) (index_in w)) (finish number ns w)
unfolding finish
finish_filed w s number ns = leads_keeping _ number ns w (finish_for number ns w) (λ t worker e kept is has at keeps.
    leads_if _ (may_finish worker kept) (finished number ns w t worker e kept) NotEnabled (λ _. finished_filed w s ns number t worker e kept is has at keeps)
    (λ _. tt))
