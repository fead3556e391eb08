-- Changes of one namespace, and of the lists, that keep a world orderly.
use Rattle.std.specs.Prelude.{◌≡◌, ◌≢◌, ℕ, ◌+◌, ◌≤◌, Bool, true, false, cond, T, List, [], ◌∷◌, ◌++◌, Option, Some, None, ◌&&◌, ◌||◌, filter, option_map}
use Rattle.std.proofs.Common.{◌⊎◌, inl, inr, refl, sym, ap, subst, ◌∙◌, arith}
use Rattle.std.specs.Cmp.{IsTotalOrder}
use Rattle.std.specs.declared.cmp.Ordering.{Ordering}
use Rattle.std.specs.FinMap.{FinMap, IsAntisymmetric, get, get-insert, insert}
use Rattle.std.specs.List.{list_any}
use Rattle.std.specs.Option.{option_map_or, option_and_then}
use Rattle.std.specs.Ordering.{eq_by_cmp, nat_cmp}
use Rattle.ns_types.specs.declared.allocation.Allocation.{Allocation}
use Rattle.ns_types.specs.declared.evaluation.Evaluation.{Evaluation}
use Rattle.ns_types.specs.declared.evaluation.Status.TheVariants as Status
use Rattle.ns_types.specs.declared.job.Job.{Job}
use Rattle.ns_types.specs.Working.Worker.{Worker}
use Rattle.ns_types.specs.Settling.Making.{put_tenant, with_evaluation, make_in}
use Rattle.ns_types.specs.State.Names.{Name, Key, ByName, ByNumber, same_name, same_key, has_key}
use Rattle.ns_types.specs.Working.Queue.{queue, is_busy, is_of_job}
use Rattle.ns_types.specs.State.Rows.{World, Tenant, is_open, is_live, evaluation_at}
use Rattle.ns_types.specs.Access.Sharing.{permits}
use Rattle.ns_types.specs.State.Tables.{map_rows, any_row}
use Rattle.ns_types.proofs.Lists.{not_both, right_none}
use Rattle.ns_types.proofs.Named.{names, one_name, numbers as numbers_, one_number, same_name_is, same_name_refl, same_number_refl, same_key_is}
use Rattle.std.proofs.lemmas.Bool.{or_right}
use Rattle.ns_types.proofs.Tables.{get-map_rows, tied, none_of_any}
use Rattle.ns_types.proofs.Tests.{not_Some, same_Some, either_of}
use Rattle.ns_types.proofs.TableRows.{row_of_insert}
use Rattle.ns_audit.specs.Orderly.{IsAllowedTo, IsPendingIn, IsOrderlyTenant, IsReadyIn, IsBlockedIn, IsListed, IsOrderly}

pub row_of_map : {K X : Type 0} {R : K → K → Ordering} (o : IsTotalOrder R) (same : IsAntisymmetric R) (f : K → X → X) (m : FinMap R X) (q : K) (x : X) →
    get (map_rows f m) q ≡ Some x → (y : X) × (get m q ≡ Some y) × (f q y ≡ x)
row_of_map {X = X} o same f m q x is = by (get m q) refl (sym (get-map_rows o same f m q) ∙ is)
  where
    by : (y : Option X) → get m q ≡ y → option_map (f q) y ≡ Some x → (y : X) × (get m q ≡ Some y) × (f q y ≡ x)
    by None at is = absurd (not_Some _ is)
    by (Some y) at is = (y, at, same_Some _ _ is)

pub at_inserted : {K X : Type 0} {R : K → K → Ordering} (o : IsTotalOrder R) (m : FinMap R X) (k : K) (v : X) → eq_by_cmp R k k ≡ true →
    get (insert m k v) k ≡ Some v
at_inserted o m k v itself = get-insert o m k v k ∙ ap (λ b. cond b (Some v) (get m k)) itself

pub elsewhere : {X : Type 0} (m : ByNumber X) (k n : ℕ) (v x : X) → n ≢ k → get m n ≡ Some x → get (insert m k v) n ≡ Some x
elsewhere m k n v x differs is = get-insert numbers_ m k v n ∙ by (eq_by_cmp nat_cmp n k) refl
  where
    by : (b : Bool) → eq_by_cmp nat_cmp n k ≡ b → cond b (Some v) (get m n) ≡ Some x
    by true same = absurd (differs (tied one_number n k same))
    by false _ = is

pub above : (n m : ℕ) → n ≤ m → n ≡ m + 1 → ⊥
above n m le e = omega arith

pub more : (n m : ℕ) → n ≤ m → n ≤ m + 1
more n m le = omega arith

last_one : (n m : ℕ) → n ≡ m + 1 → n ≤ m + 1
last_one n m e = omega arith

-- ---- one namespace

-- the namespace goes from t to t': it stays orderly, and so do its entries in the lists
pub record KeepsTenant (ns : Name) (ready blocked : ℕ → Bool) (t t' : Tenant) : Type 0 where
  pub sound : IsOrderlyTenant ns t'
  pub ready_kept : (n : ℕ) → ready n ≡ true → IsReadyIn t n → IsReadyIn t' n
  pub blocked_kept : (n : ℕ) → blocked n ≡ true → IsBlockedIn t n → IsBlockedIn t' n

-- entries of a list are where they were
module _ (w : World) (ns : Name) (t t' : Tenant) (is : get w.tenants ns ≡ Some t) where
  listed_kept : (P : Tenant → ℕ → Type 0) (k : Name) (n : ℕ) → (ns ≡ k → P t n → P t' n) → IsListed w P k n → IsListed (put_tenant ns t' w) P k n
  listed_kept P k n keeps l = by (same_name k ns) refl
    where
      by : (b : Bool) → same_name k ns ≡ b → IsListed (put_tenant ns t' w) P k n
      by true same =
          let e : k ≡ ns = same_name_is k ns same in record {
            tenant = t';
            is_tenant = get-insert names w.tenants ns t' k ∙ ap (λ b. cond b (Some t') (get w.tenants k)) same;
            entry = keeps (sym e) (subst (λ x. P x n) (same_Some _ _ (sym l.is_tenant ∙ ap (get w.tenants) e ∙ is)) l.entry);
          }
      by false differs = record {
        tenant = l.tenant;
        is_tenant = get-insert names w.tenants ns t' k ∙ ap (λ b. cond b (Some t') (get w.tenants k)) differs ∙
            l.is_tenant;
        entry = l.entry;
      }

  pub put_orderly : IsOrderly w → KeepsTenant ns (λ n. has_key w.ready (ns, n)) (λ n. has_key w.blocked (ns, n)) t t' → IsOrderly (put_tenant ns t' w)
  put_orderly s keeps = record {
    tenant = λ k x at. by_tenant k x (row_of_insert names one_name w.tenants ns t' k x at);
    ready = λ k n has. listed_kept IsReadyIn k n (λ e. keeps.ready_kept n (ap (λ k. has_key w.ready (k, n)) e ∙ has)) (s.ready k n has);
    blocked = λ k n has. listed_kept IsBlockedIn k n (λ e. keeps.blocked_kept n (ap (λ k. has_key w.blocked (k, n)) e ∙ has)) (s.blocked k n has);
  }
    where
      by_tenant : (k : Name) (x : Tenant) → ((k ≡ ns) × (t' ≡ x)) ⊎ (get w.tenants k ≡ Some x) → IsOrderlyTenant k x
      by_tenant k x (inl e) = subst (IsOrderlyTenant k) e.1 (subst (λ k. IsOrderlyTenant k t') (sym e.0) keeps.sound)
      by_tenant k x (inr at) = s.tenant k x at

module _ (ns : Name) (ready blocked : ℕ → Bool) where
  pub keeps_same : (t : Tenant) → IsOrderlyTenant ns t → KeepsTenant ns ready blocked t t
  keeps_same t s = record { sound = s; ready_kept = λ n has r. r; blocked_kept = λ n has b. b }

  pub keeps_then : (t u v : Tenant) → KeepsTenant ns ready blocked t u → KeepsTenant ns ready blocked u v → KeepsTenant ns ready blocked t v
  keeps_then t u v a b = record {
    sound = b.sound;
    ready_kept = λ n has r. b.ready_kept n has (a.ready_kept n has r);
    blocked_kept =
        λ n has r. b.blocked_kept n has (a.blocked_kept n has r);
  }

  -- other jobs and allocations
  pub keeps_rows : (t : Tenant) (jobs : ByName Job) (allocations : ByNumber Allocation) (number : ℕ) → IsOrderlyTenant ns t
      → ((id : Name) (j : Job) → get jobs id ≡ Some j → permits t.namespace j.document.pool ≡ true)
      → ((n : ℕ) (a : Allocation) → get allocations n ≡ Some a → is_live a ≡ true → permits t.namespace a.pool ≡ true)
      → KeepsTenant ns ready blocked t (record t { jobs = jobs; allocations = allocations; allocation_number = number })
  keeps_rows t jobs allocations number s job allocation = record {
    sound = record {
      job = job;
      evaluation = s.evaluation;
      allocation = allocation;
      one_each = s.one_each;
      numbers = s.numbers;
      snapshot = λ n worker kept at has. let k = s.snapshot n worker kept at has in record { namespace = k.namespace; allowed = k.allowed };
      held = λ n worker at. let p = s.held n worker at in record { row = p.row; is_row = p.is_row; is_pending = p.is_pending };
    };
    ready_kept = λ n has r. record { pending = record { row = r.pending.row; is_row = r.pending.is_row; is_pending = r.pending.is_pending }; free = r.free };
    blocked_kept = λ n has b. record { row = b.row; is_row = b.is_row; is_blocked = b.is_blocked };
  }

  -- a new evaluation
  pub keeps_with_evaluation : (t : Tenant) (e : Evaluation) → IsOrderlyTenant ns t → IsAllowedTo t.namespace e.pool e.quota →
      KeepsTenant ns ready blocked t (with_evaluation e t)
  keeps_with_evaluation t e s allowed = record {
    sound = record {
      job = s.job;
      allocation = s.allocation;
      one_each = s.one_each;
      snapshot = λ n worker kept at has. let k = s.snapshot n worker kept at has in record { namespace = k.namespace; allowed = k.allowed };
      evaluation = λ n x at open_. by_evaluation n x open_ (came n x at);
      held = λ n worker at. still worker.evaluation (s.held n worker at);
      numbers = λ n x at. by_numbers n x (came n x at);
    };
    ready_kept = λ n has r. record { pending = still n r.pending; free = r.free };
    blocked_kept = λ n has b. record { row = b.row; is_blocked = b.is_blocked; is_row = kept_row n b.row b.is_row };
  }
    where
      new : ℕ
      new = t.evaluation_number + 1

      came : (n : ℕ) (x : Evaluation) → get (insert t.evaluations new e) n ≡ Some x → ((n ≡ new) × (e ≡ x)) ⊎ (get t.evaluations n ≡ Some x)
      came n x at = row_of_insert numbers_ one_number t.evaluations new e n x at

      kept_row : (n : ℕ) (x : Evaluation) → get t.evaluations n ≡ Some x → get (insert t.evaluations new e) n ≡ Some x
      kept_row n x at = elsewhere t.evaluations new n e x (λ same. above n t.evaluation_number (s.numbers n x at) same) at

      still : (n : ℕ) → IsPendingIn t n → IsPendingIn (with_evaluation e t) n
      still n p = record { row = p.row; is_row = kept_row n p.row p.is_row; is_pending = p.is_pending }

      by_evaluation : (n : ℕ) (x : Evaluation) → is_open x.status ≡ true → ((n ≡ new) × (e ≡ x)) ⊎ (get t.evaluations n ≡ Some x) →
          IsAllowedTo t.namespace x.pool x.quota
      by_evaluation n x open_ (inl is) = subst (λ x. IsAllowedTo t.namespace x.pool x.quota) is.1 allowed
      by_evaluation n x open_ (inr at) = s.evaluation n x at open_

      by_numbers : (n : ℕ) (x : Evaluation) → ((n ≡ new) × (e ≡ x)) ⊎ (get t.evaluations n ≡ Some x) → n ≤ t.evaluation_number + 1
      by_numbers n x (inl is) = last_one n t.evaluation_number is.0
      by_numbers n x (inr at) = more n t.evaluation_number (s.numbers n x at)

-- ---- the lists

pub has_key_append : (keys : List Key) (k key : Key) → has_key (keys ++ k ∷ []) key ≡ true → (has_key keys key ≡ true) ⊎ (same_key key k ≡ true)
has_key_append [] k key e = inr (one (same_key key k) e)
  where
    one : (b : Bool) → (b || false) ≡ true → b ≡ true
    one true e = refl
    one false e = e
has_key_append (x ∷ xs) k key e = by (has_key_append xs k key) (either_of (same_key key x) _ e)
  where
    by : (has_key (xs ++ k ∷ []) key ≡ true → (has_key xs key ≡ true) ⊎ (same_key key k ≡ true)) → (same_key key x ≡ true)
        ⊎ (has_key (xs ++ k ∷ []) key ≡ true) → (has_key (x ∷ xs) key ≡ true) ⊎ (same_key key k ≡ true)
    by later (inl here) = inl (ap (λ b. b || has_key xs key) here)
    by later (inr there) = more_of (later there)
      where
        more_of : (has_key xs key ≡ true) ⊎ (same_key key k ≡ true) → ((same_key key x || has_key xs key) ≡ true) ⊎ (same_key key k ≡ true)
        more_of (inl in_) = inl (or_right (same_key key x) _ in_)
        more_of (inr last) = inr last

-- an entry of a filtered list is an entry of the list, and passes
pub has_key_filter : (p : Key → Bool) (keys : List Key) (key : Key) → has_key (filter p keys) key ≡ true → (has_key keys key ≡ true) × (p key ≡ true)
has_key_filter p [] key e = absurd (subst T (sym e) tt)
has_key_filter p (x ∷ xs) key e = by (has_key_filter p xs key) (p x) refl e
  where
    by : (has_key (filter p xs) key ≡ true → (has_key xs key ≡ true) × (p key ≡ true)) → (b : Bool) → p x ≡ b →
        has_key (cond b (x ∷ filter p xs) (filter p xs)) key ≡ true → (has_key (x ∷ xs) key ≡ true) × (p key ≡ true)
    by later false fails e = let r = later e in (or_right (same_key key x) (has_key xs key) r.0, r.1)
    by later true passes e = here (either_of (same_key key x) _ e)
      where
        here : (same_key key x ≡ true) ⊎ (has_key (filter p xs) key ≡ true) → (has_key (x ∷ xs) key ≡ true) × (p key ≡ true)
        here (inl is) = (ap (λ b. b || has_key xs key) is, ap p (λ i. ((same_key_is key x is).0 i, (same_key_is key x is).1 i)) ∙ passes)
        here (inr in_) = let r = later in_ in (or_right (same_key key x) (has_key xs key) r.0, r.1)

-- an entry is put into `ready`, or into `blocked`
module _ (w : World) (s : IsOrderly w) (ns : Name) (n : ℕ) where
  pub ready_orderly : IsListed w IsReadyIn ns n → IsOrderly (record w { ready = w.ready ++ (ns, n) ∷ [] })
  ready_orderly l = record {
    tenant = s.tenant;
    blocked = λ k m has. again IsBlockedIn k m (s.blocked k m has);
    ready =
        λ k m has. again IsReadyIn k m (by k m (has_key_append w.ready (ns, n) (k, m) has));
  }
    where
      again : (P : Tenant → ℕ → Type 0) (k : Name) (m : ℕ) → IsListed w P k m → IsListed (record w { ready = w.ready ++ (ns, n) ∷ [] }) P k m
      again P k m l = record { tenant = l.tenant; is_tenant = l.is_tenant; entry = l.entry }

      by : (k : Name) (m : ℕ) → (has_key w.ready (k, m) ≡ true) ⊎ (same_key (k, m) (ns, n) ≡ true) → IsListed w IsReadyIn k m
      by k m (inl has) = s.ready k m has
      by k m (inr last) = subst (λ k. IsListed w IsReadyIn k m) (sym (same_key_is (k, m) (ns, n) last).0)
          (subst (λ m. IsListed w IsReadyIn ns m) (sym (same_key_is (k, m) (ns, n) last).1) l)

  pub blocked_orderly : IsListed w IsBlockedIn ns n → IsOrderly (record w { blocked = w.blocked ++ (ns, n) ∷ [] })
  blocked_orderly l = record {
    tenant = s.tenant;
    ready = λ k m has. again IsReadyIn k m (s.ready k m has);
    blocked =
        λ k m has. again IsBlockedIn k m (by k m (has_key_append w.blocked (ns, n) (k, m) has));
  }
    where
      again : (P : Tenant → ℕ → Type 0) (k : Name) (m : ℕ) → IsListed w P k m → IsListed (record w { blocked = w.blocked ++ (ns, n) ∷ [] }) P k m
      again P k m l = record { tenant = l.tenant; is_tenant = l.is_tenant; entry = l.entry }

      by : (k : Name) (m : ℕ) → (has_key w.blocked (k, m) ≡ true) ⊎ (same_key (k, m) (ns, n) ≡ true) → IsListed w IsBlockedIn k m
      by k m (inl has) = s.blocked k m has
      by k m (inr last) = subst (λ k. IsListed w IsBlockedIn k m) (sym (same_key_is (k, m) (ns, n) last).0)
          (subst (λ m. IsListed w IsBlockedIn ns m) (sym (same_key_is (k, m) (ns, n) last).1) l)

-- where none of the job is ready or with a worker, no worker has one of its evaluations
pub free_of : (w : World) (ns job : Name) (n : ℕ) (t : Tenant) (e : Evaluation) → is_busy w ns job ≡ false → get w.tenants ns ≡ Some t →
    get t.evaluations n ≡ Some e → same_name job e.job ≡ true
    → (m : ℕ) (worker : Worker) → get t.workers m ≡ Some worker → worker.evaluation ≢ n
free_of w ns job n t e idle is at of_it m worker has same = not_both
    (λ i. same_name_refl ns i && (ap (λ n. option_map_or (λ x. same_name job x.job) (evaluation_at w (ns, n)) false) same ∙
    ap (λ o. option_map_or (λ x. same_name job x.job) o false) (ap (option_and_then (λ t. get t.evaluations n)) is ∙ at) ∙ of_it) i)
    (none_of_any one_number (λ _ worker. is_of_job w ns job (ns, worker.evaluation)) t.workers m worker
    (ap (λ o. option_map_or (λ t. any_row (λ _ worker. is_of_job w ns job (ns, worker.evaluation)) t.workers) o false) (sym is) ∙
    right_none (list_any (is_of_job w ns job) w.ready) _ idle) has)

pub queue_orderly : (w : World) (ns : Name) (n : ℕ) (t : Tenant) → IsOrderly w → get w.tenants ns ≡ Some t → IsPendingIn t n → IsOrderly (queue w (ns, n))
unfolding queue
queue_orderly w ns n t s is p = subst (λ o. IsOrderly (option_map_or (λ e. cond (is_busy w ns e.job) w (record w { ready = w.ready ++ (ns, n) ∷ [] })) o w))
    (sym (ap (option_and_then (λ t. get t.evaluations n)) is ∙ p.is_row)) (by (is_busy w ns p.row.job) refl)
  where
    by : (b : Bool) → is_busy w ns p.row.job ≡ b → IsOrderly (cond b w (record w { ready = w.ready ++ (ns, n) ∷ [] }))
    by true _ = s
    by false idle = ready_orderly w s ns n (record
        { tenant = t; is_tenant = is; entry = record { pending = p; free = free_of w ns p.row.job n t p.row idle is p.is_row (same_name_refl p.row.job) } })

-- ---- new evaluations

-- of a namespace that goes from t to t', with a new pending one of t'
pub make_in_orderly : (w : World) (ns : Name) (e : Evaluation) (t t' : Tenant) → IsOrderly w → get w.tenants ns ≡ Some t
    → KeepsTenant ns (λ n. has_key w.ready (ns, n)) (λ n. has_key w.blocked (ns, n)) t t' → e.status ≡ Status.Pending →
    IsAllowedTo t'.namespace e.pool e.quota → IsOrderly (make_in ns e w t')
make_in_orderly w ns e t t' s is keeps pending allowed =
    queue_orderly (put_tenant ns (with_evaluation e t') w) ns (t'.evaluation_number + 1) (with_evaluation e t')
    (put_orderly w ns t (with_evaluation e t') is s
    (keeps_then ns _ _ t t' (with_evaluation e t') keeps (keeps_with_evaluation ns _ _ t' e keeps.sound allowed)))
    (at_inserted names w.tenants ns (with_evaluation e t') (same_name_refl ns))
    (record {
      row = e;
      is_row = at_inserted numbers_ t'.evaluations (t'.evaluation_number + 1) e (same_number_refl (t'.evaluation_number + 1));
      is_pending =
          pending;
    })
