-- That of a job one evaluation is busy at most, said of the list of busy evaluations.
use Rattle.std.specs.Prelude.{◌≡◌, ℕ, Bool, true, false, not, T, List, [], ◌∷◌, ◌++◌, map, Option, Some, None, ◌&&◌, ◌||◌, filter, option_map}
use Rattle.std.proofs.Common.{◌⊎◌, inl, inr, refl, sym, ap, subst, ◌∙◌, is_lt}
use Rattle.std.proofs.lemmas.List.Folds.{list_any-append}
use Rattle.std.specs.Cmp.{tied_itself}
use Rattle.std.specs.FinMap.{get, entries, entries_sorted}
use Rattle.std.specs.FinMap.Entries.{is_sorted, below_all}
use Rattle.std.specs.List.{list_any}
use Rattle.std.specs.Ordering.{nat_cmp}
use Rattle.ns_types.specs.declared.evaluation.Evaluation.{Evaluation}
use Rattle.ns_types.specs.Working.Worker.{Worker}
use Rattle.ns_types.specs.State.Lists.{Each}
use Rattle.ns_types.specs.State.Names.{Name, Key, ByNumber, same_name, same_key, has_key}
use Rattle.ns_types.specs.State.Rows.{World, Tenant}
use Rattle.ns_types.specs.State.Tables.{any_row}
use Rattle.ns_types.specs.Validity.{busy_with, jobs_at, same_found}
use Rattle.ns_types.proofs.Lists.{not_both, left_none, right_none}
use Rattle.ns_types.proofs.Named.{numbers as numbers_, one_number, same_name_is, same_name_refl, first_of_both, second_of_both, same_key_is, same_key_refl}
use Rattle.ns_types.proofs.Tables.{each_row, none_of_any}
use Rattle.ns_types.proofs.Elements.{any_map}
use Rattle.ns_types.proofs.Tests.{is_no, first, second, either_of}
use Rattle.std.proofs.lemmas.Bool.{or_right}
use Rattle.ns_audit.proofs.Steady.Keeping.{has_key_filter}
use Rattle.ns_audit.proofs.ValidWorkers.Busy.{HasWorker, IsBusyIn, any_at}
use Rattle.ns_audit.proofs.ValidWorkers.Once.{is_once, once_filter, has_key_still}

-- ---- lists of what keys show

module _ {A : Type 0} (same : A → A → Bool) (f : Key → A) where
  -- no two that show the same
  once_shows : (keys : List Key) → is_once same (map f keys) ≡ true → (a b : Key) → has_key keys a ≡ true → has_key keys b ≡ true → same (f a) (f b) ≡ true →
      same (f b) (f a) ≡ true → same_key a b ≡ true
  once_shows [] once a b a_in b_in ab ba = absurd (subst T (sym a_in) tt)
  once_shows (x ∷ xs) once a b a_in b_in ab ba = by (λ p q. once_shows xs (second_of_both (not (list_any (same (f x)) (map f xs))) _ once) a b p q ab ba)
      (either_of (same_key a x) _ a_in) (either_of (same_key b x) _ b_in)
    where
      none : (k : Key) → has_key xs k ≡ true → same (f x) (f k) ≡ false
      none k k_in = any_at (λ k. same (f x) (f k)) xs k k_in
          (sym (any_map (same (f x)) f xs) ∙ is_no (list_any (same (f x)) (map f xs)) (first_of_both _ _ once))

      at : (k : Key) → same_key k x ≡ true → k ≡ x
      at k is = let p = same_key_is k x is in λ i. (p.0 i, p.1 i)

      by : (has_key xs a ≡ true → has_key xs b ≡ true → same_key a b ≡ true) → (same_key a x ≡ true) ⊎ (has_key xs a ≡ true) → (same_key b x ≡ true)
          ⊎ (has_key xs b ≡ true) → same_key a b ≡ true
      by rest (inl p) (inl q) = ap (λ k. same_key a k) (at b q ∙ sym (at a p)) ∙ same_key_refl a
      by rest (inl p) (inr q) = not_both (ap (λ k. same (f k) (f b)) (sym (at a p)) ∙ ab) (none b q)
      by rest (inr p) (inl q) = not_both (ap (λ k. same (f k) (f a)) (sym (at b q)) ∙ ba) (none a p)
      by rest (inr p) (inr q) = rest p q

  shows_none : (x : Key) (xs : List Key) → list_any (same_key x) xs ≡ false → ((k : Key) → has_key xs k ≡ true → same (f x) (f k) ≡ true → same_key x k ≡ true)
      → list_any (same (f x)) (map f xs) ≡ false
  shows_none x [] none h = refl
  shows_none x (y ∷ ys) none h = λ i. here (same (f x) (f y)) refl i
      || shows_none x ys (right_none (same_key x y) _ none) (λ k k_in. h k (or_right (same_key k y) _ k_in)) i
    where
      here : (b : Bool) → same (f x) (f y) ≡ b → same (f x) (f y) ≡ false
      here true is = not_both (h y (ap (λ b. b || has_key ys y) (same_key_refl y)) is) (left_none (same_key x y) _ none)
      here false is = is

  shows_once : (keys : List Key) → is_once same_key keys ≡ true →
      ((a b : Key) → has_key keys a ≡ true → has_key keys b ≡ true → same (f a) (f b) ≡ true → same_key a b ≡ true) → is_once same (map f keys) ≡ true
  shows_once [] once h = refl
  shows_once (x ∷ xs) once h = λ i.
      not (shows_none x xs (is_no (list_any (same_key x) xs) (first_of_both _ _ once))
      (λ k k_in. h x k (ap (λ b. b || has_key xs x) (same_key_refl x)) (or_right (same_key k x) _ k_in)) i)
      && shows_once xs (second_of_both (not (list_any (same_key x) xs)) _ once)
      (λ a b a_in b_in. h a b (or_right (same_key a x) _ a_in) (or_right (same_key b x) _ b_in)) i

once_join : (xs ys : List Key) → is_once same_key xs ≡ true → is_once same_key ys ≡ true → ((k : Key) → has_key xs k ≡ true → has_key ys k ≡ false) →
    is_once same_key (xs ++ ys) ≡ true
once_join [] ys a b apart = b
once_join (x ∷ xs) ys a b apart = λ i.
    not ((list_any-append (same_key x) xs ys ∙ (λ i. is_no (list_any (same_key x) xs) (first_of_both _ _ a) i
    || apart x (ap (λ b. b || has_key xs x) (same_key_refl x)) i)) i)
    && once_join xs ys (second_of_both (not (list_any (same_key x) xs)) _ a) b (λ k k_in. apart k (or_right (same_key k x) _ k_in)) i

-- ---- workers' evaluations

module _ (ns : Name) (workers : ByNumber Worker) where
  abbrev key_of : (ℕ × Worker) → Key
  key_of worker = (ns, worker.1.evaluation)

  worker_listed : (n : ℕ) → HasWorker workers n → has_key (map key_of (entries workers)) (ns, n) ≡ true
  unfolding any_row
  worker_listed n h = any_map (same_key (ns, n)) key_of (entries workers) ∙ by (any_row (λ _ worker. same_key (ns, n) (ns, worker.evaluation)) workers) refl
    where
      by : (b : Bool) → any_row (λ _ worker. same_key (ns, n) (ns, worker.evaluation)) workers ≡ b →
          any_row (λ _ worker. same_key (ns, n) (ns, worker.evaluation)) workers ≡ true
      by true e = e
      by false e = not_both (ap (λ m. same_key (ns, n) (ns, m)) h.same ∙ same_key_refl (ns, n))
          (none_of_any one_number (λ _ worker. same_key (ns, n) (ns, worker.evaluation)) workers h.number h.worker e h.is_worker)

  has_of : (k : Key) (es : List (ℕ × Worker)) → Each (λ e. get workers e.0 ≡ Some e.1) es → has_key (map key_of es) k ≡ true → (k.0 ≡ ns) ×
      HasWorker workers k.1
  has_of k [] h e = absurd (subst T (sym e) tt)
  has_of k (x ∷ xs) h e = by (has_of k xs h.1) (either_of (same_key k (key_of x)) _ e)
    where
      by : (has_key (map key_of xs) k ≡ true → (k.0 ≡ ns) × HasWorker workers k.1) → (same_key k (key_of x) ≡ true) ⊎ (has_key (map key_of xs) k ≡ true) →
          (k.0 ≡ ns) × HasWorker workers k.1
      by later (inl is) = let p = same_key_is k (key_of x) is in (p.0, record { number = x.0; worker = x.1; is_worker = h.0; same = sym p.1 })
      by later (inr there) = later there

  rows : Each (λ (e : ℕ × Worker). get workers e.0 ≡ Some e.1) (entries workers)
  rows = each_row numbers_ one_number (λ n worker. get workers n ≡ Some worker) workers (λ n worker at. at)

  listed_worker : (k : Key) → has_key (map key_of (entries workers)) k ≡ true → (k.0 ≡ ns) × HasWorker workers k.1
  listed_worker k e = has_of k (entries workers) rows e

  module _ (one_each : (m n : ℕ) (v x : Worker) → get workers m ≡ Some v → get workers n ≡ Some x → v.evaluation ≡ x.evaluation → m ≡ n) where
    others : (n : ℕ) (v : Worker) (es : List (ℕ × Worker)) → get workers n ≡ Some v → T (below_all nat_cmp n es) → Each (λ e. get workers e.0 ≡ Some e.1) es →
        list_any (same_key (ns, v.evaluation)) (map key_of es) ≡ false
    others n v [] at below h = refl
    others n v (x ∷ xs) at below h = λ i. here (same_key (ns, v.evaluation) (key_of x)) refl i
        || others n v xs at (second (is_lt (nat_cmp n x.0)) _ below) h.1 i
      where
        here : (b : Bool) → same_key (ns, v.evaluation) (key_of x) ≡ b → same_key (ns, v.evaluation) (key_of x) ≡ false
        here true is = absurd (subst T (ap is_lt (ap (λ m. nat_cmp m x.0) (one_each n x.0 v x.1 at h.0 (same_key_is (ns, v.evaluation) (key_of x) is).1) ∙
            tied_itself numbers_ x.0)) (first (is_lt (nat_cmp n x.0)) _ below))
        here false is = is

    once_entries : (es : List (ℕ × Worker)) → T (is_sorted nat_cmp es) → Each (λ e. get workers e.0 ≡ Some e.1) es → is_once same_key (map key_of es) ≡ true
    once_entries [] sorted h = refl
    once_entries (x ∷ xs) sorted h = λ i. not (others x.0 x.1 xs h.0 (first (below_all nat_cmp x.0 xs) _ sorted) h.1 i)
        && once_entries xs (second (below_all nat_cmp x.0 xs) _ sorted) h.1 i

    workers_once : is_once same_key (map key_of (entries workers)) ≡ true
    workers_once = once_entries (entries workers) (entries_sorted workers) rows

-- ---- busy evaluations

module _ (w : World) (ns : Name) (t : Tenant) where
  busy_listed : (n : ℕ) → IsBusyIn w.ready ns t.workers n → has_key (busy_with w ns t) (ns, n) ≡ true
  busy_listed n (inl has) = list_any-append (same_key (ns, n)) (filter (λ key. same_name ns key.0) w.ready) _ ∙
      (λ i. has_key_still (λ key. same_name ns key.0) w.ready (ns, n) has (same_name_refl ns) i
      || has_key (map (λ worker. (ns, worker.1.evaluation)) (entries t.workers)) (ns, n))
  busy_listed n (inr h) = list_any-append (same_key (ns, n)) (filter (λ key. same_name ns key.0) w.ready) _ ∙
      or_right (has_key (filter (λ key. same_name ns key.0) w.ready) (ns, n)) _ (worker_listed ns t.workers n h)

  listed_busy : (k : Key) → has_key (busy_with w ns t) k ≡ true → (k.0 ≡ ns) × IsBusyIn w.ready ns t.workers k.1
  listed_busy k e = by (either_of (has_key (filter (λ key. same_name ns key.0) w.ready) k) _
      (sym (list_any-append (same_key k) (filter (λ key. same_name ns key.0) w.ready) _) ∙ e))
    where
      by : (has_key (filter (λ key. same_name ns key.0) w.ready) k ≡ true) ⊎ (has_key (map (λ worker. (ns, worker.1.evaluation)) (entries t.workers)) k ≡ true)
          → (k.0 ≡ ns) × IsBusyIn w.ready ns t.workers k.1
      by (inl has) = let p = has_key_filter (λ key. same_name ns key.0) w.ready k has in let at = sym (same_name_is ns k.0 p.1) in
          (at, inl (ap (λ n. has_key w.ready (n, k.1)) (sym at) ∙ p.0))
      by (inr has) = let p = listed_worker ns t.workers k has in (p.0, inr p.1)

  -- said of the list, it holds of each two
  pub one_of_list : is_once same_found (jobs_at t (busy_with w ns t)) ≡ true → (m n : ℕ) (d e : Evaluation) → IsBusyIn w.ready ns t.workers m →
      IsBusyIn w.ready ns t.workers n
      → get t.evaluations m ≡ Some d → get t.evaluations n ≡ Some e → d.job ≡ e.job → m ≡ n
  one_of_list once m n d e bm bn dm en same = (same_key_is (ns, m) (ns, n)
      (once_shows same_found job_of (busy_with w ns t) once (ns, m) (ns, n) (busy_listed m bm) (busy_listed n bn)
      ((λ i. same_found (shown m d dm i) (shown n e en i)) ∙ ap (λ j. same_name j e.job) same ∙ same_name_refl e.job)
      ((λ i. same_found (shown n e en i) (shown m d dm i)) ∙ ap (λ j. same_name e.job j) same ∙ same_name_refl e.job))).1
    where
      job_of : Key → Option Name
      job_of key = option_map (λ (e : Evaluation). e.job) (get t.evaluations key.1)

      shown : (n : ℕ) (e : Evaluation) → get t.evaluations n ≡ Some e → job_of (ns, n) ≡ Some e.job
      shown n e at = ap (option_map (λ (e : Evaluation). e.job)) at

  -- said of each two, it holds of the list
  pub list_of_one : ((m n : ℕ) (d e : Evaluation) → IsBusyIn w.ready ns t.workers m → IsBusyIn w.ready ns t.workers n → get t.evaluations m ≡ Some d →
      get t.evaluations n ≡ Some e → d.job ≡ e.job → m ≡ n)
      → ((m n : ℕ) (v x : Worker) → get t.workers m ≡ Some v → get t.workers n ≡ Some x → v.evaluation ≡ x.evaluation → m ≡ n)
      → ((n : ℕ) → has_key w.ready (ns, n) ≡ true → HasWorker t.workers n → ⊥)
      → is_once same_key w.ready ≡ true → is_once same_found (jobs_at t (busy_with w ns t)) ≡ true
  list_of_one one one_each free once = shows_once same_found job_of (busy_with w ns t)
      (once_join (filter (λ key. same_name ns key.0) w.ready) _ (once_filter same_key (λ key. same_name ns key.0) w.ready once)
      (workers_once ns t.workers one_each) (λ k has. apart k has _ refl)) (λ a b a_in b_in same.
      alike a b (listed_busy a a_in) (listed_busy b b_in) (get t.evaluations a.1) (get t.evaluations b.1) refl refl same)
    where
      job_of : Key → Option Name
      job_of key = option_map (λ (e : Evaluation). e.job) (get t.evaluations key.1)

      apart : (k : Key) → has_key (filter (λ key. same_name ns key.0) w.ready) k ≡ true → (b : Bool) →
          has_key (map (λ worker. (ns, worker.1.evaluation)) (entries t.workers)) k ≡ b → b ≡ false
      apart k has true it =
          let p = listed_worker ns t.workers k it in
          absurd (free k.1 (ap (λ n. has_key w.ready (n, k.1)) (sym p.0) ∙ (has_key_filter (λ key. same_name ns key.0) w.ready k has).0) p.1)
      apart k has false _ = refl

      alike : (a b : Key) → (a.0 ≡ ns) × IsBusyIn w.ready ns t.workers a.1 → (b.0 ≡ ns) × IsBusyIn w.ready ns t.workers b.1 → (x y : Option Evaluation) →
          get t.evaluations a.1 ≡ x → get t.evaluations b.1 ≡ y
          → same_found (option_map (λ (e : Evaluation). e.job) (get t.evaluations a.1)) (option_map (λ (e : Evaluation). e.job) (get t.evaluations b.1))
          ≡ true → same_key a b ≡ true
      alike a b p q None y x_is y_is same = absurd
          (subst T (sym same ∙ ap (λ x. same_found (option_map (λ (e : Evaluation). e.job) x) (option_map (λ (e : Evaluation). e.job) (get t.evaluations b.1)))
          x_is) tt)
      alike a b p q (Some d) None x_is y_is same =
          absurd (subst T (sym same ∙ (λ i. same_found (option_map (λ (e : Evaluation). e.job) (x_is i)) (option_map (λ (e : Evaluation). e.job) (y_is i)))) tt)
      alike a b p q (Some d) (Some e) x_is y_is same =
          let n = one a.1 b.1 d e p.1 q.1 x_is y_is
          (same_name_is d.job e.job (sym (λ i. same_found (option_map (λ (e : Evaluation). e.job) (x_is i))
          (option_map (λ (e : Evaluation). e.job) (y_is i))) ∙ same)) in
          ap (λ k. same_key a k) (λ i. ((q.0 ∙ sym p.0) i, sym n i)) ∙ same_key_refl a
