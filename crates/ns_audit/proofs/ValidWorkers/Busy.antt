-- Busy evaluations, which are ready or with a worker: of a job there is one at most, whatever the lists do.
use Rattle.std.specs.Prelude.{◌≡◌, ℕ, ◌≤◌, Bool, true, false, cond, List, [], ◌∷◌, ◌++◌, Option, Some, None, ◌&&◌, find, fold, option_map}
use Rattle.std.proofs.Common.{◌⊎◌, inl, inr, refl, sym, ap, subst, ◌∙◌}
use Rattle.std.specs.FinMap.{get, entries, insert, remove}
use Rattle.std.specs.List.{list_any}
use Rattle.std.specs.Option.{option_map_or, option_and_then}
use Rattle.ns_types.specs.declared.evaluation.Evaluation.{Evaluation}
use Rattle.ns_types.specs.Working.Worker.{Worker}
use Rattle.ns_types.specs.State.Names.{Name, Key, ByNumber, same_name, same_key, has_key}
use Rattle.ns_types.specs.Working.Queue.{is_of_job, is_busy, queue, first_waiting, promote}
use Rattle.ns_types.specs.State.Rows.{World, Tenant, is_pending}
use Rattle.ns_types.proofs.Lists.{not_both, left_none, right_none}
use Rattle.ns_types.proofs.Named.{numbers as numbers_, one_number, same_name_is, same_name_refl, first_of_both, same_key_is}
use Rattle.ns_types.proofs.Tables.{each_row}
use Rattle.ns_types.proofs.Tests.{not_Some, same_Some, either_of}
use Rattle.ns_types.proofs.TableRows.{row_of_insert}
use Rattle.ns_audit.proofs.Steady.Keeping.{has_key_append, free_of}
use Rattle.ns_audit.proofs.Steady.Work.{removed_row}
use Rattle.ns_audit.proofs.Steady.Workers.{find_each}
use Rattle.ns_audit.proofs.ValidWorkers.Once.{is_once, once_append}

-- ---- what is busy

-- some worker has the evaluation
pub record HasWorker (workers : ByNumber Worker) (n : ℕ) : Type 0 where
  pub number : ℕ
  pub worker : Worker
  pub is_worker : get workers number ≡ Some worker
  pub same : worker.evaluation ≡ n

abbrev pub IsBusyIn : List Key → Name → ByNumber Worker → ℕ → Type 0
IsBusyIn ready ns workers n = (has_key ready (ns, n) ≡ true) ⊎ HasWorker workers n

abbrev pub IsNumbered : Tenant → Type 0
IsNumbered t = (n : ℕ) (e : Evaluation) → get t.evaluations n ≡ Some e → n ≤ t.evaluation_number

-- busy evaluations are there, and of a job there is one at most
pub record IsQueuedIn (ready : List Key) (ns : Name) (t : Tenant) : Type 0 where
  pub numbered : IsNumbered t
  pub there : (n : ℕ) → IsBusyIn ready ns t.workers n → (e : Evaluation) × (get t.evaluations n ≡ Some e)
  pub one_busy : (m n : ℕ) (d e : Evaluation) → IsBusyIn ready ns t.workers m → IsBusyIn ready ns t.workers n
      → get t.evaluations m ≡ Some d → get t.evaluations n ≡ Some e → d.job ≡ e.job → m ≡ n

pub record IsQueued (w : World) : Type 0 where
  pub tenant : (ns : Name) (t : Tenant) → get w.tenants ns ≡ Some t → IsQueuedIn w.ready ns t
  pub once : is_once same_key w.ready ≡ true

-- each row is there still, of the same job
abbrev pub KeepsJobs : Tenant → Tenant → Type 0
KeepsJobs t u = (n : ℕ) (e : Evaluation) → get t.evaluations n ≡ Some e → (d : Evaluation) × (get u.evaluations n ≡ Some d) × (d.job ≡ e.job)

-- no more is busy than before
pub queued_in : (ready less : List Key) (ns : Name) (t u : Tenant) → IsQueuedIn ready ns t → IsNumbered u →
    ((n : ℕ) → IsBusyIn less ns u.workers n → IsBusyIn ready ns t.workers n) → KeepsJobs t u → IsQueuedIn less ns u
queued_in ready less ns t u q numbered busy rows = record {
  numbered = numbered;
  there = λ n b. let e = q.there n (busy n b) in let d = rows n e.0 e.1 in (d.0, d.1);
  one_busy = λ m n d e bm bn dm en same.
      let a = q.there m (busy m bm) in
      let b = q.there n (busy n bn) in
      let x = rows m a.0 a.1 in
      let y = rows n b.0 b.1 in
      q.one_busy m n a.0 b.0 (busy m bm) (busy n bn) a.1 b.1 (sym x.2 ∙ ap (λ (e : Evaluation). e.job) (same_Some _ _ (sym x.1 ∙ dm)) ∙ same ∙
      ap (λ (e : Evaluation). e.job) (same_Some _ _ (sym en ∙ y.1)) ∙ y.2);
}

-- ---- workers

pub worker_of_insert : (workers : ByNumber Worker) (number : ℕ) (new : Worker) (n : ℕ) → HasWorker (insert workers number new) n → (new.evaluation ≡ n)
    ⊎ HasWorker workers n
worker_of_insert workers number new n h = by (row_of_insert numbers_ one_number workers number new h.number h.worker h.is_worker)
  where
    by : ((h.number ≡ number) × (new ≡ h.worker)) ⊎ (get workers h.number ≡ Some h.worker) → (new.evaluation ≡ n) ⊎ HasWorker workers n
    by (inl e) = inl (ap (λ (v : Worker). v.evaluation) e.1 ∙ h.same)
    by (inr at) = inr (record { number = h.number; worker = h.worker; is_worker = at; same = h.same })

pub worker_of_remove : (workers : ByNumber Worker) (number : ℕ) (n : ℕ) → HasWorker (remove workers number) n → HasWorker workers n
worker_of_remove workers number n h = record {
  number = h.number;
  worker = h.worker;
  is_worker =
      (removed_row workers number h.number h.worker h.is_worker).0;
  same = h.same;
}

-- ---- the lists

pub any_at : (f : Key → Bool) (keys : List Key) (key : Key) → has_key keys key ≡ true → list_any f keys ≡ false → f key ≡ false
any_at f [] key has none = not_both has refl
any_at f (x ∷ xs) key has none = by (λ later. any_at f xs key later (right_none (f x) _ none)) (either_of (same_key key x) _ has)
  where
    by : (has_key xs key ≡ true → f key ≡ false) → (same_key key x ≡ true) ⊎ (has_key xs key ≡ true) → f key ≡ false
    by rest (inl here) = let k = same_key_is key x here in ap f (λ i. (k.0 i, k.1 i)) ∙ left_none (f x) _ none
    by rest (inr later) = rest later

-- an entry more, of a job of which none is busy
module _ (w : World) (q : IsQueued w) (ns : Name) (n : ℕ) (t : Tenant) (e : Evaluation) (is : get w.tenants ns ≡ Some t) (at : get t.evaluations n ≡ Some e)
    (idle : is_busy w ns e.job ≡ false) where
  not_busy : (m : ℕ) (d : Evaluation) → get t.evaluations m ≡ Some d → d.job ≡ e.job → IsBusyIn w.ready ns t.workers m → ⊥
  not_busy m d d_at same (inl has) = not_both
      (λ i. same_name_refl ns i && (ap (λ o. option_map_or (λ (x : Evaluation). same_name e.job x.job) o false)
      (ap (option_and_then (λ (t : Tenant). get t.evaluations m)) is ∙ d_at) ∙ ap (same_name e.job) same ∙ same_name_refl e.job) i)
      (any_at (is_of_job w ns e.job) w.ready (ns, m) has (left_none _ _ idle))
  not_busy m d d_at same (inr h) = free_of w ns e.job m t d idle is d_at (ap (same_name e.job) same ∙ same_name_refl e.job) h.number h.worker h.is_worker h.same

  its : (k : Name) (u : Tenant) → get w.tenants k ≡ Some u → k ≡ ns → u ≡ t
  its k u u_is same = same_Some _ _ (sym u_is ∙ ap (get w.tenants) same ∙ is)

  was : (k : Name) (u : Tenant) (m : ℕ) → IsBusyIn (w.ready ++ (ns, n) ∷ []) k u.workers m → IsBusyIn w.ready k u.workers m ⊎ ((k ≡ ns) × (m ≡ n))
  was k u m (inr h) = inl (inr h)
  was k u m (inl has) = by (has_key_append w.ready (ns, n) (k, m) has)
    where
      by : (has_key w.ready (k, m) ≡ true) ⊎ (same_key (k, m) (ns, n) ≡ true) → IsBusyIn w.ready k u.workers m ⊎ ((k ≡ ns) × (m ≡ n))
      by (inl old) = inl (inl old)
      by (inr new) = inr (same_key_is (k, m) (ns, n) new)

  -- the new one and an old one are not of one job
  apart : (k : Name) (u : Tenant) → get w.tenants k ≡ Some u → k ≡ ns → (m l : ℕ) (d c : Evaluation) → m ≡ n → IsBusyIn w.ready k u.workers l →
      get u.evaluations m ≡ Some d → get u.evaluations l ≡ Some c → c.job ≡ d.job → ⊥
  apart k u u_is same m l d c new old d_at c_at job =
      let x = its k u u_is same in
      not_busy l c (ap (λ (t : Tenant). get t.evaluations l) (sym x) ∙ c_at)
      (job ∙ ap (λ (e : Evaluation). e.job) (same_Some _ _ (sym d_at ∙ (λ i. get (x i).evaluations (new i)) ∙ at)))
      (subst (λ k. IsBusyIn w.ready k t.workers l) same (subst (λ (u : Tenant). IsBusyIn w.ready k u.workers l) x old))

  entry_in : (k : Name) (u : Tenant) → get w.tenants k ≡ Some u → IsQueuedIn (w.ready ++ (ns, n) ∷ []) k u
  entry_in k u u_is = record {
    numbered = r.numbered;
    there = λ m b. row m (was k u m b);
    one_busy = λ m l d c bm bl d_at c_at job. one m l d c (was k u m bm) (was k u l bl) d_at c_at job;
  }
    where
      r : IsQueuedIn w.ready k u
      r = q.tenant k u u_is

      row : (m : ℕ) → IsBusyIn w.ready k u.workers m ⊎ ((k ≡ ns) × (m ≡ n)) → (e : Evaluation) × (get u.evaluations m ≡ Some e)
      row m (inl old) = r.there m old
      row m (inr new) = (e, (λ i. get (its k u u_is new.0 i).evaluations (new.1 i)) ∙ at)

      one : (m l : ℕ) (d c : Evaluation) → IsBusyIn w.ready k u.workers m ⊎ ((k ≡ ns) × (m ≡ n)) → IsBusyIn w.ready k u.workers l ⊎ ((k ≡ ns) × (l ≡ n)) →
          get u.evaluations m ≡ Some d → get u.evaluations l ≡ Some c → d.job ≡ c.job → m ≡ l
      one m l d c (inl a) (inl b) d_at c_at job = r.one_busy m l d c a b d_at c_at job
      one m l d c (inr a) (inr b) d_at c_at job = a.1 ∙ sym b.1
      one m l d c (inr a) (inl b) d_at c_at job = absurd (apart k u u_is a.0 m l d c a.1 b d_at c_at (sym job))
      one m l d c (inl a) (inr b) d_at c_at job = absurd (apart k u u_is b.0 l m c d b.1 a c_at d_at job)

  entry_queued : IsQueued (record w { ready = w.ready ++ (ns, n) ∷ [] })
  entry_queued = record { tenant = entry_in; once = once_append w.ready (ns, n) q.once (unlisted (has_key w.ready (ns, n)) refl) }
    where
      unlisted : (b : Bool) → has_key w.ready (ns, n) ≡ b → b ≡ false
      unlisted true has = absurd (not_busy n e at refl (inl has))
      unlisted false _ = refl

pub queue_queued : (w : World) (key : Key) → IsQueued w → IsQueued (queue w key)
unfolding queue
queue_queued w key q = in_tenant (get w.tenants key.0) refl
  where
    busy : (t : Tenant) → get w.tenants key.0 ≡ Some t → (e : Evaluation) → get t.evaluations key.1 ≡ Some e → (b : Bool) → is_busy w key.0 e.job ≡ b →
        IsQueued (cond b w (record w { ready = w.ready ++ key ∷ [] }))
    busy t is e at true _ = q
    busy t is e at false idle = entry_queued w q key.0 key.1 t e is at idle

    row : (t : Tenant) → get w.tenants key.0 ≡ Some t → (o : Option Evaluation) → get t.evaluations key.1 ≡ o →
        IsQueued (option_map_or (λ e. cond (is_busy w key.0 e.job) w (record w { ready = w.ready ++ key ∷ [] })) o w)
    row t is None at = q
    row t is (Some e) at = busy t is e at (is_busy w key.0 e.job) refl

    in_tenant : (o : Option Tenant) → get w.tenants key.0 ≡ o →
        IsQueued (option_map_or (λ e. cond (is_busy w key.0 e.job) w (record w { ready = w.ready ++ key ∷ [] }))
        (option_and_then (λ t. get t.evaluations key.1) o) w)
    in_tenant None is = q
    in_tenant (Some t) is = row t is (get t.evaluations key.1) refl

pub queues_queued : (keys : List Key) (w : World) → IsQueued w → IsQueued (fold queue w keys)
queues_queued [] w q = q
queues_queued (key ∷ keys) w q = queues_queued keys (queue w key) (queue_queued w key q)

-- the first that waits is of the job
waiting_of : (t : Tenant) (job : Name) (n : ℕ) → first_waiting job t ≡ Some n → (e : Evaluation) × (get t.evaluations n ≡ Some e) × (job ≡ e.job)
waiting_of t job n is = by (find f (entries t.evaluations)) refl is
  where
    f : (ℕ × Evaluation) → Bool
    f e = same_name job e.1.job && is_pending e.1.status

    by : (x : Option (ℕ × Evaluation)) → find f (entries t.evaluations) ≡ x → option_map (λ e. e.0) x ≡ Some n → (e : Evaluation) ×
        (get t.evaluations n ≡ Some e) × (job ≡ e.job)
    by None found is = absurd (not_Some _ is)
    by (Some x) found is =
        let y = find_each (λ e. get t.evaluations e.0 ≡ Some e.1) f (entries t.evaluations) x
        (each_row numbers_ one_number (λ k e. get t.evaluations k ≡ Some e) t.evaluations (λ k e at. at)) found in
        (x.1, ap (get t.evaluations) (sym (same_Some _ _ is)) ∙ y.0, same_name_is job x.1.job (first_of_both _ _ y.1))

pub promote_queued : (ns job : Name) (w : World) → IsQueued w → IsQueued (promote ns job w)
unfolding promote
promote_queued ns job w q = by (is_busy w ns job) refl
  where
    first : is_busy w ns job ≡ false → (t : Tenant) → get w.tenants ns ≡ Some t → (o : Option ℕ) → first_waiting job t ≡ o →
        IsQueued (option_map_or (λ n. record w { ready = w.ready ++ (ns, n) ∷ [] }) o w)
    first idle t is None waits = q
    first idle t is (Some n) waits =
        let x = waiting_of t job n waits in
        entry_queued w q ns n t x.0 is x.1 (ap (is_busy w ns) (sym x.2) ∙ idle)

    in_tenant : is_busy w ns job ≡ false → (o : Option Tenant) → get w.tenants ns ≡ o →
        IsQueued (option_map_or (λ t. option_map_or (λ n. record w { ready = w.ready ++ (ns, n) ∷ [] }) (first_waiting job t) w) o w)
    in_tenant idle None is = q
    in_tenant idle (Some t) is = first idle t is (first_waiting job t) refl

    by : (b : Bool) → is_busy w ns job ≡ b → IsQueued
        (cond b w (option_map_or (λ t. option_map_or (λ n. record w { ready = w.ready ++ (ns, n) ∷ [] }) (first_waiting job t) w) (get w.tenants ns) w))
    by true _ = q
    by false idle = in_tenant idle (get w.tenants ns) refl
