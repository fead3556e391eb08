-- A worker's step, but for Apply, keeps a world orderly.
use Rattle.std.specs.Prelude.{◌≡◌, ◌≢◌, ℕ, Bool, true, false, cond, Some, None, ◌≤◌}
use Rattle.std.proofs.Common.{◌⊎◌, inl, inr, refl, sym, ap, subst, ◌∙◌}
use Rattle.std.specs.FinMap.{get, get-remove, insert, remove}
use Rattle.std.specs.Option.{option_map_or}
use Rattle.std.specs.Ordering.{eq_by_cmp, nat_cmp}
use Rattle.ns_types.specs.declared.evaluation.Evaluation.{Evaluation}
use Rattle.ns_types.specs.declared.evaluation.Status.{Status}
use Rattle.ns_types.specs.declared.snapshot.Snapshot.{Snapshot}
use Rattle.ns_types.specs.Working.Worker.{Worker}
use Rattle.ns_types.specs.State.Names.{Name, ByNumber}
use Rattle.ns_types.specs.Settling.Outcome.{Outcome, NotEnabled}
use Rattle.ns_types.specs.State.Rows.{World, Tenant, is_open, is_pending}
use Rattle.ns_types.specs.Working.Work.{with_worker, without_worker, at_work}
use Rattle.ns_types.proofs.Lists.{not_both}
use Rattle.ns_types.proofs.Named.{numbers as numbers_, one_number, same_number_refl}
use Rattle.ns_types.proofs.Tables.{tied}
use Rattle.ns_types.proofs.Tests.{not_Some, same_Some}
use Rattle.ns_types.proofs.TableRows.{row_of_insert}
use Rattle.ns_audit.specs.Orderly.{IsAllowedTo, IsKeptBy, IsPendingIn, IsOrderlyTenant, IsReadyIn, IsBlockedIn, IsOrderly}
use Rattle.ns_audit.proofs.Steady.Keeping.{at_inserted, elsewhere, KeepsTenant}
use Rattle.ns_audit.proofs.Steady.Asks.{KeepsOrder}
use Rattle.ns_types.proofs.Leads.{leads_there}

pub removed_row : {X : Type 0} (m : ByNumber X) (k q : ℕ) (x : X) → get (remove m k) q ≡ Some x → (get m q ≡ Some x) × (q ≢ k)
removed_row m k q x is = by (eq_by_cmp nat_cmp q k) refl (sym (get-remove numbers_ m k q) ∙ is)
  where
    by : (b : Bool) → eq_by_cmp nat_cmp q k ≡ b → cond b None (get m q) ≡ Some x → (get m q ≡ Some x) × (q ≢ k)
    by true t is = absurd (not_Some _ is)
    by false t is = (is, λ same. not_both (ap (λ j. eq_by_cmp nat_cmp j k) same ∙ same_number_refl k) t)

pub pending_not_blocked : {A : Type 0} (s : Status) → s ≡ Status.Pending → s ≡ Status.Blocked → A
pending_not_blocked s p b = not_both (ap is_pending p) (ap is_pending b)

pub at_work_orderly : (w : World) (number : ℕ) (ns : Name) (act : Tenant → Worker → Evaluation → Outcome World)
    → ((t : Tenant) (worker : Worker) (e : Evaluation) → get w.tenants ns ≡ Some t → get t.workers number ≡ Some worker →
    get t.evaluations worker.evaluation ≡ Some e → KeepsOrder (act t worker e)) → KeepsOrder (at_work number ns w act)
at_work_orderly w number ns act h = leads_there IsOrderly (get w.tenants ns) _
    (λ t is. leads_there IsOrderly (get t.workers number) _
    (λ worker at. leads_there IsOrderly (get t.evaluations worker.evaluation) (act t worker) (λ e row. h t worker e is at row)))

pub keeping_orderly : (w : World) (number : ℕ) (ns : Name) (act : Tenant → Worker → Evaluation → Snapshot → Outcome World)
    → ((t : Tenant) (worker : Worker) (e : Evaluation) (kept : Snapshot) → get w.tenants ns ≡ Some t → get t.workers number ≡ Some worker →
    get t.evaluations worker.evaluation ≡ Some e → worker.kept ≡ Some kept → KeepsOrder (act t worker e kept))
    → KeepsOrder (at_work number ns w (λ t worker e. option_map_or (act t worker e) worker.kept NotEnabled))
keeping_orderly w number ns act h = at_work_orderly w number ns (λ t worker e. option_map_or (act t worker e) worker.kept NotEnabled)
    (λ t worker e is at row. leads_there IsOrderly worker.kept (act t worker e) (λ kept has. h t worker e kept is at row has))

-- ---- workers come, change and go

module _ (ns : Name) (ready blocked : ℕ → Bool) (t : Tenant) (s : IsOrderlyTenant ns t) where
  -- a worker's row is put
  worker_came : (number : ℕ) (new : Worker) (m : ℕ) (x : Worker) → get (insert t.workers number new) m ≡ Some x →
      ((m ≡ number) × (new ≡ x)) ⊎ (get t.workers m ≡ Some x)
  worker_came number new m x at = row_of_insert numbers_ one_number t.workers number new m x at

  still_pending : (number : ℕ) (new : Worker) (m : ℕ) → IsPendingIn t m → IsPendingIn (with_worker number new t) m
  still_pending number new m p = record { row = p.row; is_row = p.is_row; is_pending = p.is_pending }

  -- a new worker takes what is ready, which is then listed no more
  pub keeps_taken : (number n : ℕ) (new : Worker) → new.evaluation ≡ n → new.kept ≡ None → IsReadyIn t n → ((m : ℕ) → ready m ≡ true → n ≢ m) →
      KeepsTenant ns ready blocked t (with_worker number new t)
  keeps_taken number n new same none mine unlisted = record {
    sound = record {
      job = s.job;
      evaluation = s.evaluation;
      allocation = s.allocation;
      numbers = s.numbers;
      snapshot = λ m x k at has. kept m x k (worker_came number new m x at) has;
      held = λ m x at. held m x (worker_came number new m x at);
      one_each = λ l m v x a b e. one l m v x (worker_came number new l v a) (worker_came number new m x b) e;
    };
    ready_kept = λ m has r. record { pending = still_pending number new m r.pending; free = λ l x at. free m has r l x (worker_came number new l x at) };
    blocked_kept = λ m has b. record { row = b.row; is_row = b.is_row; is_blocked = b.is_blocked };
  }
    where
      kept : (m : ℕ) (x : Worker) (k : Snapshot) → ((m ≡ number) × (new ≡ x)) ⊎ (get t.workers m ≡ Some x) → x.kept ≡ Some k →
          IsKeptBy ns (with_worker number new t) k
      kept m x k (inl a) e = absurd (not_Some _ (sym none ∙ ap (λ y. y.kept) a.1 ∙ e))
      kept m x k (inr a) e = let y = s.snapshot m x k a e in record { namespace = y.namespace; allowed = y.allowed }

      held : (m : ℕ) (x : Worker) → ((m ≡ number) × (new ≡ x)) ⊎ (get t.workers m ≡ Some x) → IsPendingIn (with_worker number new t) x.evaluation
      held m x (inl a) = subst (IsPendingIn (with_worker number new t)) (sym same ∙ ap (λ y. y.evaluation) a.1) (still_pending number new n mine.pending)
      held m x (inr a) = still_pending number new x.evaluation (s.held m x a)

      one : (l m : ℕ) (v x : Worker) → ((l ≡ number) × (new ≡ v)) ⊎ (get t.workers l ≡ Some v) → ((m ≡ number) × (new ≡ x)) ⊎ (get t.workers m ≡ Some x) →
          v.evaluation ≡ x.evaluation → l ≡ m
      one l m v x (inl a) (inl b) e = a.0 ∙ sym b.0
      one l m v x (inl a) (inr b) e = absurd (mine.free m x b (sym e ∙ sym (ap (λ y. y.evaluation) a.1) ∙ same))
      one l m v x (inr a) (inl b) e = absurd (mine.free l v a (e ∙ sym (ap (λ y. y.evaluation) b.1) ∙ same))
      one l m v x (inr a) (inr b) e = s.one_each l m v x a b e

      free : (m : ℕ) → ready m ≡ true → IsReadyIn t m → (l : ℕ) (x : Worker) → ((l ≡ number) × (new ≡ x)) ⊎ (get t.workers l ≡ Some x) → x.evaluation ≢ m
      free m has r l x (inl a) e = unlisted m has (sym same ∙ ap (λ y. y.evaluation) a.1 ∙ e)
      free m has r l x (inr a) e = r.free l x a e

  -- a worker's row becomes another of the same evaluation
  pub keeps_worker : (number : ℕ) (worker new : Worker) → get t.workers number ≡ Some worker → worker.evaluation ≡ new.evaluation →
      ((k : Snapshot) → new.kept ≡ Some k → IsKeptBy ns t k) → KeepsTenant ns ready blocked t (with_worker number new t)
  keeps_worker number worker new has same allowed = record {
    sound = record {
      job = s.job;
      evaluation = s.evaluation;
      allocation = s.allocation;
      numbers = s.numbers;
      snapshot = λ n x k at e. let y = kept n x k (worker_came number new n x at) e in record { namespace = y.namespace; allowed = y.allowed };
      held =
          λ n x at. let z = was n x (worker_came number new n x at) in
          subst (IsPendingIn (with_worker number new t)) z.2 (still_pending number new z.0.evaluation (s.held n z.0 z.1));
      one_each =
          λ m n v x a b e. let y = was m v (worker_came number new m v a) in let z = was n x (worker_came number new n x b) in
          s.one_each m n y.0 z.0 y.1 z.1 (y.2 ∙ e ∙ sym z.2);
    };
    ready_kept = λ n _ r. record {
      pending = still_pending number new n r.pending;
      free = λ m x at e. let z = was m x (worker_came number new m x at) in r.free m z.0 z.1 (z.2 ∙ e);
    };
    blocked_kept = λ n _ b. record { row = b.row; is_row = b.is_row; is_blocked = b.is_blocked };
  }
    where
      -- the worker as it was, with that evaluation
      was : (n : ℕ) (x : Worker) → ((n ≡ number) × (new ≡ x)) ⊎ (get t.workers n ≡ Some x) → (y : Worker) × (get t.workers n ≡ Some y) ×
          (y.evaluation ≡ x.evaluation)
      was n x (inl a) = (worker, ap (get t.workers) a.0 ∙ has, same ∙ ap (λ y. y.evaluation) a.1)
      was n x (inr a) = (x, a, refl)

      kept : (n : ℕ) (x : Worker) (k : Snapshot) → ((n ≡ number) × (new ≡ x)) ⊎ (get t.workers n ≡ Some x) → x.kept ≡ Some k → IsKeptBy ns t k
      kept n x k (inl a) e = allowed k (ap (λ y. y.kept) a.1 ∙ e)
      kept n x k (inr a) e = s.snapshot n x k a e

  pub keeps_without_worker : (number : ℕ) → KeepsTenant ns ready blocked t (without_worker number t)
  keeps_without_worker number = record {
    sound = record {
      job = s.job;
      evaluation = s.evaluation;
      allocation = s.allocation;
      numbers = s.numbers;
      snapshot = λ m x k at has. let y = s.snapshot m x k (removed_row t.workers number m x at).0 has in
          record { namespace = y.namespace; allowed = y.allowed };
      held = λ m x at. still x.evaluation (s.held m x (removed_row t.workers number m x at).0);
      one_each = λ l m v x a b e. s.one_each l m v x (removed_row t.workers number l v a).0 (removed_row t.workers number m x b).0 e;
    };
    ready_kept = λ m has r. record { pending = still m r.pending; free = λ l x at. r.free l x (removed_row t.workers number l x at).0 };
    blocked_kept = λ m has b. record { row = b.row; is_row = b.is_row; is_blocked = b.is_blocked };
  }
    where
      still : (m : ℕ) → IsPendingIn t m → IsPendingIn (without_worker number t) m
      still m p = record { row = p.row; is_row = p.is_row; is_pending = p.is_pending }

  -- ---- an evaluation in the place of another

  module _ (n : ℕ) (e new : Evaluation) (at : get t.evaluations n ≡ Some e) (allowed : is_open new.status ≡ true → IsAllowedTo t.namespace new.pool new.quota)
    where
      came_new : (k : ℕ) (x : Evaluation) → get (insert t.evaluations n new) k ≡ Some x → ((k ≡ n) × (new ≡ x)) ⊎ (get t.evaluations k ≡ Some x)
      came_new k x is = row_of_insert numbers_ one_number t.evaluations n new k x is

      new_sound : ((m : ℕ) (x : Worker) → get t.workers m ≡ Some x → IsPendingIn (record t { evaluations = insert t.evaluations n new }) x.evaluation) →
          IsOrderlyTenant ns (record t { evaluations = insert t.evaluations n new })
      new_sound holds = record {
        job = s.job;
        allocation = s.allocation;
        one_each = s.one_each;
        held = holds;
        snapshot = λ m x k is has. let y = s.snapshot m x k is has in record { namespace = y.namespace; allowed = y.allowed };
        evaluation = λ k x is. evaluation k x (came_new k x is);
        numbers = λ k x is. bound k x (came_new k x is);
      }
        where
          evaluation : (k : ℕ) (x : Evaluation) → ((k ≡ n) × (new ≡ x)) ⊎ (get t.evaluations k ≡ Some x) → is_open x.status ≡ true →
              IsAllowedTo t.namespace x.pool x.quota
          evaluation k x (inl a) = subst (λ x. is_open x.status ≡ true → IsAllowedTo t.namespace x.pool x.quota) a.1 allowed
          evaluation k x (inr a) = s.evaluation k x a

          bound : (k : ℕ) (x : Evaluation) → ((k ≡ n) × (new ≡ x)) ⊎ (get t.evaluations k ≡ Some x) → k ≤ t.evaluation_number
          bound k x (inl a) = subst (λ j. j ≤ t.evaluation_number) (sym a.0) (s.numbers n e at)
          bound k x (inr a) = s.numbers k x a

      -- with the same status
      pub keeps_row : new.status ≡ e.status → KeepsTenant ns ready blocked t (record t { evaluations = insert t.evaluations n new })
      keeps_row same = record {
        sound = new_sound (λ m x is. still x.evaluation (s.held m x is));
        ready_kept = λ m has r. record { pending = still m r.pending; free = r.free };
        blocked_kept = λ m has b. by_blocked m b (eq_by_cmp nat_cmp m n) refl;
      }
        where
          still : (m : ℕ) → IsPendingIn t m → IsPendingIn (record t { evaluations = insert t.evaluations n new }) m
          still m p = by (eq_by_cmp nat_cmp m n) refl
            where
              by : (b : Bool) → eq_by_cmp nat_cmp m n ≡ b → IsPendingIn (record t { evaluations = insert t.evaluations n new }) m
              by true is = let k = tied one_number m n is in record {
                row = new;
                is_row = ap (get (insert t.evaluations n new)) k ∙ at_inserted numbers_ t.evaluations n new (same_number_refl n);
                is_pending = same ∙ ap (λ e. e.status) (same_Some _ _ (sym at ∙ ap (get t.evaluations) (sym k) ∙ p.is_row)) ∙ p.is_pending;
              }
              by false is = record {
                row = p.row;
                is_pending = p.is_pending;
                is_row =
                    elsewhere t.evaluations n m new p.row (λ k. not_both (ap (λ j. eq_by_cmp nat_cmp j n) k ∙ same_number_refl n) is) p.is_row;
              }

          by_blocked : (m : ℕ) → IsBlockedIn t m → (b : Bool) → eq_by_cmp nat_cmp m n ≡ b →
              IsBlockedIn (record t { evaluations = insert t.evaluations n new }) m
          by_blocked m p true is = let k = tied one_number m n is in record {
            row = new;
            is_row = ap (get (insert t.evaluations n new)) k ∙ at_inserted numbers_ t.evaluations n new (same_number_refl n);
            is_blocked = same ∙ ap (λ e. e.status) (same_Some _ _ (sym at ∙ ap (get t.evaluations) (sym k) ∙ p.is_row)) ∙ p.is_blocked;
          }
          by_blocked m p false is = record {
            row = p.row;
            is_blocked = p.is_blocked;
            is_row =
                elsewhere t.evaluations n m new p.row (λ k. not_both (ap (λ j. eq_by_cmp nat_cmp j n) k ∙ same_number_refl n) is) p.is_row;
          }

      -- one that no worker has and no list names
      pub keeps_other : ((m : ℕ) (x : Worker) → get t.workers m ≡ Some x → x.evaluation ≢ n) → ((m : ℕ) → ready m ≡ true → m ≢ n) →
          ((m : ℕ) → blocked m ≡ true → m ≢ n) → KeepsTenant ns ready blocked t (record t { evaluations = insert t.evaluations n new })
      keeps_other free unready unblocked = record {
        sound = new_sound (λ m x is. still x.evaluation (free m x is) (s.held m x is));
        ready_kept = λ m has r. record { pending = still m (unready m has) r.pending; free = r.free };
        blocked_kept = λ m has b. record { row = b.row; is_blocked = b.is_blocked; is_row = elsewhere t.evaluations n m new b.row (unblocked m has) b.is_row };
      }
        where
          still : (m : ℕ) → m ≢ n → IsPendingIn t m → IsPendingIn (record t { evaluations = insert t.evaluations n new }) m
          still m differs p = record { row = p.row; is_pending = p.is_pending; is_row = elsewhere t.evaluations n m new p.row differs p.is_row }
