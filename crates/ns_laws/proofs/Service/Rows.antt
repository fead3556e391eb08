-- What a worker that finishes or gives back makes of the evaluations of its namespace.
use Rattle.std.specs.Prelude.{◌≡◌, ◌⊎◌, ℕ, ◌+◌, ◌≤◌, Bool, true, false, ◌&&◌, Option, Some, None, find, option_map}
use Rattle.std.proofs.Common.{inl, inr, refl, sym, ap, subst, ◌∙◌}
use Rattle.std.specs.FinMap.{get, entries, insert}
use Rattle.std.specs.Option.{option_map_or}
use Rattle.ns_types.specs.declared.evaluation.Evaluation.{Evaluation}
use Rattle.ns_types.specs.declared.evaluation.Status.{Status}
use Rattle.ns_types.specs.declared.evaluation.Status.TheVariants as Statuses
use Rattle.ns_types.specs.Settling.Making.{with_status, with_evaluation}
use Rattle.ns_types.specs.State.Names.{Name, same_name, same_number}
use Rattle.ns_types.specs.State.Rows.{Tenant, is_blocked, is_pending}
use Rattle.ns_types.specs.Working.Work.{blocked_of, cancel_blocked, with_follower}
use Rattle.ns_types.proofs.Lists.{not_both}
use Rattle.ns_types.proofs.Named.{numbers, one_number, first_of_both, second_of_both, same_name_is, same_number_refl}
use Rattle.ns_types.proofs.TableRows.{row_of_insert, get_put}
use Rattle.ns_types.proofs.Tables.{each_row, tied}
use Rattle.ns_types.proofs.Tests.{not_Some, same_Some}
use Rattle.ns_audit.proofs.Alone.Orderly.{blocked_is}
use Rattle.ns_audit.proofs.Steady.Keeping.{elsewhere}
use Rattle.ns_audit.proofs.Steady.Workers.{find_each}
use Rattle.ns_audit.proofs.ValidWorkers.Busy.{IsNumbered}
use Rattle.ns_audit.proofs.ValidWorkers.Quiet.{grows_with_evaluation}
use Rattle.ns_laws.specs.Serving.{IsSameEvaluation}

-- ---- one evaluation

-- an evaluation is the same with another status, nacks, follower and indexes
pub same_but : (a : Evaluation) (status : Status) (nacks : ℕ) (follower : Option ℕ) (created modified : ℕ) →
    IsSameEvaluation a (record a { status = status; nacks = nacks; follower = follower; create_index = created; modify_index = modified })
same_but a status nacks follower created modified = record {
  job = refl;
  kind = refl;
  priority = refl;
  pool = refl;
  trigger = refl;
  previous = refl;
  quota = refl;
  escapes = refl;
  infeasible = refl;
}

pub same_itself : (a : Evaluation) → IsSameEvaluation a a
same_itself a = same_but a _ _ _ _ _

pub same_then : (a b c : Evaluation) → IsSameEvaluation a b → IsSameEvaluation b c → IsSameEvaluation a c
same_then a b c p q = record {
  job = q.job ∙ p.job;
  kind = q.kind ∙ p.kind;
  priority = q.priority ∙ p.priority;
  pool = q.pool ∙ p.pool;
  trigger = q.trigger ∙ p.trigger;
  previous = q.previous ∙ p.previous;
  quota = q.quota ∙ p.quota;
  escapes = q.escapes ∙ p.escapes;
  infeasible = q.infeasible ∙ p.infeasible;
}

abbrev pub HasFinished : Status → Type 0
HasFinished status = (status ≡ Statuses.Complete) ⊎ (status ≡ Statuses.Failed)

pub finished_not : (s : Status) → HasFinished s → is_blocked s ≡ false
finished_not s (inl e) = ap is_blocked e
finished_not s (inr e) = ap is_blocked e

pub finished_not_pending : (s : Status) → HasFinished s → is_pending s ≡ false
finished_not_pending s (inl e) = ap is_pending e
finished_not_pending s (inr e) = ap is_pending e

-- Of the worker's evaluation n, which is of that job, and of the others. It may be closed with the status `end`, and
-- the job's blocked one may be canceled.
module _ (n : ℕ) (job : Name) (end : Status) (closed : HasFinished end) (Closes Cancels : Type 0) where
  pub data Shift (m : ℕ) (a b : Evaluation) : Type 0 where
    rests : b.status ≡ a.status → Shift m a b
    finishes : Closes → m ≡ n → b.status ≡ end → Shift m a b
    cancels : Cancels → a.status ≡ Statuses.Blocked → a.job ≡ job → b.status ≡ Statuses.Canceled → Shift m a b

  pub record Shifts (m : ℕ) (a b : Evaluation) : Type 0 where
    pub same : IsSameEvaluation a b
    pub shift : Shift m a b

  shift_then : (m : ℕ) (a b c : Evaluation) → b.job ≡ a.job → Shift m a b → Shift m b c → Shift m a c
  shift_then m a b c job_is (rests p) (rests q) = rests (q ∙ p)
  shift_then m a b c job_is (rests p) (finishes may its q) = finishes may its q
  shift_then m a b c job_is (rests p) (cancels may was of_job q) = cancels may (sym p ∙ was) (sym job_is ∙ of_job) q
  shift_then m a b c job_is (finishes may its p) (rests q) = finishes may its (q ∙ p)
  shift_then m a b c job_is (finishes may its p) (finishes may_ its_ q) = finishes may its q
  shift_then m a b c job_is (finishes may its p) (cancels may_ was of_job q) = not_both (ap is_blocked was) (ap is_blocked p ∙ finished_not end closed)
  shift_then m a b c job_is (cancels may was of_job p) (rests q) = cancels may was of_job (q ∙ p)
  shift_then m a b c job_is (cancels may was of_job p) (finishes may_ its q) = finishes may_ its q
  shift_then m a b c job_is (cancels may was of_job p) (cancels may_ was_ of_job_ q) = cancels may was of_job q

  shifts_itself : (m : ℕ) (a : Evaluation) → Shifts m a a
  shifts_itself m a = record { same = same_itself a; shift = rests refl }

  pub record Works (t u : Tenant) : Type 0 where
    pub numbered : IsNumbered t → IsNumbered u
    pub rows : IsNumbered t → (m : ℕ) (a : Evaluation) → get t.evaluations m ≡ Some a → (b : Evaluation) × (get u.evaluations m ≡ Some b) × Shifts m a b
    pub back : (m : ℕ) (b : Evaluation) → get u.evaluations m ≡ Some b → b.status ≡ Statuses.Pending →
        (b.job ≡ job) ⊎ ((a : Evaluation) × (get t.evaluations m ≡ Some a) × (a.status ≡ Statuses.Pending) × (b.job ≡ a.job))

  pub works_same : (t u : Tenant) → u.evaluations ≡ t.evaluations → u.evaluation_number ≡ t.evaluation_number → Works t u
  works_same t u evaluations number = record {
    numbered = λ numbered m e at. subst (λ k. m ≤ k) (sym number) (numbered m e (ap (λ r. get r m) (sym evaluations) ∙ at));
    rows = λ _ m a at. (a, ap (λ r. get r m) evaluations ∙ at, shifts_itself m a);
    back = λ m b at p. inr (b, ap (λ r. get r m) (sym evaluations) ∙ at, p, refl);
  }

  pub works_then : (t u v : Tenant) → Works t u → Works u v → Works t v
  works_then t u v f g = record {
    numbered = λ numbered. g.numbered (f.numbered numbered);
    rows = λ numbered m a at.
        let b = f.rows numbered m a at in
        let c = g.rows (f.numbered numbered) m b.0 b.1 in
        (c.0, c.1, record { same = same_then a b.0 c.0 b.2.same c.2.same; shift = shift_then m a b.0 c.0 b.2.same.job b.2.shift c.2.shift });
    back = λ m c at p. by m c (g.back m c at p);
  }
    where
      by : (m : ℕ) (c : Evaluation) → (c.job ≡ job) ⊎ ((b : Evaluation) × (get u.evaluations m ≡ Some b) × (b.status ≡ Statuses.Pending) × (c.job ≡ b.job)) →
          (c.job ≡ job) ⊎ ((a : Evaluation) × (get t.evaluations m ≡ Some a) × (a.status ≡ Statuses.Pending) × (c.job ≡ a.job))
      by m c (inl same) = inl same
      by m c (inr b) = before (f.back m b.0 b.1 b.2)
        where
          before : (b.0.job ≡ job) ⊎ ((a : Evaluation) × (get t.evaluations m ≡ Some a) × (a.status ≡ Statuses.Pending) × (b.0.job ≡ a.job)) →
              (c.job ≡ job) ⊎ ((a : Evaluation) × (get t.evaluations m ≡ Some a) × (a.status ≡ Statuses.Pending) × (c.job ≡ a.job))
          before (inl same) = inl (b.3 ∙ same)
          before (inr a) = inr (a.0, a.1, a.2, b.3 ∙ a.3)

  -- a row in the place of another
  pub works_row : (k : ℕ) (t : Tenant) (old new : Evaluation) → get t.evaluations k ≡ Some old → Shifts k old new →
      (new.status ≡ Statuses.Pending → old.status ≡ Statuses.Pending) → Works t (record t { evaluations = insert t.evaluations k new })
  works_row k t old new k_at shifts was = record {
    numbered = λ numbered m e at. bound numbered m e (row_of_insert numbers one_number t.evaluations k new m e at);
    rows = λ _ m a at. by m a at (same_number m k) refl;
    back = λ m b at p. before m b p (row_of_insert numbers one_number t.evaluations k new m b at);
  }
    where
      bound : IsNumbered t → (m : ℕ) (e : Evaluation) → ((m ≡ k) × (new ≡ e)) ⊎ (get t.evaluations m ≡ Some e) → m ≤ t.evaluation_number
      bound numbered m e (inl is) = subst (λ j. j ≤ t.evaluation_number) (sym is.0) (numbered k old k_at)
      bound numbered m e (inr at) = numbered m e at

      by : (m : ℕ) (a : Evaluation) → get t.evaluations m ≡ Some a → (b : Bool) → same_number m k ≡ b → (b : Evaluation) ×
          (get (insert t.evaluations k new) m ≡ Some b) × Shifts m a b
      by m a at true is =
          let same = tied one_number m k is in
          let row : old ≡ a = same_Some _ _ (sym k_at ∙ ap (get t.evaluations) (sym same) ∙ at) in (
            new,
            ap (get (insert t.evaluations k new)) same ∙ get_put numbers one_number t.evaluations k new,
            subst (λ a. Shifts m a new) row (subst (λ m. Shifts m old new) (sym same) shifts),
          )
      by m a at false is = (
        a,
        elsewhere t.evaluations k m new a (λ same. not_both (ap (λ j. same_number j k) same ∙ same_number_refl k) is) at,
        shifts_itself m a,
      )

      before : (m : ℕ) (b : Evaluation) → b.status ≡ Statuses.Pending → ((m ≡ k) × (new ≡ b)) ⊎ (get t.evaluations m ≡ Some b) →
          (b.job ≡ job) ⊎ ((a : Evaluation) × (get t.evaluations m ≡ Some a) × (a.status ≡ Statuses.Pending) × (b.job ≡ a.job))
      before m b p (inr at) = inr (b, at, p, refl)
      before m b p (inl e) = inr (
        old,
        ap (get t.evaluations) e.0 ∙ k_at,
        was (ap (λ (e : Evaluation). e.status) e.1 ∙ p),
        ap (λ (e : Evaluation). e.job) (sym e.1) ∙ shifts.same.job,
      )

  -- ---- the changes

  pub works_finish : Closes → (t : Tenant) → Works t (with_status n end t)
  works_finish may t = by (get t.evaluations n) refl
    where
      by : (o : Option Evaluation) → get t.evaluations n ≡ o →
          Works t (option_map_or (λ e. record t { evaluations = insert t.evaluations n (record e { status = end }) }) o t)
      by None at = works_same t t refl refl
      by (Some e) at = works_row n t e (record e { status = end }) at
          (record { same = same_but e end _ _ _ _; shift = finishes may refl refl }) (λ p. not_both (ap is_pending p) (finished_not_pending end closed))

  -- the job's blocked evaluation
  blocked_one : (t : Tenant) (k : ℕ) → blocked_of t job ≡ Some k →
      (e : Evaluation) × (get t.evaluations k ≡ Some e) × (e.status ≡ Statuses.Blocked) × (e.job ≡ job)
  blocked_one t k is = by (find f (entries t.evaluations)) refl is
    where
      f : (ℕ × Evaluation) → Bool
      f e = same_name job e.1.job && is_blocked e.1.status

      by : (x : Option (ℕ × Evaluation)) → find f (entries t.evaluations) ≡ x → option_map (λ e. e.0) x ≡ Some k →
          (e : Evaluation) × (get t.evaluations k ≡ Some e) × (e.status ≡ Statuses.Blocked) × (e.job ≡ job)
      by None found is = absurd (not_Some _ is)
      by (Some x) found is =
          let y = find_each (λ e. get t.evaluations e.0 ≡ Some e.1) f (entries t.evaluations) x
          (each_row numbers one_number (λ k e. get t.evaluations k ≡ Some e) t.evaluations (λ k e at. at)) found in (
            x.1,
            ap (get t.evaluations) (sym (same_Some _ _ is)) ∙ y.0,
            blocked_is x.1.status (second_of_both (same_name job x.1.job) _ y.1),
            sym (same_name_is job x.1.job (first_of_both _ _ y.1)),
          )

  pub works_cancel : Cancels → (t : Tenant) → Works t (cancel_blocked job t)
  works_cancel may t = by (blocked_of t job) refl
    where
      by : (o : Option ℕ) → blocked_of t job ≡ o → Works t (option_map_or (λ k. with_status k Statuses.Canceled t) o t)
      by None is = works_same t t refl refl
      by (Some k) is =
          let b = blocked_one t k is in
          subst (Works t) (sym (ap (λ o. option_map_or (λ e. record t {
            evaluations = insert t.evaluations k (record e { status = Statuses.Canceled });
          }) o t) b.1))
          (works_row k t b.0 (record b.0 { status = Statuses.Canceled }) b.1
          (record { same = same_but b.0 Statuses.Canceled _ _ _ _; shift = cancels may b.2 b.3 refl }) (λ p. not_both (ap is_pending p) refl))

  pub works_nack : (t : Tenant) (e : Evaluation) (nacks : ℕ) → get t.evaluations n ≡ Some e →
      Works t (record t { evaluations = insert t.evaluations n (record e { nacks = nacks }) })
  works_nack t e nacks at = works_row n t e (record e { nacks = nacks }) at
      (record { same = same_but e _ nacks _ _ _; shift = rests refl }) (λ p. p)

  -- a new evaluation of the job
  works_grow : (f : Evaluation) (t : Tenant) → f.job ≡ job → Works t (with_evaluation f t)
  works_grow f t of_job = let g = grows_with_evaluation f t in record {
    numbered = g.numbered;
    rows = λ numbered m a at. (a, g.rows numbered m a at, shifts_itself m a);
    back = λ m b at p. by m b p (row_of_insert numbers one_number t.evaluations (t.evaluation_number + 1) f m b at);
  }
    where
      by : (m : ℕ) (b : Evaluation) → b.status ≡ Statuses.Pending → ((m ≡ t.evaluation_number + 1) × (f ≡ b)) ⊎ (get t.evaluations m ≡ Some b) →
          (b.job ≡ job) ⊎ ((a : Evaluation) × (get t.evaluations m ≡ Some a) × (a.status ≡ Statuses.Pending) × (b.job ≡ a.job))
      by m b p (inl e) = inl (ap (λ (e : Evaluation). e.job) (sym e.1) ∙ of_job)
      by m b p (inr at) = inr (b, at, p, refl)

  pub works_follower : (f : Evaluation) (t : Tenant) → f.job ≡ job → Works t (with_follower n f t)
  works_follower f t of_job = by (get t.evaluations n) refl
    where
      tied_row : Option Evaluation → Tenant
      tied_row o = option_map_or (λ e. record t { evaluations = insert t.evaluations n (record e { follower = Some (t.evaluation_number + 1) }) }) o t

      by : (o : Option Evaluation) → get t.evaluations n ≡ o →
          Works t (record (tied_row o) {
            evaluation_number = t.evaluation_number + 1;
            evaluations = insert (tied_row o).evaluations (t.evaluation_number + 1) f;
          })
      by None at = works_grow f t of_job
      by (Some e) at =
          let row : Evaluation = record e { follower = Some (t.evaluation_number + 1) } in
          works_then t (record t { evaluations = insert t.evaluations n row }) _
          (works_row n t e row at (record { same = same_but e _ _ (Some (t.evaluation_number + 1)) _ _; shift = rests refl }) (λ p. p))
          (works_grow f (record t { evaluations = insert t.evaluations n row }) of_job)
