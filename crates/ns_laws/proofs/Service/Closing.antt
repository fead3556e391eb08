-- What a Finish or a Nack makes of the evaluations of every namespace.
use Rattle.std.specs.Prelude.{◌≡◌, ◌⊎◌, ℕ, ◌+◌, ◌<◌, Bool, true, false, cond, [], ◌∷◌, ◌++◌, Option, Some, None, nat_le}
use Rattle.std.proofs.Common.{inl, inr, refl, sym, ap, subst, ◌∙◌, arith}
use Rattle.std.proofs.lemmas.Bool.{leb-true}
use Rattle.std.specs.FinMap.{get, insert, remove}
use Rattle.std.specs.Option.{option_map_or, option_and_then}
use Rattle.ns_types.specs.declared.evaluation.Evaluation.{Evaluation}
use Rattle.ns_types.specs.declared.evaluation.Status.{Status}
use Rattle.ns_types.specs.declared.evaluation.Status.TheVariants as Statuses
use Rattle.ns_types.specs.declared.reply.Content.TheVariants as Content
use Rattle.ns_types.specs.declared.snapshot.Snapshot.{Snapshot}
use Rattle.ns_types.specs.declared.step.Step.{Step}
use Rattle.ns_types.specs.Settling.Making.{put_tenant, with_status}
use Rattle.ns_types.specs.Settling.Outcome.{NotEnabled, Done}
use Rattle.ns_types.specs.Settling.Releases.{missed}
use Rattle.ns_types.specs.State.Names.{Key, Name, has_key, same_name, same_number}
use Rattle.ns_types.specs.State.Rows.{World, Tenant, evaluation_at, is_open}
use Rattle.ns_types.specs.Validity.{IsSound}
use Rattle.ns_types.specs.Working.Looks.{worker_at}
use Rattle.ns_types.specs.Working.Queue.{promote}
use Rattle.ns_types.specs.Working.Work.{without_worker, without_key, is_submitted, most_nacks, with_nack}
use Rattle.ns_types.specs.Working.Work.{given_back, given_up, nack_for, nack, end_of, has_failed}
use Rattle.ns_types.specs.Working.Work.{needs_follower, follower_of, without_blocked, ended, with_follower}
use Rattle.ns_types.specs.Working.Work.{followed, finished, finish_for, finish, may_finish, blocked_of}
use Rattle.ns_types.specs.Working.Worker.{Worker}
use Rattle.ns_types.proofs.Leads.{Leads, leads_if, leads_at_work, leads_keeping}
use Rattle.ns_types.proofs.Lists.{not_both}
use Rattle.ns_types.proofs.Named.{numbers, one_number, same_name_is, same_number_refl}
use Rattle.ns_types.proofs.TableRows.{get_put}
use Rattle.ns_types.proofs.Tables.{tied}
use Rattle.ns_types.proofs.Tests.{same_Some}
use Rattle.ns_audit.proofs.ValidAllocations.Work.{unlisted_tenants}
use Rattle.ns_audit.proofs.ValidEvaluations.Work.{held_pending}
use Rattle.ns_audit.proofs.ValidWorkers.Busy.{IsNumbered}
use Rattle.ns_audit.proofs.ValidWorkers.Change.{left_row}
use Rattle.ns_audit.proofs.ValidWorkers.Finish.{with_status_workers, cancel_workers, follower_workers}
use Rattle.ns_laws.specs.Ending.{IsDeletionOf}
use Rattle.ns_laws.specs.Serving as law
use Rattle.ns_laws.specs.Serving.{IsUnderWay, is_ready, HasOneUnderWay, IsSameEvaluation, ForgetsNone, EvaluationEnds}
use Rattle.ns_laws.proofs.QueueLemmas.{promote_tenants}
use Rattle.ns_laws.proofs.Service.Keeping.{longer, last_one, ready_promote, promote_one}
use Rattle.ns_laws.proofs.Service.Lists.{evaluation_is, row_of_tenant}
use Rattle.ns_laws.proofs.Service.Rows.{Shift, Shifts, Works, works_same, works_then, works_finish, works_cancel, works_nack, works_follower, HasFinished}
use Rattle.ns_laws.proofs.Service.Rows.{rests, finishes, cancels, same_itself}
use Rattle.ns_laws.proofs.Service.Worlds.{Keeps, here, apart, its_worker, under_put}

-- ---- what a step's own change makes of each evaluation, before the step settles

module _ (w : World) (step : Step) where
  pub record Turned (key : Key) (a b : Evaluation) : Type 0 where
    pub same : IsSameEvaluation a b
    pub status : (b.status ≡ a.status) ⊎ ((is_open a.status ≡ true) × EvaluationEnds w step key a b)

  abbrev pub Passes : World → Key → Evaluation → Type 0
  Passes x key a = ((b : Evaluation) × (evaluation_at x key ≡ Some b) × Turned key a b)
      ⊎ ((is_open a.status ≡ false) × (get x.tenants key.0 ≡ None) × IsDeletionOf step key.0)

  pub record Leaves (x : World) : Type 0 where
    pub forgets : ForgetsNone w → ForgetsNone x
    pub goes : (key : Key) (a : Evaluation) → evaluation_at w key ≡ Some a → Passes x key a

  pub leaves_keeps : (x : World) → Keeps w x → Leaves x
  leaves_keeps x k = record {
    forgets = λ none ns n d at p. by none ns n d p (k.back (ns, n) d at);
    goes = λ key a at. inl (a, k.rows key a at, record { same = same_itself a; status = inl refl });
  }
    where
      by : ForgetsNone w → (ns : Name) (n : ℕ) (d : Evaluation) → d.status ≡ Statuses.Pending →
          (evaluation_at w (ns, n) ≡ Some d) ⊎ HasOneUnderWay x ns d.job → HasOneUnderWay x ns d.job
      by none ns n d p (inl was) = k.one ns d.job (none ns n d was p)
      by none ns n d p (inr o) = o

-- ---- a worker closes or gives back its evaluation

module _ (w : World) (sound : IsSound w) (ns : Name) (number : ℕ) (t : Tenant) (worker : Worker) (e : Evaluation) (is : get w.tenants ns ≡ Some t)
    (has : get t.workers number ≡ Some worker) (at : get t.evaluations worker.evaluation ≡ Some e)
    (end : Status) (closed : HasFinished end) (Closes Cancels : Type 0) where
  abbrev Goes : Tenant → Tenant → Type 0
  Goes = Works worker.evaluation e.job end closed Closes Cancels

  abbrev Row : ℕ → Evaluation → Evaluation → Type 0
  Row = Shifts worker.evaluation e.job end closed Closes Cancels

  module _ (u : Tenant) (workers : u.workers ≡ remove t.workers number) (works : Goes t u) (x : World) (put : x.tenants ≡ insert w.tenants ns u)
      (ready : (key : Key) → has_key w.ready key ≡ true → has_key x.ready key ≡ true)
      (one : (m : ℕ) (d : Evaluation) → evaluation_at x (ns, m) ≡ Some d → d.status ≡ Statuses.Pending → d.job ≡ e.job → HasOneUnderWay x ns e.job) where
    numbered : IsNumbered t
    numbered n d d_at = ((sound.tenant ns t is).evaluation n d d_at).below

    under : (k : Name) (n : ℕ) → IsUnderWay w k n → IsUnderWay x k n ⊎ ((k ≡ ns) × (n ≡ worker.evaluation))
    under = under_put w ns t u is x put (λ k n. (k ≡ ns) × (n ≡ worker.evaluation)) (λ k n listed. inl (is_ready (ready (k, n) listed))) held
      where
        held : (m : ℕ) (v : Worker) → get t.workers m ≡ Some v → IsUnderWay x ns v.evaluation ⊎ ((ns ≡ ns) × (v.evaluation ≡ worker.evaluation))
        held m v v_at = by (same_number m number) refl
          where
            by : (b : Bool) → same_number m number ≡ b → IsUnderWay x ns v.evaluation ⊎ ((ns ≡ ns) × (v.evaluation ≡ worker.evaluation))
            by true same = inr (
              refl,
              ap (λ (v : Worker). v.evaluation)
                  (same_Some _ _ (sym v_at ∙ ap (get t.workers) (tied one_number m number same) ∙ has)),
            )
            by false other = inl (its_worker w ns t u is x put m v (ap (λ r. get r m) workers
                ∙ left_row t.workers number m v (λ same. not_both (ap (λ j. same_number j number) same ∙ same_number_refl number) other) v_at))

    row_to : (key : Key) (a : Evaluation) → evaluation_at w key ≡ Some a →
        (b : Evaluation) × (evaluation_at x key ≡ Some b) × ((b ≡ a) ⊎ ((key.0 ≡ ns) × Row key.1 a b))
    row_to key a a_at = by (same_name key.0 ns) refl
      where
        by : (c : Bool) → same_name key.0 ns ≡ c → (b : Evaluation) × (evaluation_at x key ≡ Some b) × ((b ≡ a) ⊎ ((key.0 ≡ ns) × Row key.1 a b))
        by true same =
            let name = same_name_is key.0 ns same in
            let b = works.rows numbered key.1 a (row_of_tenant w key t a (ap (get w.tenants) name ∙ is) a_at) in
            (b.0, evaluation_is x key u b.0 (ap (get x.tenants) name ∙ here w ns t u is x put) b.1, inr (name, b.2))
        by false other = (a, ap (option_and_then (λ (t : Tenant). get t.evaluations key.1)) (apart w ns t u is x put key.0 other) ∙ a_at, inl refl)

    same_job : (m : ℕ) (k : Name) (a b : Evaluation) → (b ≡ a) ⊎ ((k ≡ ns) × Row m a b) → b.job ≡ a.job
    same_job m k a b (inl same) = ap (λ (e : Evaluation). e.job) same
    same_job m k a b (inr p) = p.1.same.job

    on : (k job : Name) → HasOneUnderWay w k job → HasOneUnderWay x k job ⊎ ((k ≡ ns) × (job ≡ e.job))
    on k job o = by (under k o.number o.under_way)
      where
        by : IsUnderWay x k o.number ⊎ ((k ≡ ns) × (o.number ≡ worker.evaluation)) → HasOneUnderWay x k job ⊎ ((k ≡ ns) × (job ≡ e.job))
        by (inl way) = let b = row_to (k, o.number) o.row o.is_row in
            inl (record { number = o.number; row = b.0; is_row = b.1; of_job = same_job o.number k o.row b.0 b.2 ∙ o.of_job; under_way = way })
        by (inr p) =
            let row : o.row ≡ e = same_Some _ _ (sym (row_of_tenant w (k, o.number) t o.row (ap (get w.tenants) p.0 ∙ is) o.is_row)
            ∙ ap (get t.evaluations) p.1 ∙ at) in
            inr (p.0, sym o.of_job ∙ ap (λ (e : Evaluation). e.job) row)

    closing_forgets : ForgetsNone w → ForgetsNone x
    closing_forgets none k m d d_at p = by (same_name k ns) refl
      where
        last : HasOneUnderWay x k d.job ⊎ ((k ≡ ns) × (d.job ≡ e.job)) → HasOneUnderWay x k d.job
        last (inl o) = o
        last (inr c) = subst (λ (q : Name × Name). HasOneUnderWay x q.0 q.1) (λ i. (sym c.0 i, sym c.1 i))
            (one m d (ap (λ k. evaluation_at x (k, m)) (sym c.0) ∙ d_at) p c.1)

        by : (b : Bool) → same_name k ns ≡ b → HasOneUnderWay x k d.job
        by false other = last (on k d.job (none k m d
            (sym (ap (option_and_then (λ (t : Tenant). get t.evaluations m)) (apart w ns t u is x put k other)) ∙ d_at) p))
        by true same = own (works.back m d (row_of_tenant x (k, m) u d (ap (get x.tenants) name ∙ here w ns t u is x put) d_at) p)
          where
            name : k ≡ ns
            name = same_name_is k ns same

            own : (d.job ≡ e.job) ⊎ ((a : Evaluation) × (get t.evaluations m ≡ Some a) × (a.status ≡ Statuses.Pending) × (d.job ≡ a.job)) →
                HasOneUnderWay x k d.job
            own (inl of_job) = last (inr (name, of_job))
            own (inr a) = last (on k d.job (subst (HasOneUnderWay w k) (sym a.3)
                (none k m a.0 (evaluation_is w (k, m) t a.0 (ap (get w.tenants) name ∙ is) a.1) a.2)))

    pub closing : (step : Step)
        → (Closes → (a b : Evaluation) → a ≡ e → b.status ≡ end → EvaluationEnds w step (ns, worker.evaluation) a b)
        → (Cancels → (m : ℕ) (a b : Evaluation) → a.status ≡ Statuses.Blocked → a.job ≡ e.job → b.status ≡ Statuses.Canceled →
        EvaluationEnds w step (ns, m) a b) → Leaves w step x
    closing step closes cancels_ = record { forgets = closing_forgets; goes = λ key a a_at. by key a a_at (row_to key a a_at) }
      where
        turned : (key : Key) (a b : Evaluation) → evaluation_at w key ≡ Some a → key.0 ≡ ns →
            Shift worker.evaluation e.job end closed Closes Cancels key.1 a b →
            (b.status ≡ a.status) ⊎ ((is_open a.status ≡ true) × EvaluationEnds w step key a b)
        turned key a b a_at name (rests p) = inl p
        turned key a b a_at name (finishes may its p) =
            let row : a ≡ e = same_Some _ _ (sym (row_of_tenant w key t a (ap (get w.tenants) name ∙ is) a_at) ∙ ap (get t.evaluations) its ∙ at) in
            inr (
              ap is_open (ap (λ (e : Evaluation). e.status) row ∙ held_pending w sound ns t is number worker has e at),
              subst (λ (key : Key). EvaluationEnds w step key a b) (λ i. (sym name i, sym its i)) (closes may a b row p),
            )
        turned key a b a_at name (cancels may was of_job p) = inr (
          ap is_open was,
          subst (λ k. EvaluationEnds w step (k, key.1) a b) (sym name) (cancels_ may key.1 a b was of_job p),
        )

        by : (key : Key) (a : Evaluation) → evaluation_at w key ≡ Some a →
            (b : Evaluation) × (evaluation_at x key ≡ Some b) × ((b ≡ a) ⊎ ((key.0 ≡ ns) × Row key.1 a b)) → Passes w step x key a
        by key a a_at (b, b_at, inl same) = inl (a, b_at ∙ ap Some same, record { same = same_itself a; status = inl refl })
        by key a a_at (b, b_at, inr p) = inl (b, b_at, record { same = p.1.same; status = turned key a b a_at p.0 p.1.shift })

-- ---- lists

unlisted_ready : (ns job : Name) (t : Tenant) (w : World) → (without_blocked ns job t w).ready ≡ w.ready
unlisted_ready ns job t w = by (blocked_of t job)
  where
    by : (o : Option ℕ) → (option_map_or (λ n. record w { blocked = without_key (ns, n) w.blocked }) o w).ready ≡ w.ready
    by None = refl
    by (Some n) = refl

two_nacks : (n : ℕ) → n < most_nacks → nat_le most_nacks (n + 1) ≡ true → n ≡ 2
two_nacks n few e = let h = leb-true most_nacks (n + 1) e in omega arith

-- ---- the steps

module _ (w : World) (sound : IsSound w) (ns : Name) (number : ℕ) (t : Tenant) (worker : Worker) (e : Evaluation) (is : get w.tenants ns ≡ Some t)
    (has : get t.workers number ≡ Some worker) (at : get t.evaluations worker.evaluation ≡ Some e) where
  worker_is : worker_at w number ns ≡ Some worker
  worker_is = ap (option_and_then (λ (t : Tenant). get t.workers number)) is ∙ has

  -- the next one of the job is ready after it
  moved_up : (step : Step) (end : Status) (closed : HasFinished end) (Closes Cancels : Type 0) (u : Tenant) → u.workers ≡ remove t.workers number →
      Works worker.evaluation e.job end closed Closes Cancels t u → (y : World) → y.tenants ≡ insert w.tenants ns u → y.ready ≡ w.ready
      → (Closes → (a b : Evaluation) → a ≡ e → b.status ≡ end → EvaluationEnds w step (ns, worker.evaluation) a b)
      → (Cancels → (m : ℕ) (a b : Evaluation) → a.status ≡ Statuses.Blocked → a.job ≡ e.job → b.status ≡ Statuses.Canceled →
      EvaluationEnds w step (ns, m) a b) → Leaves w step (promote ns e.job y)
  moved_up step end closed Closes Cancels u workers works y put ready = closing w sound ns number t worker e is has at end closed Closes Cancels u workers works
      (promote ns e.job y) (promote_tenants ns e.job y ∙ put)
      (λ key listed. ready_promote ns e.job y key (ap (λ keys. has_key keys key) ready ∙ listed))
      (λ m d d_at p of_job. promote_one ns e.job y m d
      (sym (ap (λ q. option_and_then (λ (t : Tenant). get t.evaluations m) (get q ns)) (promote_tenants ns e.job y)) ∙ d_at) of_job p)
      step

  abbrev finishing : Step
  finishing = Step.Finish number ns

  end_is : HasFinished (end_of worker)
  end_is = elim (has_failed worker) as (λ b. HasFinished (cond b Statuses.Failed Statuses.Complete)) [ true ↦ inr refl | false ↦ inl refl ]

  abbrev FinishWorks : Tenant → Tenant → Type 0
  FinishWorks = Works worker.evaluation e.job (end_of worker) end_is (Unit {0}) (Unit {0})

  abbrev rest : Tenant
  rest = ended number worker e (end_of worker) t

  rest_works : FinishWorks t rest
  rest_works = works_then worker.evaluation e.job (end_of worker) end_is (Unit {0}) (Unit {0}) t v rest
      (works_then worker.evaluation e.job (end_of worker) end_is (Unit {0}) (Unit {0}) t (without_worker number t) v
      (works_same worker.evaluation e.job (end_of worker) end_is (Unit {0}) (Unit {0}) t (without_worker number t) refl refl)
      (works_finish worker.evaluation e.job (end_of worker) end_is (Unit {0}) (Unit {0}) tt (without_worker number t)))
      (works_cancel worker.evaluation e.job (end_of worker) end_is (Unit {0}) (Unit {0}) tt v)
    where
      v : Tenant
      v = with_status worker.evaluation (end_of worker) (without_worker number t)

  rest_workers : rest.workers ≡ remove t.workers number
  rest_workers = cancel_workers e.job (with_status worker.evaluation (end_of worker) (without_worker number t)) ∙
      with_status_workers worker.evaluation (end_of worker) (without_worker number t)

  abbrev less : World
  less = without_blocked ns e.job t w

  finish_leaves : (u : Tenant) → u.workers ≡ remove t.workers number → FinishWorks t u → (y : World) → y.tenants ≡ insert less.tenants ns u →
      y.ready ≡ less.ready → Leaves w finishing (promote ns e.job y)
  finish_leaves u workers works y put ready = moved_up finishing (end_of worker) end_is (Unit {0}) (Unit {0}) u workers works y
      (put ∙ ap (λ m. insert m ns u) (unlisted_tenants ns e.job t w)) (ready ∙ unlisted_ready ns e.job t w)
      (λ _ a b row p. law.EvaluationEnds.finished number worker refl worker_is refl (subst HasFinished (sym p) end_is))
      (λ _ m a b was of_job p. law.EvaluationEnds.canceled number worker e refl worker_is
      (evaluation_is w (ns, worker.evaluation) t e is at) (sym of_job) was p)

  follower_leaves : (f : Evaluation) (late : Bool) → f.job ≡ e.job → Leaves w finishing (promote ns e.job (followed ns worker f rest late less))
  follower_leaves f true of_job =
      let g : Evaluation = record f { status = Statuses.Pending } in
      finish_leaves (with_follower worker.evaluation g rest) (follower_workers worker.evaluation g rest ∙ rest_workers)
      (works_then worker.evaluation e.job (end_of worker) end_is (Unit {0}) (Unit {0}) t rest (with_follower worker.evaluation g rest) rest_works
      (works_follower worker.evaluation e.job (end_of worker) end_is (Unit {0}) (Unit {0}) g rest of_job))
      (put_tenant ns (with_follower worker.evaluation g rest) less) refl refl
  follower_leaves f false of_job =
      finish_leaves (with_follower worker.evaluation f rest) (follower_workers worker.evaluation f rest ∙ rest_workers)
      (works_then worker.evaluation e.job (end_of worker) end_is (Unit {0}) (Unit {0}) t rest (with_follower worker.evaluation f rest) rest_works
      (works_follower worker.evaluation e.job (end_of worker) end_is (Unit {0}) (Unit {0}) f rest of_job))
      (record (put_tenant ns (with_follower worker.evaluation f rest) less) { blocked = less.blocked ++ (ns, rest.evaluation_number + 1) ∷ [] }) refl refl

  pub finished_leaves : (kept : Snapshot) → Leads (Leaves w finishing) (finished number ns w t worker e kept)
  finished_leaves kept = leads_if (Leaves w finishing) (needs_follower worker kept)
      (Done (Content.Finished (end_of worker) (Some (t.evaluation_number + 1)))
      (promote ns e.job (followed ns worker (follower_of e worker kept) rest (missed w kept (follower_of e worker kept)) less)))
      (Done (Content.Finished (end_of worker) None) (promote ns e.job (put_tenant ns rest less)))
      (λ _. follower_leaves (follower_of e worker kept) (missed w kept (follower_of e worker kept)) refl)
      (λ _. finish_leaves rest rest_workers rest_works (put_tenant ns rest less) refl refl)

  -- ---- Nack

  abbrev nacking : Step
  nacking = Step.Nack number ns

  abbrev nacked : Tenant
  nacked = with_nack worker.evaluation e t

  pub back_leaves : Leads (Leaves w nacking) (given_back number ns w nacked worker)
  back_leaves = closing w sound ns number t worker e is has at Statuses.Failed (inr refl) ⊥ ⊥ (without_worker number nacked) refl
      (works_then worker.evaluation e.job Statuses.Failed (inr refl) ⊥ ⊥ t nacked (without_worker number nacked)
      (works_nack worker.evaluation e.job Statuses.Failed (inr refl) ⊥ ⊥ t e (e.nacks + 1) at)
      (works_same worker.evaluation e.job Statuses.Failed (inr refl) ⊥ ⊥ nacked (without_worker number nacked) refl refl))
      x refl (λ key listed. longer w.ready ((ns, worker.evaluation) ∷ []) key listed)
      (λ m d d_at p of_job. record {
        number = worker.evaluation;
        row = record e { nacks = e.nacks + 1 };
        is_row = evaluation_is x (ns, worker.evaluation) (without_worker number nacked) (record e { nacks = e.nacks + 1 })
            (here w ns t (without_worker number nacked) is x refl) (get_put numbers one_number t.evaluations worker.evaluation
            (record e { nacks = e.nacks + 1 }));
        of_job = refl;
        under_way = is_ready (last_one w.ready (ns, worker.evaluation));
      })
      nacking (λ never. absurd never) (λ never. absurd never)
    where
      x : World
      x = record (put_tenant ns (without_worker number nacked) w) { ready = w.ready ++ (ns, worker.evaluation) ∷ [] }

  pub up_leaves : nat_le most_nacks (e.nacks + 1) ≡ true → Leads (Leaves w nacking) (given_up number ns w nacked worker e)
  up_leaves third = moved_up nacking Statuses.Failed (inr refl) (Unit {0}) ⊥ u
      (with_status_workers worker.evaluation Statuses.Failed (without_worker number nacked))
      (works_then worker.evaluation e.job Statuses.Failed (inr refl) (Unit {0}) ⊥ t nacked u
      (works_nack worker.evaluation e.job Statuses.Failed (inr refl) (Unit {0}) ⊥ t e (e.nacks + 1) at)
      (works_then worker.evaluation e.job Statuses.Failed (inr refl) (Unit {0}) ⊥ nacked (without_worker number nacked) u
      (works_same worker.evaluation e.job Statuses.Failed (inr refl) (Unit {0}) ⊥ nacked (without_worker number nacked) refl refl)
      (works_finish worker.evaluation e.job Statuses.Failed (inr refl) (Unit {0}) ⊥ tt (without_worker number nacked))))
      (put_tenant ns u w) refl refl
      (λ _ a b row p. law.EvaluationEnds.given_up number worker refl worker_is refl (ap (λ (e : Evaluation). e.nacks) row ∙ two) p)
      (λ never. absurd never)
    where
      u : Tenant
      u = with_status worker.evaluation Statuses.Failed (without_worker number nacked)

      two : e.nacks ≡ 2
      two = two_nacks e.nacks (((sound.tenant ns t is).evaluation worker.evaluation e at).few_nacks
          (ap is_open (held_pending w sound ns t is number worker has e at))) third

pub finish_leaves_all : (w : World) → IsSound w → (number : ℕ) (ns : Name) → Leads (Leaves w (Step.Finish number ns)) (finish number ns w)
unfolding finish
finish_leaves_all w sound number ns = leads_keeping (Leaves w (Step.Finish number ns)) number ns w (finish_for number ns w) (λ t worker e kept is has at _.
    leads_if (Leaves w (Step.Finish number ns)) (may_finish worker kept) (finished number ns w t worker e kept) NotEnabled
    (λ _. finished_leaves w sound ns number t worker e is has at kept) (λ _. tt))

pub nack_leaves_all : (w : World) → IsSound w → (number : ℕ) (ns : Name) → Leads (Leaves w (Step.Nack number ns)) (nack number ns w)
unfolding nack
nack_leaves_all w sound number ns = leads_at_work (Leaves w (Step.Nack number ns)) number ns w (nack_for number ns w) (λ t worker e is has at.
    leads_if (Leaves w (Step.Nack number ns)) (is_submitted worker.phase) NotEnabled _ (λ _. tt) (λ _.
    leads_if (Leaves w (Step.Nack number ns)) (nat_le most_nacks (e.nacks + 1)) (given_up number ns w (with_nack worker.evaluation e t) worker e)
    (given_back number ns w (with_nack worker.evaluation e t) worker)
    (λ third. up_leaves w sound ns number t worker e is has at third) (λ _. back_leaves w sound ns number t worker e is has at)))
