-- What a nack changes, and what it leaves as it was.
use Rattle.std.specs.Prelude.{◌≡◌, ◌≢◌, ℕ, ◌+◌, Bool, true, false, cond, [], ◌∷◌, ◌++◌, Option, Some, None, nat_le, option_map}
use Rattle.std.proofs.Common.{refl, sym, ap, subst, ◌∙◌}
use Rattle.std.specs.FinMap.{get, insert, remove, get-remove, same_map}
use Rattle.std.specs.Option.{option_map_or}
use Rattle.std.proofs.lemmas.Bool.{leb-false, leb-true}
use Rattle.ns_types.specs.declared.evaluation.Evaluation.{Evaluation}
use Rattle.ns_types.specs.declared.evaluation.Status.{Status}
use Rattle.ns_types.specs.declared.reply.Content.{Content}
use Rattle.ns_types.specs.declared.step.Step.{Step}
use Rattle.ns_types.specs.declared.worker.Phase.{Phase}
use Rattle.ns_types.specs.Settling.Making.{put_tenant, with_status}
use Rattle.ns_types.specs.Settling.Outcome.{NotEnabled}
use Rattle.ns_types.specs.Settling.Releases.{woken}
use Rattle.ns_types.specs.Settling.Settle.{wake, changes_evaluation, created_at, is_touched, settle, stamp_tenant, stamped, stamped_evaluation}
use Rattle.ns_types.specs.State.Names.{Name, ByNumber}
use Rattle.ns_types.specs.State.Rows.{State, World, Tenant, is_pending}
use Rattle.ns_types.specs.Steps.{reply_of}
use Rattle.ns_types.specs.Working.Queue.{first_waiting, is_busy, promote}
use Rattle.ns_types.specs.Working.Work.{given_back, given_up, is_submitted, most_nacks, nack, nack_for, with_nack}
use Rattle.ns_types.specs.Working.Worker.{Worker}
use Rattle.ns_types.proofs.Lists.{not_both}
use Rattle.ns_types.proofs.Named.{numbers, one_number, same_number_refl}
use Rattle.ns_types.proofs.Settling.{kept_evaluation, wake_none}
use Rattle.ns_types.proofs.TableRows.{apart, get_other, get_put}
use Rattle.ns_types.proofs.Tables.{get-map_rows}
use Rattle.ns_audit.proofs.Alone.Orderly.{pending_is}
use Rattle.ns_audit.proofs.Alone.Sides.{act_is}
use Rattle.ns_laws.specs.Workers as law
use Rattle.ns_laws.specs.Workers.{GivesUp, HasEvaluation, IsNacked, MayPromote, next, none_pending, one_taken, NackLeads, again, fails}
use Rattle.ns_laws.proofs.Effect.Rows.{Does, does_if, put_there, stamp_keeps, stamped_former}
use Rattle.ns_laws.specs.Woken.{IsTaken}
use Rattle.ns_laws.proofs.OrderedLemmas.{first_waiting_is_least, none_waits_of_none}
use Rattle.ns_laws.proofs.QueueLemmas.{promote_part}
use Rattle.ns_laws.proofs.Wakes.Reasons.{taken_by, waked, was_stamped}
use Rattle.ns_laws.proofs.Work.Rows.{at_work_does, settles_one, stays_in, wakes_nothing, work_does}

-- ---- the rows of a namespace at the end of a step

-- the rows t became u in the step
module _ (t u : Tenant) where
  abbrev pub ends : Tenant
  ends = stamp_tenant (Some t) u

  pub ends_evaluation : (n : ℕ) (e : Evaluation) → get u.evaluations n ≡ Some e → HasEvaluation ends n e
  unfolding stamp_tenant
  ends_evaluation n e at = by (is_touched t u)
    where
      changed : (b : Bool) → (x : Tenant) → get x.evaluations n ≡ Some (cond b (record e {
        create_index = created_at (t.index + 1) (get t.evaluations n) (λ o. o.create_index);
        modify_index = t.index + 1;
      }) e) → HasEvaluation x n e
      changed true x is = record { created = created_at (t.index + 1) (get t.evaluations n) (λ o. o.create_index); modified = t.index + 1; is_row = is }
      changed false x is = record { created = e.create_index; modified = e.modify_index; is_row = is }

      by : (b : Bool) → HasEvaluation (cond b (stamped (t.index + 1) t u) u) n e
      by true = changed (changes_evaluation t n e) (stamped (t.index + 1) t u)
          (get-map_rows numbers one_number (stamped_evaluation (t.index + 1) t) u.evaluations n ∙ ap (option_map (stamped_evaluation (t.index + 1) t n)) at)
      by false = record { created = e.create_index; modified = e.modify_index; is_row = at }

  pub ends_former : (n : ℕ) → get u.evaluations n ≡ get t.evaluations n → get ends.evaluations n ≡ get t.evaluations n
  unfolding stamp_tenant
  ends_former n same = by (is_touched t u)
    where
      left : (x : Option Evaluation) → get t.evaluations n ≡ x → option_map (stamped_evaluation (t.index + 1) t n) x ≡ x
      left None is = refl
      left (Some e) is = ap (λ b. Some (cond b (record e {
        create_index = created_at (t.index + 1) (get t.evaluations n) (λ o. o.create_index);
        modify_index = t.index + 1;
      }) e)) (kept_evaluation t n e is)

      by : (b : Bool) → get (cond b (stamped (t.index + 1) t u) u).evaluations n ≡ get t.evaluations n
      by true = get-map_rows numbers one_number (stamped_evaluation (t.index + 1) t) u.evaluations n
          ∙ ap (option_map (stamped_evaluation (t.index + 1) t n)) same ∙ left (get t.evaluations n) refl
      by false = same

  pub ends_number : ends.evaluation_number ≡ u.evaluation_number
  ends_number = stamp_keeps (λ t. t.evaluation_number) (λ i o t. refl) (Some t) u

  module _ (number : ℕ) (workers : u.workers ≡ remove t.workers number) (namespace : u.namespace ≡ t.namespace) (jobs : u.jobs ≡ t.jobs)
      (allocations : u.allocations ≡ t.allocations) (last : u.allocation_number ≡ t.allocation_number) where
    ends_workers : ends.workers ≡ remove t.workers number
    ends_workers = stamp_keeps (λ t. t.workers) (λ i o t. refl) (Some t) u ∙ workers

    pub ends_idle : GivesUp number t ends
    ends_idle = record {
      idle = ap (λ m. get m number) ends_workers ∙ get-remove numbers t.workers number number
          ∙ ap (λ b. cond b None (get t.workers number)) (same_number_refl number);
      other_workers = λ other differs. ap (λ m. get m other) ends_workers ∙ get-remove numbers t.workers number other
          ∙ ap (λ b. cond b None (get t.workers other)) (apart other number differs);
      namespace = stamp_keeps (λ t. t.namespace) (λ i o t. refl) (Some t) u ∙ namespace;
      jobs = stamp_keeps (λ t. t.jobs) (λ i o t. refl) (Some t) u ∙ jobs;
      allocations = same_map numbers one_number _ _ (λ n. stamped_former t u n (ap (λ m. get m n) allocations));
      allocation_number = stamp_keeps (λ t. t.allocation_number) (λ i o t. refl) (Some t) u ∙ last;
    }

-- ---- which evaluation of a job becomes ready

-- the end of the step is y, and it wakes nothing
module _ (ns job : Name) (t u : Tenant) (w p y : World) (is : get p.tenants ns ≡ Some u) (ends_in : settle w (promote ns job p) ≡ y)
    (ready : y.ready ≡ (promote ns job p).ready) (wakes : woken w (promote ns job p) ≡ []) where
  waked_is : waked w (promote ns job p) ≡ promote ns job p
  unfolding wake
  waked_is = ap (λ keys. wake keys (promote ns job p)) wakes ∙ wake_none (promote ns job p)

  promote_busy : is_busy p ns job ≡ true → promote ns job p ≡ p
  unfolding promote
  promote_busy busy = ap (λ b. cond b p (option_map_or (λ t. option_map_or (λ n. record p { ready = p.ready ++ (ns, n) ∷ [] }) (first_waiting job t) p)
      (get p.tenants ns) p)) busy

  promote_idle : is_busy p ns job ≡ false → promote ns job p
      ≡ option_map_or (λ n. record p { ready = p.ready ++ (ns, n) ∷ [] }) (first_waiting job u) p
  unfolding promote
  promote_idle idle = ap (λ b. cond b p (option_map_or (λ t. option_map_or (λ n. record p { ready = p.ready ++ (ns, n) ∷ [] }) (first_waiting job t) p)
      (get p.tenants ns) p)) idle
      ∙ ap (λ o. option_map_or (λ t. option_map_or (λ n. record p { ready = p.ready ++ (ns, n) ∷ [] }) (first_waiting job t) p) o p) is

  taken : is_busy p ns job ≡ true → IsTaken y ns job
  taken busy = subst (λ y. IsTaken y ns job) ends_in (taken_by w (promote ns job p) ns job
      (ap (λ z. is_busy z ns job) (waked_is ∙ promote_busy busy) ∙ busy))

  pub may_promote : MayPromote ns job y (ends t u) p.ready
  may_promote = by (is_busy p ns job) refl
    where
      waiting : is_busy p ns job ≡ false → (o : Option ℕ) → first_waiting job u ≡ o → MayPromote ns job y (ends t u) p.ready
      waiting idle None f = none_pending (λ n row at same pending.
          let d = was_stamped (Some t) u n row at in
          not_both (ap is_pending (sym d.1.status ∙ pending)) (none_waits_of_none u job n d.0 f d.1.was (sym d.1.job ∙ same)))
          (ready ∙ ap (λ w. w.ready) (promote_idle idle) ∙ ap (λ o. (option_map_or (λ n. record p { ready = p.ready ++ (ns, n) ∷ [] }) o p).ready) f)
      waiting idle (Some n) f =
          let first = first_waiting_is_least u job n f in
          let row = ends_evaluation t u n first.row first.there in
          next n (record first.row { create_index = row.created; modify_index = row.modified }) row.is_row first.of_job
          (pending_is first.row.status first.pending)
          (ready ∙ ap (λ w. w.ready) (promote_idle idle) ∙ ap (λ o. (option_map_or (λ n. record p { ready = p.ready ++ (ns, n) ∷ [] }) o p).ready) f)

      by : (b : Bool) → is_busy p ns job ≡ b → MayPromote ns job y (ends t u) p.ready
      by true busy = one_taken (taken busy) (ready ∙ ap (λ w. w.ready) (promote_busy busy))
      by false idle = waiting idle (first_waiting job u) refl

-- ---- Nack

submitted_not : (phase : Phase) → is_submitted phase ≡ false → phase ≢ Phase.Submitted
submitted_not phase e is = not_both (ap is_submitted is) e

pub number_there : (rows : ByNumber Evaluation) (n : ℕ) (e : Evaluation) → get (insert rows n e) n ≡ Some e
number_there rows n e = get_put numbers one_number rows n e

pub number_elsewhere : (rows : ByNumber Evaluation) (n : ℕ) (e : Evaluation) (m : ℕ) → m ≢ n → get (insert rows n e) m ≡ get rows m
number_elsewhere rows n e m differs = get_other numbers one_number rows n e m (apart m n differs)

module _ (number : ℕ) (ns : Name) (s : State) where
  abbrev Nacked : Content → World → Type 0
  Nacked content y = IsNacked number ns (reply_of (Step.Nack number ns) content y) s (record s { world = y })

  module _ (t : Tenant) (worker : Worker) (e : Evaluation) (is : get s.world.tenants ns ≡ Some t) (has : get t.workers number ≡ Some worker)
      (at : get t.evaluations worker.evaluation ≡ Some e) (not_submitted : is_submitted worker.phase ≡ false) where
    -- the rows with these evaluations, and without the worker
    abbrev without : ByNumber Evaluation → Tenant
    without evaluations = record t { evaluations = evaluations; workers = remove t.workers number }

    nacked_with : (rows : ByNumber Evaluation) (content : Content) (y : World) → y.tenants ≡ insert s.world.tenants ns (ends t (without rows)) →
        y.pools ≡ s.world.pools → y.quotas ≡ s.world.quotas → y.plans ≡ s.world.plans → y.blocked ≡ s.world.blocked →
        NackLeads ns worker.evaluation e content y (ends t (without rows)) s.world.ready →
        ((m : ℕ) → m ≢ worker.evaluation → get rows m ≡ get t.evaluations m) → Nacked content y
    nacked_with rows content y tenants pools quotas plans blocked leads others = record {
      before = t;
      now = ends t (without rows);
      stays = stays_in s ns t (ends t (without rows)) y is tenants pools quotas;
      worker = worker;
      was_worker = has;
      not_submitted = submitted_not worker.phase not_submitted;
      row = e;
      was_row = at;
      leads = leads;
      gives_up = ends_idle t (without rows) number refl refl refl refl refl;
      other_evaluations = λ m differs. ends_former t (without rows) m (others m differs);
      evaluation_number = ends_number t (without rows);
      plans = plans;
      blocked = blocked;
    }

    abbrev nacked : Evaluation
    nacked = record e { nacks = e.nacks + 1 }

    abbrev nacked_rows : ByNumber Evaluation
    nacked_rows = insert t.evaluations worker.evaluation nacked

    abbrev back : World
    back = record (put_tenant ns (without nacked_rows) s.world) { ready = s.world.ready ++ (ns, worker.evaluation) ∷ [] }

    given_back_to : nat_le most_nacks (e.nacks + 1) ≡ false → Nacked (Content.Nacked Status.Pending) (settle s.world back)
    given_back_to few = subst (Nacked (Content.Nacked Status.Pending)) (sym (settles_one s.world back ns t (without nacked_rows) refl refl refl is refl))
        (nacked_with nacked_rows (Content.Nacked Status.Pending) (record back { tenants = insert s.world.tenants ns (ends t (without nacked_rows)) })
        refl refl refl refl refl
        (again (leb-false most_nacks (e.nacks + 1) few) refl
        (ends_evaluation t (without nacked_rows) worker.evaluation nacked (number_there t.evaluations worker.evaluation nacked)) refl)
        (number_elsewhere t.evaluations worker.evaluation nacked))

    abbrev failed : Evaluation
    failed = record nacked { status = Status.Failed }

    abbrev failed_rows : ByNumber Evaluation
    failed_rows = insert nacked_rows worker.evaluation failed

    fails_so : with_status worker.evaluation Status.Failed (without nacked_rows) ≡ without failed_rows
    fails_so = ap (λ (o : Option Evaluation). option_map_or (λ e. record (without nacked_rows)
        { evaluations = insert nacked_rows worker.evaluation (record e { status = Status.Failed }) }) o (without nacked_rows))
        (number_there t.evaluations worker.evaluation nacked)

    abbrev put : World
    put = put_tenant ns (without failed_rows) s.world

    abbrev promoted : World
    promoted = promote ns e.job put

    given_up_to : nat_le most_nacks (e.nacks + 1) ≡ true → Nacked (Content.Nacked Status.Failed) (settle s.world promoted)
    given_up_to many =
        let pools : promoted.pools ≡ s.world.pools = promote_part (λ w. w.pools) (λ w keys. refl) ns e.job put in
        let quotas : promoted.quotas ≡ s.world.quotas = promote_part (λ w. w.quotas) (λ w keys. refl) ns e.job put in
        let tenants : promoted.tenants ≡ put.tenants = promote_part (λ w. w.tenants) (λ w keys. refl) ns e.job put in
        let settles = settles_one s.world promoted ns t (without failed_rows) pools quotas tenants is refl in
        let y : World = record promoted { tenants = insert s.world.tenants ns (ends t (without failed_rows)) } in
        subst (Nacked (Content.Nacked Status.Failed)) (sym settles)
        (nacked_with failed_rows (Content.Nacked Status.Failed) y
        refl pools quotas (promote_part (λ w. w.plans) (λ w keys. refl) ns e.job put) (promote_part (λ w. w.blocked) (λ w keys. refl) ns e.job put)
        (fails (leb-true most_nacks (e.nacks + 1) many) refl
        (ends_evaluation t (without failed_rows) worker.evaluation failed (number_there nacked_rows worker.evaluation failed))
        (may_promote ns e.job t (without failed_rows) s.world put y (put_there s.world.tenants ns (without failed_rows)) settles refl
        (wakes_nothing s.world promoted ns t (without failed_rows) pools quotas tenants is refl)))
        (λ m differs. number_elsewhere nacked_rows worker.evaluation failed m differs ∙ number_elsewhere t.evaluations worker.evaluation nacked m differs))

    nack_for_does : Does (λ content x. Nacked content (settle s.world x))
        (cond (nat_le most_nacks (e.nacks + 1)) (given_up number ns s.world (with_nack worker.evaluation e t) worker e)
        (given_back number ns s.world (with_nack worker.evaluation e t) worker))
    nack_for_does = does_if _ (nat_le most_nacks (e.nacks + 1)) (given_up number ns s.world (with_nack worker.evaluation e t) worker e)
        (given_back number ns s.world (with_nack worker.evaluation e t) worker)
        (λ many. subst (λ (u : Tenant). Nacked (Content.Nacked Status.Failed) (settle s.world (promote ns e.job (put_tenant ns u s.world)))) (sym fails_so)
        (given_up_to many))
        given_back_to

pub nacked_is_given_back : law.NackedIsGivenBack
unfolding nack
nacked_is_given_back number ns s s' reply made = work_does (Step.Nack number ns) s s' reply (λ r y. IsNacked number ns r s y)
    (nack number ns s.world) (act_is (Step.Nack number ns) s refl)
    (at_work_does number ns s.world (λ content x. Nacked number ns s content (settle s.world x)) (nack_for number ns s.world) (λ t worker e is has at.
    does_if _ (is_submitted worker.phase) NotEnabled _ (λ _. tt) (nack_for_does number ns s t worker e is has at))) made
