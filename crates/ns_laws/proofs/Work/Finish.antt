-- What a finish changes, and what it leaves as it was.
use Rattle.std.specs.Prelude.{◌≡◌, ◌≢◌, ◌⊎◌, ℕ, suc, ◌<◌, nat_lt, ◌+◌, ◌≤◌, Bool, true, false, cond}
use Rattle.std.specs.Prelude.{◌&&◌, List, [], ◌∷◌, ◌++◌, Option, Some, None, find, option_map}
use Rattle.std.proofs.Common.{refl, sym, ap, subst, ◌∙◌, inl, inr, arith}
use Rattle.std.proofs.lemmas.Bool.Decides.{eqb_tells, leb_tells}
use Rattle.std.specs.FinMap.{get, insert, remove, entries, get-entries}
use Rattle.std.specs.Option.{option_map_or, option_or}
use Rattle.ns_types.specs.declared.evaluation.Evaluation.{Evaluation}
use Rattle.ns_types.specs.declared.evaluation.Status.{Status}
use Rattle.ns_types.specs.declared.evaluation.Trigger.{Trigger}
use Rattle.ns_types.specs.declared.reply.Content.{Content}
use Rattle.ns_types.specs.declared.snapshot.Snapshot.{Snapshot}
use Rattle.ns_types.specs.declared.step.Step.{Step}
use Rattle.ns_types.specs.declared.worker.Phase.{Phase}
use Rattle.ns_types.specs.Placing.Plan.{plan, is_short}
use Rattle.ns_types.specs.Settling.Making.{put_tenant, with_status}
use Rattle.ns_types.specs.Settling.Outcome.{NotEnabled, Done}
use Rattle.ns_types.specs.Settling.Releases.{can_use, missed, wakes_by, released_since}
use Rattle.ns_types.specs.Settling.Settle.{settle}
use Rattle.ns_types.specs.State.Names.{Key, Name, ByNumber, same_name}
use Rattle.ns_types.specs.declared.snapshot.QuotaSeen.{QuotaSeen}
use Rattle.ns_types.specs.State.Tables.{any_row}
use Rattle.ns_types.specs.State.Rows.{PoolRows, QuotaRows, State, World, Tenant, is_blocked}
use Rattle.ns_types.specs.Steps.{reply_of}
use Rattle.ns_types.specs.Working.Queue.{promote}
use Rattle.ns_types.specs.Working.Work.{blocked_of, cancel_blocked, end_of, ended, finish, finish_for, finished, followed, follower_of, has_failed}
use Rattle.ns_types.specs.Working.Work.{may_finish, may_finish_in, needs_follower, with_follower, without_blocked, without_key, without_worker}
use Rattle.ns_types.specs.Working.Worker.{Worker}
use Rattle.ns_types.proofs.Elements.{each_found}
use Rattle.ns_types.proofs.Lists.{left_none, not_both, right_none}
use Rattle.ns_types.proofs.Named.{first_of_both, one_number, same_name_is, same_name_refl, second_of_both}
use Rattle.ns_types.proofs.Tests.{either_of, not_Some, same_Some}
use Rattle.ns_audit.proofs.Alone.Orderly.{blocked_is, pending_is}
use Rattle.ns_audit.proofs.Steady.Work.{pending_not_blocked}
use Rattle.ns_audit.proofs.Alone.Sides.{act_is}
use Rattle.ns_audit.proofs.Steady.Finish.{same_blocked, shut_end}
use Rattle.ns_types.proofs.Classes.{by_class, one_class}
use Rattle.ns_laws.specs.Workers as law
use Rattle.ns_laws.specs.Workers.{MissedRelease, of_class, of_quota}
use Rattle.ns_laws.proofs.QueueLemmas.{promote_part}
use Rattle.ns_laws.proofs.Refusal.Tests.{Row, decides_any}
use Rattle.ns_laws.proofs.Wakes.Reasons.{may_use}
use Rattle.ns_laws.specs.Workers.{Cancels, none_there, one_there, EndsAs, is_failed, is_complete, FollowerLeads, none_needed, follower_blocked}
use Rattle.ns_laws.specs.Workers.{follower_pending, HasEvaluation, IsFinished, IsFollower, MayEnd, nothing_to_do, all_done, no_try_left, NeedsFollower}
use Rattle.ns_laws.proofs.Effect.Rows.{Does, does_if, put_there}
use Rattle.ns_laws.proofs.OrderedLemmas.{first_row, none_passes}
use Rattle.ns_laws.proofs.Plans.ApplyStep.{does_or}
use Rattle.ns_laws.proofs.Work.Followers.{is_zero, not_zero, waits_for}
use Rattle.ns_laws.proofs.Work.Nack.{ends, ends_evaluation, ends_former, ends_idle, ends_number}
use Rattle.ns_laws.proofs.Work.Nack.{may_promote, number_there, number_elsewhere}
use Rattle.ns_laws.proofs.Work.Rows.{at_work_does, settles_one, stays_in, taken_out, wakes_nothing, work_does}

-- ---- statuses

ends_as : (worker : Worker) → EndsAs worker.tries (end_of worker) (cond (has_failed worker) Trigger.MaxPlanAttempts Trigger.QueuedAllocs)
ends_as worker = elim (eqb_tells worker.tries 0) [
  | inl zero ↦ is_failed zero.1 (ap (λ b. cond b Status.Failed Status.Complete) zero.0)
      (ap (λ b. cond b Trigger.MaxPlanAttempts Trigger.QueuedAllocs) zero.0)
  | inr more ↦ is_complete more.1 (ap (λ b. cond b Status.Failed Status.Complete) more.0)
      (ap (λ b. cond b Trigger.MaxPlanAttempts Trigger.QueuedAllocs) more.0)
]

may_end : (worker : Worker) (kept : Snapshot) → may_finish worker kept ≡ true → MayEnd worker kept
may_end worker kept e = by worker.phase refl e
  where
    by : (phase : Phase) → worker.phase ≡ phase → may_finish_in phase worker.tries kept ≡ true → MayEnd worker kept
    by Phase.Took is e = not_both e refl
    by Phase.Snapped is e = nothing_to_do is e
    by Phase.Submitted is e = not_both e refl
    by Phase.Applied is e = all_done is
    by Phase.Dropped is e = no_try_left is (is_zero worker.tries e)

needs : (worker : Worker) (kept : Snapshot) → needs_follower worker kept ≡ true → NeedsFollower worker kept
needs worker kept e = by (either_of (has_failed worker) (is_short (plan kept)) e)
  where
    by : (has_failed worker ≡ true) ⊎ (is_short (plan kept) ≡ true) → NeedsFollower worker kept
    by (inl failed) = inl (is_zero worker.tries failed)
    by (inr short) = inr short

-- ---- the job's blocked evaluation

abbrev passes : Name → ℕ × Evaluation → Bool
passes job e = same_name job e.1.job && is_blocked e.1.status

record IsBlockedOf (t : Tenant) (job : Name) (k : ℕ) : Type 0 where
  row : Evaluation
  is_row : get t.evaluations k ≡ Some row
  its_job : row.job ≡ job
  is_so : row.status ≡ Status.Blocked

blocked_there : (t : Tenant) (job : Name) (k : ℕ) → blocked_of t job ≡ Some k → IsBlockedOf t job k
blocked_there t job k is = by (find (passes job) (entries t.evaluations)) refl is
  where
    by : (o : Option (ℕ × Evaluation)) → find (passes job) (entries t.evaluations) ≡ o → option_map (λ e. e.0) o ≡ Some k → IsBlockedOf t job k
    by None found is = absurd (not_Some _ is)
    by (Some x) found is = let first = first_row (passes job) t.evaluations x.0 x.1 found in
        subst (IsBlockedOf t job) (same_Some x.0 k is) (record {
          row = x.1;
          is_row = first.0;
          its_job = sym (same_name_is job x.1.job (first_of_both (same_name job x.1.job) _ first.1));
          is_so = blocked_is x.1.status (second_of_both (same_name job x.1.job) _ first.1);
        })

none_blocked : (t : Tenant) (job : Name) → blocked_of t job ≡ None → (m : ℕ) (d : Evaluation) → get t.evaluations m ≡ Some d → d.job ≡ job →
    d.status ≢ Status.Blocked
none_blocked t job is m d at same blocked = by (find (passes job) (entries t.evaluations)) refl is
  where
    by : (o : Option (ℕ × Evaluation)) → find (passes job) (entries t.evaluations) ≡ o → option_map (λ e. e.0) o ≡ None → ⊥
    by None found is = not_both (λ i. (ap (same_name job) same ∙ same_name_refl job) i && is_blocked (blocked i))
        (each_found one_number (λ e. passes job e ≡ false) (entries t.evaluations) (none_passes (passes job) (entries t.evaluations) found) m d
        (sym (get-entries t.evaluations m) ∙ at))
    by (Some x) found is = not_Some _ (sym is)

-- ---- releases that a follower missed

less : (a b : ℕ) → nat_lt a b ≡ true → a < b
less a b e = elim (leb_tells (suc a) b) [ inl under ↦ let h = under.1 in omega (arith, h) | inr over ↦ not_both e over.0 ]

above_zero : {A : Type 0} (n : ℕ) → nat_lt n 0 ≡ true → A
above_zero n e = absurd (no (less n 0 e))
  where
    no : n < 0 → ⊥
    no h = omega (arith, h)

missed_release : (w : World) (kept : Snapshot) (e : Evaluation) (status : Status) → missed w kept e ≡ true → MissedRelease w kept (record e { status = status })
unfolding missed
missed_release w kept e status m = by e.quota refl m
  where
    in_pool : e.quota ≡ None → (o : Option PoolRows) → get w.pools e.pool ≡ o → option_map_or
        (λ (pool : PoolRows). any_row (λ class number. nat_lt kept.release number && can_use e class) pool.classes) o false ≡ true →
        MissedRelease w kept (record e { status = status })
    in_pool unlimited None is m = not_both m refl
    in_pool unlimited (Some pool) is m =
        let r : Row (λ class number. (nat_lt kept.release number && can_use e class) ≡ true) pool.classes =
        (decides_any by_class one_class (λ class number. nat_lt kept.release number && can_use e class) pool.classes).0 m in
        of_class unlimited pool r.key r.row is r.is_row (less kept.release r.row (first_of_both (nat_lt kept.release r.row) _ r.holds))
        (may_use e r.key (second_of_both (nat_lt kept.release r.row) _ r.holds))

    in_quota : (quota : Name) → e.quota ≡ Some quota → (o : Option QuotaRows) → get w.quotas quota ≡ o →
        nat_lt (option_map_or (λ (q : QuotaSeen). q.release) kept.quota 0) (option_map_or (λ (q : QuotaRows). q.release) o 0) ≡ true →
        MissedRelease w kept (record e { status = status })
    in_quota quota limited None is m = above_zero (option_map_or (λ (q : QuotaSeen). q.release) kept.quota 0) m
    in_quota quota limited (Some rows) is m = of_quota quota rows limited is (less (option_map_or (λ (q : QuotaSeen). q.release) kept.quota 0) rows.release m)

    by : (o : Option Name) → e.quota ≡ o → wakes_by (released_since w kept) e o ≡ true → MissedRelease w kept (record e { status = status })
    by None unlimited m = in_pool unlimited (get w.pools e.pool) refl m
    by (Some quota) limited m = in_quota quota limited (get w.quotas quota) refl m

-- ---- Finish

module _ (number : ℕ) (ns : Name) (s : State) where
  abbrev Finished : Content → World → Type 0
  Finished content y = IsFinished number ns (reply_of (Step.Finish number ns) content y) s (record s { world = y })

  module _ (t : Tenant) (worker : Worker) (e : Evaluation) (kept : Snapshot) (is : get s.world.tenants ns ≡ Some t)
      (has : get t.workers number ≡ Some worker) (at : get t.evaluations worker.evaluation ≡ Some e) (keeps : worker.kept ≡ Some kept)
      (may : may_finish worker kept ≡ true) (pending : e.status ≡ Status.Pending)
      (below : (m : ℕ) (d : Evaluation) → get t.evaluations m ≡ Some d → m ≤ t.evaluation_number) where
    -- the rows with these evaluations and this last number, and without the worker
    abbrev without : ByNumber Evaluation → ℕ → Tenant
    without evaluations last = record t { evaluations = evaluations; evaluation_number = last; workers = remove t.workers number }

    abbrev why : Trigger
    why = cond (has_failed worker) Trigger.MaxPlanAttempts Trigger.QueuedAllocs

    abbrev put : ByNumber Evaluation → ℕ → List Key → World
    put rows last keys = record (put_tenant ns (without rows last) s.world) { blocked = keys }

    abbrev promoted : ByNumber Evaluation → ℕ → List Key → World
    promoted rows last keys = promote ns e.job (put rows last keys)

    finished_with : (rows : ByNumber Evaluation) (last : ℕ) (keys rest : List Key) (follower : Option ℕ) →
        get rows worker.evaluation ≡ Some (record e { status = end_of worker; follower = option_or follower e.follower }) →
        Cancels ns e.job t (ends t (without rows last)) s.world.blocked rest →
        FollowerLeads s.world ns worker kept e why t (ends t (without rows last)) rest keys follower →
        ((m : ℕ) (d : Evaluation) → get t.evaluations m ≡ Some d → m ≢ worker.evaluation → (d.job ≡ e.job → d.status ≢ Status.Blocked) →
        get rows m ≡ Some d) →
        Finished (Content.Finished (end_of worker) follower) (settle s.world (promoted rows last keys))
    finished_with rows last keys rest follower own cancels leads others =
        let x : World = promoted rows last keys in
        let p : World = put rows last keys in
        let u : Tenant = without rows last in
        let pools : x.pools ≡ s.world.pools = promote_part (λ w. w.pools) (λ w keys. refl) ns e.job p in
        let quotas : x.quotas ≡ s.world.quotas = promote_part (λ w. w.quotas) (λ w keys. refl) ns e.job p in
        let tenants : x.tenants ≡ p.tenants = promote_part (λ w. w.tenants) (λ w keys. refl) ns e.job p in
        let listed : keys ≡ x.blocked = sym (promote_part (λ w. w.blocked) (λ w keys. refl) ns e.job p) in
        let settles = settles_one s.world x ns t u pools quotas tenants is refl in
        let y : World = record x { tenants = insert s.world.tenants ns (ends t u) } in
        subst (Finished (Content.Finished (end_of worker) follower)) (sym settles)
        (record {
          before = t;
          now = ends t u;
          stays = stays_in s ns t (ends t u) y is refl pools quotas;
          worker = worker;
          was_worker = has;
          kept = kept;
          was_kept = keeps;
          may_end = may_end worker kept may;
          row = e;
          was_row = at;
          status = end_of worker;
          trigger = why;
          ends_as = ends_as worker;
          follower = follower;
          replied = refl;
          ended = ends_evaluation t u worker.evaluation (record e { status = end_of worker; follower = option_or follower e.follower }) own;
          rest = rest;
          cancels = cancels;
          leads = subst (λ (l : List Key). FollowerLeads s.world ns worker kept e why t (ends t u) rest l follower) listed leads;
          promotes = may_promote ns e.job t u s.world p y (put_there s.world.tenants ns u) settles refl
              (wakes_nothing s.world x ns t u pools quotas tenants is refl);
          gives_up = ends_idle t u number refl refl refl refl refl;
          other_evaluations = λ m d d_at other free. ends_former t u m (others m d d_at other free ∙ sym d_at) ∙ d_at;
          plans = promote_part (λ w. w.plans) (λ w keys. refl) ns e.job p;
        })

    -- ---- the evaluation has ended, and the job's blocked one is canceled

    abbrev closed : Evaluation
    closed = record e { status = end_of worker }

    abbrev closed_rows : ByNumber Evaluation
    closed_rows = insert t.evaluations worker.evaluation closed

    abbrev n : ℕ
    n = worker.evaluation

    record Cleared : Type 0 where
      rows : ByNumber Evaluation
      rest : List Key
      ended_is : ended number worker e (end_of worker) t ≡ without rows t.evaluation_number
      rest_is : without_blocked ns e.job t s.world ≡ record s.world { blocked = rest }
      own : get rows n ≡ Some closed
      cancels : (u : Tenant) → ((m : ℕ) → m ≢ n → m ≤ t.evaluation_number → get u.evaluations m ≡ get rows m) →
          Cancels ns e.job t (ends t u) s.world.blocked rest
      others : (m : ℕ) (d : Evaluation) → get t.evaluations m ≡ Some d → m ≢ n → (d.job ≡ e.job → d.status ≢ Status.Blocked) → get rows m ≡ Some d

    closes : with_status n (end_of worker) (without_worker number t) ≡ without closed_rows t.evaluation_number
    closes = ap (λ (o : Option Evaluation). option_map_or (λ e. record (without_worker number t)
        { evaluations = insert t.evaluations n (record e { status = end_of worker }) }) o (without_worker number t)) at

    same_one : blocked_of (without closed_rows t.evaluation_number) e.job ≡ blocked_of t e.job
    same_one = same_blocked t (without closed_rows t.evaluation_number) e.job n e (end_of worker) at pending (shut_end worker).1 refl

    ends_to : (o : Option ℕ) → blocked_of t e.job ≡ o → ended number worker e (end_of worker) t
        ≡ option_map_or (λ k. with_status k Status.Canceled (without closed_rows t.evaluation_number)) o (without closed_rows t.evaluation_number)
    ends_to o one = ap (cancel_blocked e.job) closes ∙ ap (λ (o : Option ℕ). option_map_or
        (λ k. with_status k Status.Canceled (without closed_rows t.evaluation_number)) o (without closed_rows t.evaluation_number)) (same_one ∙ one)

    rest_to : (o : Option ℕ) → blocked_of t e.job ≡ o → without_blocked ns e.job t s.world
        ≡ option_map_or (λ k. record s.world { blocked = without_key (ns, k) s.world.blocked }) o s.world
    rest_to o one = ap (λ (o : Option ℕ). option_map_or (λ k. record s.world { blocked = without_key (ns, k) s.world.blocked }) o s.world) one

    cleared_by : (o : Option ℕ) → blocked_of t e.job ≡ o → Cleared
    cleared_by None one = record {
      rows = closed_rows;
      rest = s.world.blocked;
      ended_is = ends_to None one;
      rest_is = rest_to None one;
      own = number_there t.evaluations n closed;
      cancels = λ u same. none_there (none_blocked t e.job one) refl;
      others = λ m d d_at other free. number_elsewhere t.evaluations n closed m other ∙ d_at;
    }
    cleared_by (Some k) one = record {
      rows = insert closed_rows k canceled;
      rest = without_key (ns, k) s.world.blocked;
      ended_is = ends_to (Some k) one ∙ ap (λ (o : Option Evaluation). option_map_or (λ e. record (without closed_rows t.evaluation_number)
          { evaluations = insert closed_rows k (record e { status = Status.Canceled }) }) o (without closed_rows t.evaluation_number)) k_there;
      rest_is = rest_to (Some k) one;
      own = number_elsewhere closed_rows k canceled n (λ same. apart_k (sym same)) ∙ number_there t.evaluations n closed;
      cancels = λ u same. one_there k b.row b.is_row b.its_job b.is_so
          (ends_evaluation t u k canceled (same k apart_k (below k b.row b.is_row) ∙ number_there closed_rows k canceled))
          (taken_out (ns, k) s.world.blocked);
      others = λ m d d_at other free. number_elsewhere closed_rows k canceled m (apart_from m d d_at free)
          ∙ number_elsewhere t.evaluations n closed m other ∙ d_at;
    }
      where
        b : IsBlockedOf t e.job k
        b = blocked_there t e.job k one

        canceled : Evaluation
        canceled = record b.row { status = Status.Canceled }

        apart_k : k ≢ n
        apart_k same = pending_not_blocked e.status pending
            (ap (λ (x : Evaluation). x.status) (same_Some e b.row (sym at ∙ ap (get t.evaluations) (sym same) ∙ b.is_row)) ∙ b.is_so)

        k_there : get closed_rows k ≡ Some b.row
        k_there = number_elsewhere t.evaluations n closed k apart_k ∙ b.is_row

        apart_from : (m : ℕ) (d : Evaluation) → get t.evaluations m ≡ Some d → (d.job ≡ e.job → d.status ≢ Status.Blocked) → m ≢ k
        apart_from m d d_at free same =
            let row : d ≡ b.row = same_Some d b.row (sym d_at ∙ ap (get t.evaluations) same ∙ b.is_row) in
            free (ap (λ (x : Evaluation). x.job) row ∙ b.its_job) (ap (λ (x : Evaluation). x.status) row ∙ b.is_so)

    cleared : Cleared
    cleared = cleared_by (blocked_of t e.job) refl

    -- ---- without a follower

    abbrev rows : ByNumber Evaluation
    rows = cleared.rows

    abbrev rest : List Key
    rest = cleared.rest

    alone : needs_follower worker kept ≡ false → Finished (Content.Finished (end_of worker) None) (settle s.world (promoted rows t.evaluation_number rest))
    alone none = finished_with rows t.evaluation_number rest rest None cleared.own
        (cleared.cancels (without rows t.evaluation_number) (λ m other under. refl))
        (none_needed (not_zero worker.tries (left_none (has_failed worker) (is_short (plan kept)) none))
        (right_none (has_failed worker) (is_short (plan kept)) none) refl (ends_number t (without rows t.evaluation_number)))
        cleared.others

    -- ---- with a follower

    abbrev new : ℕ
    new = t.evaluation_number + 1

    abbrev tied : Evaluation
    tied = record closed { follower = Some new }

    abbrev tied_rows : ByNumber Evaluation
    tied_rows = insert rows n tied

    past : (m : ℕ) → m ≤ t.evaluation_number → m ≢ new
    past m under same = absurd (omega (arith, under, same))

    follows : (f : Evaluation) → with_follower n f (without rows t.evaluation_number) ≡ without (insert tied_rows new f) new
    follows f = ap (λ (o : Option Evaluation). let v : Tenant = option_map_or (λ e. record (without rows t.evaluation_number)
        { evaluations = insert rows n (record e { follower = Some new }) }) o (without rows t.evaluation_number) in
        record v { evaluation_number = new; evaluations = insert v.evaluations new f }) cleared.own

    module _ (f : Evaluation) where
      abbrev all_rows : ByNumber Evaluation
      all_rows = insert tied_rows new f

      own_row : get all_rows n ≡ Some tied
      own_row = number_elsewhere tied_rows new f n (past n (below n e at)) ∙ number_there rows n tied

      same_rows : (m : ℕ) → m ≢ n → m ≤ t.evaluation_number → get all_rows m ≡ get rows m
      same_rows m other under = number_elsewhere tied_rows new f m (past m under) ∙ number_elsewhere rows n tied m other

      followed_with : (keys : List Key) → FollowerLeads s.world ns worker kept e why t (ends t (without all_rows new)) rest keys (Some new) →
          Finished (Content.Finished (end_of worker) (Some new)) (settle s.world (promoted all_rows new keys))
      followed_with keys leads = finished_with all_rows new keys rest (Some new) own_row (cleared.cancels (without all_rows new) same_rows) leads
          (λ m d d_at other free. same_rows m other (below m d d_at) ∙ cleared.others m d d_at other free)

      new_row : HasEvaluation (ends t (without all_rows new)) new f
      new_row = ends_evaluation t (without all_rows new) new f (number_there tied_rows new f)

    abbrev follower : Evaluation
    follower = follower_of e worker kept

    abbrev waiting : Evaluation
    waiting = record follower { status = Status.Pending }

    is_follower : (status : Status) → IsFollower worker e kept why (record follower { status = status })
    is_follower status = record {
      job = refl;
      kind = refl;
      priority = refl;
      pool = refl;
      previous = refl;
      why = refl;
      no_nacks = refl;
      no_follower = refl;
      waits = waits_for e worker kept status;
    }

    Follows : Tenant → World → Bool → Type 0
    Follows u x b = Finished (Content.Finished (end_of worker) (Some new)) (settle s.world (promote ns e.job (followed ns worker follower u b x)))

    followed_to : needs_follower worker kept ≡ true → (b : Bool) → missed s.world kept follower ≡ b →
        Follows (without rows t.evaluation_number) (record s.world { blocked = rest }) b
    unfolding Follows
    followed_to need true late = subst (λ (u : Tenant). Finished (Content.Finished (end_of worker) (Some new))
        (settle s.world (promote ns e.job (record (put_tenant ns u s.world) { blocked = rest })))) (sym (follows waiting))
        (followed_with waiting rest (follower_pending (needs worker kept need) waiting (is_follower Status.Pending) refl
        (missed_release s.world kept follower Status.Pending late) (new_row waiting) refl
        (ends_number t (without (all_rows waiting) new))))
    followed_to need false late = subst (λ (u : Tenant). Finished (Content.Finished (end_of worker) (Some new))
        (settle s.world (promote ns e.job (record (put_tenant ns u s.world) { blocked = rest ++ (ns, new) ∷ [] })))) (sym (follows follower))
        (followed_with follower (rest ++ (ns, new) ∷ [])
        (follower_blocked (needs worker kept need) follower (is_follower Status.Blocked) refl (new_row follower) refl
        (ends_number t (without (all_rows follower) new))))

    finished_does : Does (λ content x. Finished content (settle s.world x)) (finished number ns s.world t worker e kept)
    unfolding Follows
    finished_does =
        let u : Tenant = ended number worker e (end_of worker) t in
        let x : World = without_blocked ns e.job t s.world in
        does_if (λ content x. Finished content (settle s.world x)) (needs_follower worker kept)
        (Done (Content.Finished (end_of worker) (Some new)) (promote ns e.job (followed ns worker follower u (missed s.world kept follower) x)))
        (Done (Content.Finished (end_of worker) None) (promote ns e.job (put_tenant ns u x)))
        (λ need. subst (λ (p : Tenant × World). Follows p.0 p.1 (missed s.world kept follower))
        (λ i. (sym cleared.ended_is i, sym cleared.rest_is i)) (followed_to need (missed s.world kept follower) refl))
        (λ none. subst (λ (p : Tenant × World). Finished (Content.Finished (end_of worker) None) (settle s.world (promote ns e.job (put_tenant ns p.0 p.1))))
        (λ i. (sym cleared.ended_is i, sym cleared.rest_is i)) (alone none))

pub finished_is_ended : law.FinishedIsEnded
unfolding finish
finished_is_ended number ns s s' reply valid made = work_does (Step.Finish number ns) s s' reply (λ r y. IsFinished number ns r s y)
    (finish number ns s.world) (act_is (Step.Finish number ns) s refl)
    (at_work_does number ns s.world (λ content x. Finished number ns s content (settle s.world x))
    (λ t worker e. option_map_or (finish_for number ns s.world t worker e) worker.kept NotEnabled) (λ t worker e is has at.
    does_or (λ content x. Finished number ns s content (settle s.world x)) worker.kept (finish_for number ns s.world t worker e) (λ kept keeps.
    does_if (λ content x. Finished number ns s content (settle s.world x)) (may_finish worker kept) (finished number ns s.world t worker e kept) NotEnabled
    (λ may. let sound = valid.world.tenant ns t is in
    let held = sound.worker number worker has in
    finished_does number ns s t worker e kept is has at keeps may
    (ap (λ (x : Evaluation). x.status) (same_Some e held.row (sym at ∙ held.is_row)) ∙ pending_is held.row.status held.pending)
    (λ m d d_at. (sound.evaluation m d d_at).below)) (λ _. tt)))) made
