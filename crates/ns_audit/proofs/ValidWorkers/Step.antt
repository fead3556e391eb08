-- Each step of a valid state leaves workers sound, and they are sound at first.
use Rattle.std.specs.Prelude.{◌≡◌, ℕ, Bool, true, false, cond, T, [], Option, Some, None, Ok, Err, is_some}
use Rattle.std.proofs.Common.{inl, inr, refl, sym, ap, subst, ◌∙◌}
use Rattle.std.specs.FinMap.{get, get-empty}
use Rattle.std.specs.Option.{option_and_then}
use Rattle.std.specs.Ordering.{nat_cmp}
use Rattle.ns_types.specs.declared.evaluation.Evaluation.{Evaluation}
use Rattle.ns_types.specs.declared.refusal.Refusal.TheVariants as Refusal
use Rattle.ns_types.specs.declared.snapshot.Snapshot.{Snapshot}
use Rattle.ns_types.specs.declared.step.Step.{Step}
use Rattle.ns_types.specs.Working.Worker.{Worker}
use Rattle.ns_types.specs.State.Names.{Name, default_name, same_key, has_key}
use Rattle.ns_types.specs.Settling.Outcome.{Outcome, NotEnabled, Refused, Done}
use Rattle.ns_types.specs.State.Rows.{State, World, Tenant, is_pending}
use Rattle.ns_types.specs.Settling.Settle.{settle}
use Rattle.ns_types.specs.Steps.{Answer, said, act, after, is_allowed, concluded, reply_of, is_past_bound, opening_tenant, opening_world, opening}
use Rattle.ns_types.specs.Validity.{IsSound, IsSoundWorker, IsSoundSnapshot, IsValid, same_found, busy_with, jobs_at}
use Rattle.ns_audit.specs.Orderly.{IsReadyIn, IsOrderly}
use Rattle.ns_audit.proofs.ValidWorkers.Statement.{IsManned, HasSoundWorkers, WorkersStep, WorkersOpening}
use Rattle.ns_audit.proofs.Steady.Opening.{only_row, reached_is_steady}
use Rattle.ns_audit.proofs.Steady.Workers.{at_tenant}
use Rattle.ns_audit.proofs.Alone.Orderly.{orderly}
use Rattle.ns_audit.proofs.Alone.Running.{valid_is_steady, steady_step}
use Rattle.ns_audit.proofs.Carries.{ask_carries, ask_pool_carries}
use Rattle.ns_audit.proofs.ValidWorkers.Admins.{quiet_well, KeepsStaffState, of_world, administer_well}
use Rattle.ns_audit.proofs.ValidWorkers.Busy.{HasWorker, IsBusyIn, IsQueuedIn, IsQueued}
use Rattle.ns_audit.proofs.ValidWorkers.Finish.{nack_well, finish_well}
use Rattle.ns_audit.proofs.ValidWorkers.Lists.{one_of_list, list_of_one}
use Rattle.ns_audit.proofs.ValidWorkers.Once.{distinct_once, once_distinct}
use Rattle.ns_audit.proofs.ValidWorkers.Quiet.{quiet_carries}
use Rattle.ns_audit.proofs.ValidWorkers.Settle.{settle_queued, settle_stays}
use Rattle.ns_audit.proofs.ValidWorkers.Staff.{IsStaffed, sound_staffed, staffed_stays}
use Rattle.ns_audit.proofs.ValidWorkers.Work.{dequeue_well, snap_well, submit_well, apply_well}
use Rattle.ns_types.proofs.Tests.{not_Some, same_Some}

-- ---- what a valid state has

sound_queued : (w : World) → IsSound w → IsQueued w
sound_queued w s = record { tenant = queued; once = distinct_once same_key w.ready s.ready_once }
  where
    queued : (ns : Name) (t : Tenant) → get w.tenants ns ≡ Some t → IsQueuedIn w.ready ns t
    queued ns t is = record {
      numbered = λ n e at. ((s.tenant ns t is).evaluation n e at).below;
      there = there;
      one_busy = one_of_list w ns t (distinct_once same_found (jobs_at t (busy_with w ns t)) (s.tenant ns t is).one_busy);
    }
      where
        there : (n : ℕ) → IsBusyIn w.ready ns t.workers n → (e : Evaluation) × (get t.evaluations n ≡ Some e)
        there n (inl has) = let r = at_tenant w IsReadyIn ns n t is ((orderly w s).ready ns n has) in (r.pending.row, r.pending.is_row)
        there n (inr h) = let k = (s.tenant ns t is).worker h.number h.worker h.is_worker in (k.row, ap (get t.evaluations) (sym h.same) ∙ k.is_row)

-- ---- what is owed after a step

module _ (w : World) (o : IsOrderly w) (s : IsStaffed w) (q : IsQueued w) where
  sound_snapshot : (ns : Name) (t : Tenant) (n : ℕ) (worker : Worker) → get w.tenants ns ≡ Some t → get t.workers n ≡ Some worker → (kept : Snapshot) →
      worker.kept ≡ Some kept → IsSoundSnapshot w ns t worker kept
  sound_snapshot ns t n worker is has kept keeps =
      let k = (o.tenant ns t is).snapshot n worker kept has keeps in
      let y = (s.worker ns t n worker is has).snapshot kept keeps in record {
        namespace = k.namespace;
        number = y.number;
        row = y.row;
        allowed = record { exists = y.exists; permitted = k.allowed.permitted; its_quota = k.allowed.its_quota };
        job_good = y.job_good;
        nodes_once = y.nodes_once;
        countable = y.countable;
        seen = y.seen;
        quota_seen = y.quota_seen;
      }

  free : (ns : Name) (t : Tenant) → get w.tenants ns ≡ Some t → (n : ℕ) → has_key w.ready (ns, n) ≡ true → HasWorker t.workers n → ⊥
  free ns t is n has h = (at_tenant w IsReadyIn ns n t is (o.ready ns n has)).free h.number h.worker h.is_worker h.same

  sound_worker : (ns : Name) (t : Tenant) (n : ℕ) (worker : Worker) → get w.tenants ns ≡ Some t → get t.workers n ≡ Some worker → IsSoundWorker w ns t n worker
  sound_worker ns t n worker is has =
      let p = (o.tenant ns t is).held n worker has in
      let y = s.worker ns t n worker is has in record {
        below = y.below;
        row = p.row;
        is_row = p.is_row;
        pending = ap is_pending p.is_pending;
        not_ready = unlisted (has_key w.ready (ns, worker.evaluation)) refl;
        snapshot = sound_snapshot ns t n worker is has;
        keeps_one = y.keeps_one;
        fit = y.fit;
        least = y.least;
        most = y.most p.row p.is_row;
        plan_listed = y.plan_listed;
      }
    where
      unlisted : (b : Bool) → has_key w.ready (ns, worker.evaluation) ≡ b → b ≡ false
      unlisted true listed = absurd (free ns t is worker.evaluation listed (record { number = n; worker = worker; is_worker = has; same = refl }))
      unlisted false _ = refl

  manned : (ns : Name) (t : Tenant) → get w.tenants ns ≡ Some t → IsManned w ns t
  manned ns t is = record {
    worker = λ n worker has. sound_worker ns t n worker is has;
    one_each = λ m n v x a b same. s.one_each ns t m n v x is a b same;
    one_busy = once_distinct same_found (jobs_at t (busy_with w ns t))
        (list_of_one w ns t (q.tenant ns t is).one_busy (λ m n v x a b same. s.one_each ns t m n v x is a b same) (free ns t is) q.once);
  }

  row_of : {X : Type 0} (x : Option X) → is_some x ≡ true → (y : X) × (x ≡ Some y)
  row_of None e = absurd (subst T (sym e) tt)
  row_of (Some y) e = (y, refl)

  all_sound : HasSoundWorkers w
  all_sound = record {
    tenant = manned;
    one_row = λ a b t u n a_is b_is a_has b_has. let v = row_of (get t.workers n) a_has in let x = row_of (get u.workers n) b_has in
        s.one_row a b t u n v.0 x.0 a_is b_is v.1 x.1;
    ready = λ key has. let l = o.ready key.0 key.1 has in record {
      row = l.entry.pending.row;
      is_row = ap (option_and_then (λ (t : Tenant). get t.evaluations key.1)) l.is_tenant ∙ l.entry.pending.is_row;
      pending = ap is_pending l.entry.pending.is_pending;
    };
    planned = s.planned;
    ready_once = once_distinct same_key w.ready q.once;
    plans_once = once_distinct same_key w.plans s.plans_once;
  }

-- ---- one step

act_well : (s : State) → IsSound s.world → IsQueued s.world → (step : Step) → KeepsStaffState s.world (act step s)
unfolding act
act_well s o q (Step.Ask ns secret command) = of_world s o q _ (quiet_well s.world o q _ (ask_carries quiet_carries s.world ns command))
act_well s o q (Step.Admin secret command) = administer_well s o q secret command
act_well s o q (Step.Node pool secret command) = of_world s o q _ (quiet_well s.world o q _ (ask_pool_carries quiet_carries s.world pool command))
act_well s o q (Step.Dequeue worker ns n) = of_world s o q _ (dequeue_well s.world o q ns worker n)
act_well s o q (Step.Snap worker ns) = of_world s o q _ (snap_well s.world o q ns worker)
act_well s o q (Step.Submit worker ns) = of_world s o q _ (submit_well s.world o q ns worker)
act_well s o q (Step.Apply worker ns) = of_world s o q _ (apply_well s.world o q ns worker)
act_well s o q (Step.Finish worker ns) = of_world s o q _ (finish_well s.world o q ns worker)
act_well s o q (Step.Nack worker ns) = of_world s o q _ (nack_well s.world o q ns worker)

-- what is to be said of the state after a step
record IsRight (w : World) : Type 0 where
  staffed : IsStaffed w
  queued : IsQueued w

module _ (s : State) (valid : IsValid s) (step : Step) (s' : State) (answer : Answer) where
  queued : IsQueued s.world
  queued = sound_queued s.world valid.world

  at_first : IsRight s.world
  at_first = record { staffed = sound_staffed s.world valid.world; queued = queued }

  concluded_right : (o : Outcome State) → KeepsStaffState s.world o → concluded step s o ≡ said answer s' → IsRight s'.world
  concluded_right NotEnabled h e = absurd (not_Some _ e)
  concluded_right (Refused refusal) h e = subst (λ (x : State). IsRight x.world) (ap (λ x. x.1) (same_Some _ _ e)) at_first
  concluded_right (Done content x) h e = by (is_past_bound (settle s.world x.world)) e
    where
      y : State
      y = record x { world = settle s.world x.world }

      settled : IsRight (settle s.world x.world)
      settled = record {
        staffed = staffed_stays x.world (settle s.world x.world) (settle_stays s.world x.world (orderly s.world valid.world) h.held) h.staffed;
        queued = settle_queued s.world x.world h.queued;
      }

      by : (b : Bool) → cond b (said (Err Refusal.Full) s) (said (Ok (reply_of step content (settle s.world x.world))) y) ≡ said answer s' → IsRight s'.world
      by true e = subst (λ (x : State). IsRight x.world) (ap (λ x. x.1) (same_Some _ _ e)) at_first
      by false e = subst (λ (x : State). IsRight x.world) (ap (λ x. x.1) (same_Some _ _ e)) settled

  after_right : after step s ≡ said answer s' → IsRight s'.world
  unfolding after
  after_right e = by (is_allowed step s.acl) e
    where
      by : (b : Bool) → cond b (concluded step s (act step s)) (said (Err Refusal.Denied) s) ≡ said answer s' → IsRight s'.world
      by true e = concluded_right (act step s) (act_well s valid.world queued step) e
      by false e = subst (λ (x : State). IsRight x.world) (ap (λ x. x.1) (same_Some _ _ e)) at_first

pub workers_step : WorkersStep
workers_step s s' step answer valid good e =
    let r = after_right s valid step s' answer e in
    all_sound s'.world (steady_step s s' step answer (valid_is_steady s valid) e).orderly r.staffed r.queued

-- ---- the opening state

module _ (ns : Name) (t : Tenant) (is : get opening_world.tenants ns ≡ Some t) where
  same_tenant : opening_tenant ≡ t
  same_tenant = only_row default_name opening_tenant ns t is

  no_worker : (n : ℕ) (worker : Worker) → get t.workers n ≡ Some worker → ⊥
  no_worker n worker has = not_Some _ (sym (get-empty nat_cmp n) ∙ ap (λ (t : Tenant). get t.workers n) same_tenant ∙ has)

  no_evaluation : (n : ℕ) (e : Evaluation) → get t.evaluations n ≡ Some e → ⊥
  no_evaluation n e at = not_Some _ (sym (get-empty nat_cmp n) ∙ ap (λ (t : Tenant). get t.evaluations n) same_tenant ∙ at)

  no_busy : (n : ℕ) → IsBusyIn [] ns t.workers n → ⊥
  no_busy n (inl has) = subst T (sym has) tt
  no_busy n (inr h) = no_worker h.number h.worker h.is_worker

opening_staffed : IsStaffed opening_world
opening_staffed = record {
  worker = λ ns t n worker is has. absurd (no_worker ns t is n worker has);
  one_each = λ ns t m n v x is a b same. absurd (no_worker ns t is m v a);
  one_row = λ a b t u n v x a_is b_is a_has b_has. absurd (no_worker a t a_is n v a_has);
  planned = λ key has. absurd (subst T (sym has) tt);
  plans_once = refl;
}

opening_queued : IsQueued opening_world
opening_queued = record {
  tenant = λ ns t is. record {
    numbered = λ n e at. absurd (no_evaluation ns t is n e at);
    there = λ n b. absurd (no_busy ns t is n b);
    one_busy = λ m n d e bm bn dm en same. absurd (no_busy ns t is m bm);
  };
  once = refl;
}

pub workers_opening : WorkersOpening
unfolding opening
workers_opening secret = all_sound opening_world (reached_is_steady secret (opening secret) [] [] refl).orderly opening_staffed opening_queued
