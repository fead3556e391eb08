-- What a step's own change makes of the evaluations of every namespace: requests, plans and workers' steps.
use Rattle.std.specs.Prelude.{◌≡◌, ◌⊎◌, ℕ, Bool, true, false, not, ◌&&◌, Some, nat_lt, is_some}
use Rattle.std.proofs.Common.{inl, inr, refl, sym, ap, subst, ◌∙◌}
use Rattle.std.specs.FinMap.{get, insert, contains_key}
use Rattle.std.specs.Option.{option_map_or, option_and_then}
use Rattle.ns_types.specs.declared.evaluation.Evaluation.{Evaluation}
use Rattle.ns_types.specs.declared.reply.Content.TheVariants as Content
use Rattle.ns_types.specs.declared.worker.Phase.TheVariants as Phase
use Rattle.ns_types.specs.Settling.Making.{put_tenant}
use Rattle.ns_types.specs.Settling.Outcome.{Outcome, NotEnabled, Done}
use Rattle.ns_types.specs.State.Names.{Key, Name, has_key, same_key, same_name, same_number}
use Rattle.ns_types.specs.State.Rows.{World, Tenant, evaluation_at}
use Rattle.ns_types.specs.Working.Commit.{commit, apply, apply_for, applied, applied_worker, Applied}
use Rattle.ns_types.specs.Placing.Plan.{plan}
use Rattle.ns_types.specs.Working.Looks.{worker_at}
use Rattle.ns_types.specs.Working.Queue.{is_served}
use Rattle.ns_types.specs.Working.Snapshot.{snapshot_of}
use Rattle.ns_types.specs.Working.Work.{with_worker, without_key, workers_end, is_idle, new_worker, taken, dequeue_in, dequeue, may_snap}
use Rattle.ns_types.specs.Working.Work.{with_snapshot, snap_for, snap, may_submit, submitted, submit_for, submit, is_submitted}
use Rattle.ns_types.specs.Working.Worker.{Worker}
use Rattle.ns_types.proofs.Leads.{Leads, leads_there, leads_if, leads_at_work, leads_keeping}
use Rattle.ns_types.proofs.Lists.{not_both}
use Rattle.ns_types.proofs.Named.{names, one_name, numbers, one_number, first_of_both, second_of_both, same_name_is, same_key_is}
use Rattle.ns_types.proofs.TableRows.{get_put, get_other}
use Rattle.ns_types.proofs.Tables.{tied, none_of_any}
use Rattle.ns_types.proofs.Tests.{is_no, same_Some}
use Rattle.ns_audit.proofs.Carries.{commit_carries}
use Rattle.ns_audit.proofs.ValidWorkers.Busy.{IsQueued}
use Rattle.ns_audit.proofs.ValidWorkers.Once.{has_key_still}
use Rattle.ns_laws.specs.Serving.{IsUnderWay, is_ready, is_with_worker, HasOneUnderWay}
use Rattle.ns_laws.proofs.Service.Keeping.{Tending, tends_carries, row_on, one_on}

-- ---- changes that leave every evaluation as it is

pub record Keeps (w x : World) : Type 0 where
  pub rows : (key : Key) (a : Evaluation) → evaluation_at w key ≡ Some a → evaluation_at x key ≡ Some a
  pub back : (key : Key) (d : Evaluation) → evaluation_at x key ≡ Some d → (evaluation_at w key ≡ Some d) ⊎ HasOneUnderWay x key.0 d.job
  pub one : (ns job : Name) → HasOneUnderWay w ns job → HasOneUnderWay x ns job

pub keeps_tends : (w x : World) → IsQueued w → Tending w x → Keeps w x
keeps_tends w x q h = record { rows = row_on w x (h q) q; back = (h q).pending; one = one_on w x (h q) q }

pub keeps_then : (w x y : World) → Keeps w x → Keeps x y → Keeps w y
keeps_then w x y a b = record {
  rows = λ key d at. b.rows key d (a.rows key d at);
  back = λ key d at. by key d (b.back key d at);
  one = λ ns job o. b.one ns job (a.one ns job o);
}
  where
    before : (key : Key) (d : Evaluation) → (evaluation_at w key ≡ Some d) ⊎ HasOneUnderWay x key.0 d.job →
        (evaluation_at w key ≡ Some d) ⊎ HasOneUnderWay y key.0 d.job
    before key d (inl at) = inl at
    before key d (inr o) = inr (b.one key.0 d.job o)

    by : (key : Key) (d : Evaluation) → (evaluation_at x key ≡ Some d) ⊎ HasOneUnderWay y key.0 d.job →
        (evaluation_at w key ≡ Some d) ⊎ HasOneUnderWay y key.0 d.job
    by key d (inl at) = before key d (a.back key d at)
    by key d (inr o) = inr o

-- one is under way in x too, if each that is under way in w is
pub one_with : (w x : World) → ((key : Key) (a : Evaluation) → evaluation_at w key ≡ Some a → evaluation_at x key ≡ Some a) →
    ((ns : Name) (n : ℕ) → IsUnderWay w ns n → IsUnderWay x ns n) → (ns job : Name) → HasOneUnderWay w ns job → HasOneUnderWay x ns job
one_with w x rows under ns job o = record {
  number = o.number;
  row = o.row;
  is_row = rows (ns, o.number) o.row o.is_row;
  of_job = o.of_job;
  under_way = under ns o.number o.under_way;
}

pub keeps_tables : (w x : World) → x.tenants ≡ w.tenants → x.ready ≡ w.ready → Keeps w x
keeps_tables w x tenants ready = record {
  rows = λ key a at. same key ∙ at;
  back = λ key d at. inl (sym (same key) ∙ at);
  one = one_with w x (λ key a at. same key ∙ at) under;
}
  where
    same : (key : Key) → evaluation_at x key ≡ evaluation_at w key
    same key = ap (λ m. option_and_then (λ (t : Tenant). get t.evaluations key.1) (get m key.0)) tenants

    under : (ns : Name) (n : ℕ) → IsUnderWay w ns n → IsUnderWay x ns n
    under ns n (is_ready has) = is_ready (ap (λ keys. has_key keys (ns, n)) ready ∙ has)
    under ns n (is_with_worker number worker at is) =
        is_with_worker number worker (ap (λ m. option_and_then (λ (t : Tenant). get t.workers number) (get m ns)) tenants ∙ at) is

-- ---- one namespace is put

module _ (w : World) (ns : Name) (t u : Tenant) (is : get w.tenants ns ≡ Some t) (x : World) (put : x.tenants ≡ insert w.tenants ns u) where
  pub here : get x.tenants ns ≡ Some u
  here = ap (λ m. get m ns) put ∙ get_put names one_name w.tenants ns u

  pub apart : (k : Name) → same_name k ns ≡ false → get x.tenants k ≡ get w.tenants k
  apart k e = ap (λ m. get m k) put ∙ get_other names one_name w.tenants ns u k e

  same_rows : u.evaluations ≡ t.evaluations → (key : Key) → evaluation_at x key ≡ evaluation_at w key
  same_rows rows key = by (same_name key.0 ns) refl
    where
      by : (b : Bool) → same_name key.0 ns ≡ b → evaluation_at x key ≡ evaluation_at w key
      by true e = ap (λ k. evaluation_at x (k, key.1)) (same_name_is key.0 ns e) ∙ ap (option_and_then (λ (t : Tenant). get t.evaluations key.1)) here
          ∙ ap (λ m. get m key.1) rows ∙ sym (ap (option_and_then (λ (t : Tenant). get t.evaluations key.1)) is)
          ∙ sym (ap (λ k. evaluation_at w (k, key.1)) (same_name_is key.0 ns e))
      by false e = ap (option_and_then (λ (t : Tenant). get t.evaluations key.1)) (apart key.0 e)

  pub its_worker : (m : ℕ) (v : Worker) → get u.workers m ≡ Some v → IsUnderWay x ns v.evaluation
  its_worker m v at = is_with_worker m v (ap (option_and_then (λ (t : Tenant). get t.workers m)) here ∙ at) refl

  -- what is under way is so still, or P holds of it
  module _ (P : Name → ℕ → Type 0) (listed : (k : Name) (n : ℕ) → has_key w.ready (k, n) ≡ true → IsUnderWay x k n ⊎ P k n)
      (held : (m : ℕ) (v : Worker) → get t.workers m ≡ Some v → IsUnderWay x ns v.evaluation ⊎ P ns v.evaluation) where
    pub under_put : (k : Name) (n : ℕ) → IsUnderWay w k n → IsUnderWay x k n ⊎ P k n
    under_put k n (is_ready has) = listed k n has
    under_put k n (is_with_worker m v at same) = by (same_name k ns) refl
      where
        by : (b : Bool) → same_name k ns ≡ b → IsUnderWay x k n ⊎ P k n
        by true e =
            let name = same_name_is k ns e in
            subst (λ (key : Key). IsUnderWay x key.0 key.1 ⊎ P key.0 key.1) (λ i. (sym name i, same i))
            (held m v (sym (ap (option_and_then (λ (t : Tenant). get t.workers m)) is) ∙ ap (worker_at w m) (sym name) ∙ at))
        by false e = inl (is_with_worker m v (ap (option_and_then (λ (t : Tenant). get t.workers m)) (apart k e) ∙ at) same)

-- where nothing else holds
sure : {A : Type 0} → A ⊎ ⊥ → A
sure (inl a) = a
sure (inr b) = absurd b

-- ---- a worker has another row, of the same evaluation

module _ (w : World) (ns : Name) (number : ℕ) (t : Tenant) (worker new : Worker) (is : get w.tenants ns ≡ Some t)
    (has : get t.workers number ≡ Some worker) (same : new.evaluation ≡ worker.evaluation) (x : World)
    (put : x.tenants ≡ insert w.tenants ns (with_worker number new t)) (ready : x.ready ≡ w.ready) where
  pub keeps_worker : Keeps w x
  keeps_worker = record {
    rows = λ key a at. rows key ∙ at;
    back = λ key d at. inl (sym (rows key) ∙ at);
    one = one_with w x (λ key a at. rows key ∙ at) (λ k n o. sure (under_put w ns t u is x put (λ _ _. ⊥)
        (λ k n listed. inl (is_ready (ap (λ keys. has_key keys (k, n)) ready ∙ listed))) held k n o));
  }
    where
      u : Tenant
      u = with_worker number new t

      rows : (key : Key) → evaluation_at x key ≡ evaluation_at w key
      rows = same_rows w ns t (with_worker number new t) is x put refl

      held : (m : ℕ) (v : Worker) → get t.workers m ≡ Some v → IsUnderWay x ns v.evaluation ⊎ ⊥
      held m v at = by (same_number m number) refl
        where
          by : (b : Bool) → same_number m number ≡ b → IsUnderWay x ns v.evaluation ⊎ ⊥
          by true e = inl (subst (IsUnderWay x ns)
              (same ∙ ap (λ (v : Worker). v.evaluation) (same_Some _ _ (sym has ∙ ap (get t.workers) (sym (tied one_number m number e)) ∙ at)))
              (its_worker w ns t (with_worker number new t) is x put number new (get_put numbers one_number t.workers number new)))
          by false e = inl (its_worker w ns t (with_worker number new t) is x put m v (get_other numbers one_number t.workers number new m e ∙ at))

-- ---- Dequeue, Snap, Submit, Apply

abbrev pub Keeping : World → Outcome World → Type 0
Keeping w = Leads (Keeps w)

module _ (w : World) (number : ℕ) where
  module _ (key : Key) (t : Tenant) (e : Evaluation) (is : get w.tenants key.0 ≡ Some t) (idle : is_idle w number ≡ true) where
    abbrev x : World
    x = taken number key w t e

    abbrev u : Tenant
    u = with_worker number (new_worker key.1 e) t

    none : contains_key t.workers number ≡ false
    none = none_of_any one_name (λ _ t. contains_key t.workers number) w.tenants key.0 t (is_no _ idle) is

    keeps_taken : Keeps w x
    keeps_taken = record {
      rows = λ k a at. rows k ∙ at;
      back = λ k d at. inl (sym (rows k) ∙ at);
      one = one_with w x (λ k a at. rows k ∙ at) (λ k n o. sure (under_put w key.0 t u is x refl (λ _ _. ⊥) listed held k n o));
    }
      where
        rows : (k : Key) → evaluation_at x k ≡ evaluation_at w k
        rows = same_rows w key.0 t u is x refl refl

        listed : (k : Name) (n : ℕ) → has_key w.ready (k, n) ≡ true → IsUnderWay x k n ⊎ ⊥
        listed k n has = by (same_key key (k, n)) refl
          where
            by : (b : Bool) → same_key key (k, n) ≡ b → IsUnderWay x k n ⊎ ⊥
            by true same = let p = same_key_is key (k, n) same in
                inl (subst (λ (key : Key). IsUnderWay x key.0 key.1) (λ i. (p.0 i, p.1 i))
                (its_worker w key.0 t u is x refl number (new_worker key.1 e) (get_put numbers one_number t.workers number (new_worker key.1 e))))
            by false other = inl (is_ready (has_key_still (λ other. not (same_key key other)) w.ready (k, n) has (ap not other)))

        held : (m : ℕ) (v : Worker) → get t.workers m ≡ Some v → IsUnderWay x key.0 v.evaluation ⊎ ⊥
        held m v at = by (same_number m number) refl
          where
            by : (b : Bool) → same_number m number ≡ b → IsUnderWay x key.0 v.evaluation ⊎ ⊥
            by true e = not_both (ap is_some (ap (get t.workers) (sym (tied one_number m number e)) ∙ at)) none
            by false other = inl (its_worker w key.0 t u is x refl m v (get_other numbers one_number t.workers number (new_worker key.1 e) m other ∙ at))

  pub dequeue_keeps : (key : Key) → Keeping w (dequeue number key w)
  unfolding dequeue
  dequeue_keeps key = leads_if (Keeps w) (nat_lt number workers_end && is_idle w number && is_served w w.ready key)
      (option_map_or (dequeue_in number key w) (get w.tenants key.0) NotEnabled) NotEnabled (λ may.
      leads_there (Keeps w) (get w.tenants key.0) (dequeue_in number key w) (λ t is. leads_there (Keeps w) (get t.evaluations key.1) _ (λ e _.
      keeps_taken key t e is (second_of_both (nat_lt number workers_end) _ (first_of_both _ (is_served w w.ready key) may))))) (λ _. tt)

  module _ (ns : Name) where
    pub snap_keeps : Keeping w (snap number ns w)
    unfolding snap
    snap_keeps = leads_at_work (Keeps w) number ns w (snap_for number ns w) (λ t worker e is has _.
        let new : Worker = with_snapshot (snapshot_of w ns t worker.evaluation e) worker in
        leads_if (Keeps w) (may_snap worker.tries worker.phase)
        (Done (Content.Snapped worker.evaluation) (put_tenant ns (with_worker number new t) w)) NotEnabled
        (λ _. keeps_worker w ns number t worker new is has refl (put_tenant ns (with_worker number new t) w) refl refl) (λ _. tt))

    pub submit_keeps : Keeping w (submit number ns w)
    unfolding submit
    submit_keeps = leads_keeping (Keeps w) number ns w (λ t worker e. submit_for number ns w t worker) (λ t worker e kept is has _ _.
        leads_if (Keeps w) (may_submit worker kept) (Done (Content.Queued worker.evaluation) (submitted number ns w t worker)) NotEnabled
        (λ _. keeps_worker w ns number t worker (record worker { phase = Phase.Submitted }) is has refl (submitted number ns w t worker) refl refl) (λ _. tt))

    applied_keeps : IsQueued w → (t : Tenant) (worker : Worker) (e : Evaluation) → get w.tenants ns ≡ Some t → get t.workers number ≡
        Some worker → (a : Applied) →
        Tending w a.world → Keeping w (applied number ns worker e a)
    applied_keeps q t worker e is has a tends =
        let there = (tends q).quiet.goes ns t is in
        let new : Worker = applied_worker a worker e in
        let y : World = record (put_tenant ns (with_worker number new there.0) a.world) { plans = without_key (ns, worker.evaluation) a.world.plans } in
        subst (λ o. Keeps w (record (option_map_or (λ x. put_tenant ns (with_worker number new x) a.world) o a.world)
        { plans = without_key (ns, worker.evaluation) a.world.plans })) (sym there.1)
        (keeps_then w a.world y (keeps_tends w a.world q tends)
        (keeps_worker a.world ns number there.0 worker new there.1 (ap (λ m. get m number) there.2.workers ∙ has) refl y refl refl))

    pub apply_keeps : IsQueued w → Keeping w (apply number ns w)
    unfolding apply
    apply_keeps q = leads_keeping (Keeps w) number ns w (apply_for number ns w) (λ t worker e kept is has _ _.
        leads_if (Keeps w) (is_submitted worker.phase && is_served w w.plans (ns, worker.evaluation))
        (applied number ns worker e (commit kept (plan kept) w t)) NotEnabled
        (λ _. applied_keeps q t worker e is has (commit kept (plan kept) w t) (commit_carries tends_carries kept (plan kept) w t)) (λ _. tt))
