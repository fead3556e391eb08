-- Changes after which every pending evaluation has one of its job that is ready or with a worker, if it was so before.
use Rattle.std.specs.Prelude.{◌≡◌, ◌⊎◌, ◌≤◌, ℕ, ◌+◌, Bool, true, false, cond, ◌||◌, List, [], ◌∷◌, ◌++◌, Option, Some, None, fold}
use Rattle.std.proofs.Common.{inl, inr, refl, sym, ap, subst, ◌∙◌}
use Rattle.std.proofs.lemmas.Bool.{or_left, or_right}
use Rattle.std.proofs.lemmas.List.Folds.{list_any-append}
use Rattle.std.specs.FinMap.{get}
use Rattle.std.specs.List.{list_any}
use Rattle.std.specs.Option.{option_map_or, option_and_then}
use Rattle.ns_types.specs.declared.evaluation.Evaluation.{Evaluation}
use Rattle.ns_types.specs.declared.evaluation.Status.TheVariants as Status
use Rattle.ns_types.specs.Settling.Making.{put_tenant, put_pool, with_evaluation, make_in}
use Rattle.ns_types.specs.State.Names.{Key, Name, has_key, same_key, same_name}
use Rattle.ns_types.specs.State.Rows.{World, Tenant, PoolRows, evaluation_at, is_pending}
use Rattle.ns_types.specs.State.Tables.{map_rows, any_row}
use Rattle.ns_types.specs.Settling.Outcome.{Outcome}
use Rattle.ns_types.specs.Working.Queue.{queue, promote, is_busy, is_of_job, first_waiting}
use Rattle.ns_types.specs.Working.Worker.{Worker}
use Rattle.ns_types.proofs.Leads.{Leads}
use Rattle.ns_types.proofs.Lists.{not_both}
use Rattle.ns_types.proofs.Named.{names, one_name, numbers, one_number, first_of_both, second_of_both, same_name_is, same_key_refl}
use Rattle.ns_types.proofs.Queue.{queue_keeps}
use Rattle.ns_types.proofs.TableRows.{row_of_insert}
use Rattle.ns_types.proofs.Tests.{either_of}
use Rattle.ns_audit.proofs.Carries.{Carries}
use Rattle.ns_audit.proofs.Steady.Keeping.{row_of_map}
use Rattle.ns_audit.proofs.ValidWorkers.Busy.{IsQueued}
use Rattle.ns_audit.proofs.ValidWorkers.Quiet.{Grows, grows_none, grows_then, Quiet, quiet_same, quiet_then, quiet_put, quiet_map, quiet_make_in, quiet_pool}
use Rattle.ns_laws.specs.Serving.{IsUnderWay, is_ready, is_with_worker, HasOneUnderWay}
use Rattle.ns_laws.proofs.OrderedLemmas.{first_waiting_is_least, none_waits_of_none}
use Rattle.ns_laws.proofs.Refusal.Tests.{Row, decides_any}
use Rattle.ns_laws.proofs.Service.Lists.{evaluation_in, evaluation_is, worker_in}
use Rattle.ns_laws.proofs.Wakes.Reasons.{some_key, queued_behind}

-- ---- a job that is busy

pub busy_one : (w : World) (ns job : Name) → is_busy w ns job ≡ true → HasOneUnderWay w ns job
busy_one w ns job busy = by (either_of (list_any (is_of_job w ns job) w.ready) _ busy)
  where
    of_key : (key : Key) → has_key w.ready key ≡ true → same_name ns key.0 ≡ true → (o : Option Evaluation) → evaluation_at w key ≡ o →
        option_map_or (λ e. same_name job e.job) o false ≡ true → HasOneUnderWay w ns job
    of_key key has own None at e = not_both e refl
    of_key key has own (Some d) at e = subst (λ ns. HasOneUnderWay w ns job) (sym (same_name_is ns key.0 own)) (record {
      number = key.1;
      row = d;
      is_row = at;
      of_job = sym (same_name_is job d.job e);
      under_way = is_ready has;
    })

    of_row : (t : Tenant) → get w.tenants ns ≡ Some t → (number : ℕ) (worker : Worker) → get t.workers number ≡ Some worker → (o : Option Evaluation) →
        evaluation_at w (ns, worker.evaluation) ≡ o → option_map_or (λ e. same_name job e.job) o false ≡ true → HasOneUnderWay w ns job
    of_row t is number worker has None at e = not_both e refl
    of_row t is number worker has (Some d) at e = record {
      number = worker.evaluation;
      row = d;
      is_row = at;
      of_job = sym (same_name_is job d.job e);
      under_way = is_with_worker number worker (ap (option_and_then (λ (t : Tenant). get t.workers number)) is ∙ has) refl;
    }

    of_worker : (o : Option Tenant) → get w.tenants ns ≡ o
        → option_map_or (λ t. any_row (λ _ (worker : Worker). is_of_job w ns job (ns, worker.evaluation)) t.workers) o false ≡ true → HasOneUnderWay w ns job
    of_worker None is e = not_both e refl
    of_worker (Some t) is e =
        let r : Row (λ number (worker : Worker). is_of_job w ns job (ns, worker.evaluation) ≡ true) t.workers =
        (decides_any numbers one_number (λ _ (worker : Worker). is_of_job w ns job (ns, worker.evaluation)) t.workers).0 e in
        of_row t is r.key r.row r.is_row (evaluation_at w (ns, r.row.evaluation)) refl (second_of_both (same_name ns ns) _ r.holds)

    by : (list_any (is_of_job w ns job) w.ready ≡ true)
        ⊎ (option_map_or (λ t. any_row (λ _ (worker : Worker). is_of_job w ns job (ns, worker.evaluation)) t.workers) (get w.tenants ns) false ≡ true)
        → HasOneUnderWay w ns job
    by (inl e) = let k = some_key (is_of_job w ns job) w.ready e in
        of_key k.0 k.1 (first_of_both (same_name ns k.0.0) _ k.2) (evaluation_at w k.0) refl (second_of_both (same_name ns k.0.0) _ k.2)
    by (inr e) = of_worker (get w.tenants ns) refl e

-- ---- the list of ready evaluations grows

pub longer : (keys more : List Key) (key : Key) → has_key keys key ≡ true → has_key (keys ++ more) key ≡ true
longer keys more key has = list_any-append (same_key key) keys more ∙ or_left (has_key keys key) (has_key more key) has

pub last_one : (keys : List Key) (key : Key) → has_key (keys ++ key ∷ []) key ≡ true
last_one keys key = list_any-append (same_key key) keys (key ∷ []) ∙ or_right (has_key keys key) (same_key key key || false)
    (or_left (same_key key key) false (same_key_refl key))

pub ready_queue : (w : World) (k key : Key) → has_key w.ready key ≡ true → has_key (queue w k).ready key ≡ true
unfolding queue
ready_queue w k key has = by (evaluation_at w k)
  where
    or : (b : Bool) → has_key (cond b w (record w { ready = w.ready ++ k ∷ [] })).ready key ≡ true
    or true = has
    or false = longer w.ready (k ∷ []) key has

    by : (o : Option Evaluation) → has_key (option_map_or (λ e. cond (is_busy w k.0 e.job) w (record w { ready = w.ready ++ k ∷ [] })) o w).ready key ≡ true
    by None = has
    by (Some e) = or (is_busy w k.0 e.job)

pub ready_queues : (keys : List Key) (w : World) (key : Key) → has_key w.ready key ≡ true → has_key (fold queue w keys).ready key ≡ true
ready_queues [] w key has = has
ready_queues (k ∷ keys) w key has = ready_queues keys (queue w k) key (ready_queue w k key has)

-- ---- the relation

-- a namespace with the same evaluations and workers
pub record Still (t u : Tenant) : Type 0 where
  pub grows : Grows t u
  pub rows : u.evaluations ≡ t.evaluations

pub still_none : (t u : Tenant) → u.workers ≡ t.workers → u.evaluations ≡ t.evaluations → u.evaluation_number ≡ t.evaluation_number → Still t u
still_none t u workers evaluations number = record { grows = grows_none t u workers evaluations number; rows = evaluations }

pub still_then : (t u v : Tenant) → Still t u → Still u v → Still t v
still_then t u v a b = record { grows = grows_then t u v a.grows b.grows; rows = b.rows ∙ a.rows }

-- Evaluations and workers are as they were, and no ready evaluation is taken from the list. A pending evaluation was
-- there, or one of its job is ready or with a worker.
pub record Tends (w x : World) : Type 0 where
  pub quiet : Quiet w x
  pub ready : (key : Key) → has_key w.ready key ≡ true → has_key x.ready key ≡ true
  pub pending : (key : Key) (d : Evaluation) → evaluation_at x key ≡ Some d →
      (evaluation_at w key ≡ Some d) ⊎ HasOneUnderWay x key.0 d.job

module _ (w x : World) (h : Tends w x) where
  under_way_on : (ns : Name) (n : ℕ) → IsUnderWay w ns n → IsUnderWay x ns n
  under_way_on ns n (is_ready has) = is_ready (h.ready (ns, n) has)
  under_way_on ns n (is_with_worker number worker at same) =
      let t = worker_in w number ns worker at in
      let u = h.quiet.goes ns t.0 t.1 in
      is_with_worker number worker
      (ap (option_and_then (λ (t : Tenant). get t.workers number)) u.1 ∙ ap (λ m. get m number) u.2.workers ∙ t.2) same

  module _ (q : IsQueued w) where
    pub row_on : (key : Key) (e : Evaluation) → evaluation_at w key ≡ Some e → evaluation_at x key ≡ Some e
    row_on key e at =
        let t = evaluation_in w key e at in
        let u = h.quiet.goes key.0 t.0 t.1 in
        evaluation_is x key u.0 e u.1 (u.2.rows (q.tenant key.0 t.0 t.1).numbered key.1 e t.2)

    pub one_on : (ns job : Name) → HasOneUnderWay w ns job → HasOneUnderWay x ns job
    one_on ns job o = record {
      number = o.number;
      row = o.row;
      is_row = row_on (ns, o.number) o.row o.is_row;
      of_job = o.of_job;
      under_way = under_way_on ns o.number o.under_way;
    }

-- the same, of a world in which evaluations are numbered
abbrev pub Tending : World → World → Type 0
Tending w x = IsQueued w → Tends w x

pub tends_same : (w : World) → Tending w w
tends_same w q = record { quiet = quiet_same w; ready = λ key has. has; pending = λ key d at. inl at }

pub tends_then : (w x y : World) → Tending w x → Tending x y → Tending w y
tends_then w x y f g q = record {
  quiet = quiet_then w x y a.quiet b.quiet;
  ready = λ key has. b.ready key (a.ready key has);
  pending = λ key d at. by key d (b.pending key d at);
}
  where
    a : Tends w x
    a = f q

    b : Tends x y
    b = g (a.quiet.queued q)

    before : (key : Key) (d : Evaluation) → (evaluation_at w key ≡ Some d) ⊎ HasOneUnderWay x key.0 d.job →
        (evaluation_at w key ≡ Some d) ⊎ HasOneUnderWay y key.0 d.job
    before key d (inl at) = inl at
    before key d (inr one) = inr (one_on x y b (a.quiet.queued q) key.0 d.job one)

    by : (key : Key) (d : Evaluation) → (evaluation_at x key ≡ Some d) ⊎ HasOneUnderWay y key.0 d.job →
        (evaluation_at w key ≡ Some d) ⊎ HasOneUnderWay y key.0 d.job
    by key d (inl at) = before key d (a.pending key d at)
    by key d (inr one) = inr one

pub tends_put : (ns : Name) (t u : Tenant) (w : World) → get w.tenants ns ≡ Some t → Still t u → Tending w (put_tenant ns u w)
tends_put ns t u w is s q = record {
  quiet = quiet_put ns t u w is s.grows;
  ready = λ key has. has;
  pending = λ key d at. let v = evaluation_in (put_tenant ns u w) key d at in
      inl (by key d v.0 v.2 (row_of_insert names one_name w.tenants ns u key.0 v.0 v.1));
}
  where
    by : (key : Key) (d : Evaluation) (v : Tenant) → get v.evaluations key.1 ≡ Some d → ((key.0 ≡ ns) × (u ≡ v)) ⊎ (get w.tenants key.0 ≡ Some v) →
        evaluation_at w key ≡ Some d
    by key d v at (inl e) = evaluation_is w key t d (ap (get w.tenants) e.0 ∙ is)
        (ap (λ m. get m key.1) (sym s.rows ∙ ap (λ (t : Tenant). t.evaluations) e.1) ∙ at)
    by key d v at (inr old) = evaluation_is w key v d old at

pub tends_map : (f : Name → Tenant → Tenant) → ((ns : Name) (t : Tenant) → Still t (f ns t)) → (w : World) →
    Tending w (record w { tenants = map_rows f w.tenants })
tends_map f s w q = record {
  quiet = quiet_map f (λ ns t. (s ns t).grows) w;
  ready = λ key has. has;
  pending = λ key d at.
      let v = evaluation_in (record w { tenants = map_rows f w.tenants }) key d at in
      let y = row_of_map names one_name f w.tenants key.0 v.0 v.1 in
      inl (evaluation_is w key y.0 d y.1
      (ap (λ m. get m key.1) (sym (s key.0 y.0).rows ∙ ap (λ (t : Tenant). t.evaluations) y.2) ∙ v.2));
}

-- a new evaluation is ready, or another of its job is ready or with a worker
pub tends_make_in : (ns : Name) (e : Evaluation) (t u : Tenant) (w : World) → get w.tenants ns ≡ Some t → Still t u → Tending w (make_in ns e w u)
tends_make_in ns e t u w is s q = record {
  quiet = quiet_make_in ns e t u w is s.grows;
  ready = λ key has. ready_queue y k key has;
  pending = λ key d at. let v = evaluation_in y key d (sym (queue_keeps (λ x. evaluation_at x key) (λ x keys. refl) y k) ∙ at) in
      by key d v.0 v.2 (row_of_insert names one_name w.tenants ns (with_evaluation e u) key.0 v.0 v.1) at;
}
  where
    y : World
    y = put_tenant ns (with_evaluation e u) w

    k : Key
    k = (ns, u.evaluation_number + 1)

    served : (key : Key) (d : Evaluation) → key ≡ k → evaluation_at (queue y k) key ≡ Some d → HasOneUnderWay (queue y k) key.0 d.job
    served key d same at = which (queued_behind y k d
        (sym (queue_keeps (λ x. evaluation_at x k) (λ x keys. refl) y k) ∙ ap (evaluation_at (queue y k)) (sym same) ∙ at))
      where
        which : (has_key (queue y k).ready k ≡ true) ⊎ (is_busy (queue y k) k.0 d.job ≡ true) → HasOneUnderWay (queue y k) key.0 d.job
        which (inl has) = record {
          number = key.1;
          row = d;
          is_row = at;
          of_job = refl;
          under_way = is_ready (ap (has_key (queue y k).ready) same ∙ has);
        }
        which (inr busy) = busy_one (queue y k) key.0 d.job (ap (λ (k : Key). is_busy (queue y (ns, u.evaluation_number + 1)) k.0 d.job) same ∙ busy)

    by : (key : Key) (d : Evaluation) (v : Tenant) → get v.evaluations key.1 ≡ Some d →
        ((key.0 ≡ ns) × (with_evaluation e u ≡ v)) ⊎ (get w.tenants key.0 ≡ Some v) → evaluation_at (queue y k) key ≡ Some d →
        (evaluation_at w key ≡ Some d) ⊎ HasOneUnderWay (queue y k) key.0 d.job
    by key d v at (inr old) there = inl (evaluation_is w key v d old at)
    by key d v at (inl new) there = row (row_of_insert numbers one_number u.evaluations (u.evaluation_number + 1) e key.1 d
        (ap (λ (t : Tenant). get t.evaluations key.1) new.1 ∙ at))
      where
        row : ((key.1 ≡ u.evaluation_number + 1) × (e ≡ d)) ⊎ (get u.evaluations key.1 ≡ Some d) →
            (evaluation_at w key ≡ Some d) ⊎ HasOneUnderWay (queue y k) key.0 d.job
        row (inl e) = inr (served key d (λ i. (new.0 i, e.0 i)) there)
        row (inr was) = inl (evaluation_is w key t d (ap (get w.tenants) new.0 ∙ is) (ap (λ m. get m key.1) (sym s.rows) ∙ was))

pub tends_pool : (pool : Name) (p : PoolRows) (w : World) → ((q : PoolRows) → get w.pools pool ≡ Some q → q.release ≤ p.release) →
    Tending w (put_pool pool p w)
tends_pool pool p w h q = record { quiet = quiet_pool pool p w h; ready = λ key has. has; pending = λ key d at. inl at }

-- the small changes, from which Carries.antt has the same of what is asked and of what a plan does
pub tends_carries : Carries Tending Still
tends_carries = record {
  none = still_none;
  follows = still_then;
  same = tends_same;
  then = tends_then;
  put = tends_put;
  map = tends_map;
  make_in = tends_make_in;
  pool = tends_pool;
}

-- ---- the next one of a job moves up

pub ready_promote : (ns job : Name) (w : World) (key : Key) → has_key w.ready key ≡ true → has_key (promote ns job w).ready key ≡ true
unfolding promote
ready_promote ns job w key has = or (is_busy w ns job)
  where
    waits : (o : Option ℕ) → has_key (option_map_or (λ n. record w { ready = w.ready ++ (ns, n) ∷ [] }) o w).ready key ≡ true
    waits None = has
    waits (Some n) = longer w.ready ((ns, n) ∷ []) key has

    in_tenant : (o : Option Tenant) →
        has_key (option_map_or (λ t. option_map_or (λ n. record w { ready = w.ready ++ (ns, n) ∷ [] }) (first_waiting job t) w) o w).ready key ≡ true
    in_tenant None = has
    in_tenant (Some t) = waits (first_waiting job t)

    or : (b : Bool) → has_key (cond b w
        (option_map_or (λ t. option_map_or (λ n. record w { ready = w.ready ++ (ns, n) ∷ [] }) (first_waiting job t) w) (get w.tenants ns) w)).ready key ≡ true
    or true = has
    or false = in_tenant (get w.tenants ns)

-- where the job has a pending evaluation, one of it is ready or with a worker then
pub promote_one : (ns job : Name) (w : World) (n : ℕ) (d : Evaluation) → evaluation_at w (ns, n) ≡ Some d → d.job ≡ job → d.status ≡ Status.Pending →
    HasOneUnderWay (promote ns job w) ns job
unfolding promote
promote_one ns job w n d at of_job waits = or (is_busy w ns job) refl
  where
    t : (t : Tenant) × (get w.tenants ns ≡ Some t) × (get t.evaluations n ≡ Some d)
    t = evaluation_in w (ns, n) d at

    first : (o : Option ℕ) → first_waiting job t.0 ≡ o → HasOneUnderWay (option_map_or (λ n. record w { ready = w.ready ++ (ns, n) ∷ [] }) o w) ns job
    first None none = not_both (ap is_pending waits) (none_waits_of_none t.0 job n d none t.2 of_job)
    first (Some m) is = let f = first_waiting_is_least t.0 job m is in record {
      number = m;
      row = f.row;
      is_row = evaluation_is w (ns, m) t.0 f.row t.1 f.there;
      of_job = f.of_job;
      under_way = is_ready (last_one w.ready (ns, m));
    }

    or : (b : Bool) → is_busy w ns job ≡ b → HasOneUnderWay (cond b w
        (option_map_or (λ t. option_map_or (λ n. record w { ready = w.ready ++ (ns, n) ∷ [] }) (first_waiting job t) w) (get w.tenants ns) w)) ns job
    or true busy = busy_one w ns job busy
    or false idle = subst (λ o. HasOneUnderWay
        (option_map_or (λ t. option_map_or (λ n. record w { ready = w.ready ++ (ns, n) ∷ [] }) (first_waiting job t) w) o w) ns job) (sym t.1)
        (first (first_waiting job t.0) refl)

-- ---- outcomes

abbrev pub Tendingly : World → Outcome World → Type 0
Tendingly w = Leads (Tending w)
