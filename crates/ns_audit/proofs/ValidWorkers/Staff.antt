-- What holds of each worker besides what isolation rests on, and that it holds still where the worker,
-- its evaluation and what it looks to stay.
use Rattle.std.specs.Prelude.{◌≡◌, ℕ, ◌≤◌, ◌<◌, true, Option, Some, None, IsTrue, T, is_some, slice_get}
use Rattle.std.proofs.Common.{refl, sym, ap, subst, ◌∙◌}
use Rattle.std.specs.FinMap.{get, contains_key}
use Rattle.ns_types.specs.declared.evaluation.Evaluation.{Evaluation}
use Rattle.ns_types.specs.declared.evaluation.Status.TheVariants as Status
use Rattle.ns_types.specs.declared.job.Job.{Job}
use Rattle.ns_types.specs.declared.snapshot.PoolNode.{PoolNode}
use Rattle.ns_types.specs.declared.snapshot.QuotaSeen.{QuotaSeen}
use Rattle.ns_types.specs.declared.snapshot.Snapshot.{Snapshot}
use Rattle.ns_types.specs.Working.Worker.{Worker}
use Rattle.ns_types.specs.State.Limits.{is_good_document}
use Rattle.ns_types.specs.State.Names.{Name, Key, has_key, same_key}
use Rattle.ns_types.specs.State.Rows.{World, Tenant, PoolRows, QuotaRows}
use Rattle.ns_types.specs.Validity.{IsCountable, IsSound, IsSoundWorker, IsPlanned, keeps, least_tries, is_fit}
use Rattle.ns_types.specs.Working.Work.{workers_end, is_submitted, tries_for}
use Rattle.ns_audit.proofs.ValidWorkers.Once.{is_once, distinct_once}
use Rattle.std.proofs.Math.Nat.{le_refl, le_trans}
use Rattle.ns_types.proofs.Tests.{same_Some}

-- the kept snapshot is of the worker's evaluation as it is, of a pool that is there, and saw no release before it came
pub record IsAbleSnapshot (w : World) (t : Tenant) (worker : Worker) (kept : Snapshot) : Type 0 where
  pub number : kept.number ≡ worker.evaluation
  pub row : get t.evaluations worker.evaluation ≡ Some kept.evaluation
  pub exists : IsTrue (contains_key w.pools kept.pool)
  pub job_good : (j : Job) → kept.job ≡ Some j → IsTrue (is_good_document j.document)
  pub nodes_once : (i j : ℕ) (m n : PoolNode) → slice_get kept.nodes i ≡ Some m → slice_get kept.nodes j ≡ Some n → m.name ≡ n.name → i ≡ j
  pub countable : IsCountable kept
  pub seen : (p : PoolRows) → get w.pools kept.pool ≡ Some p → kept.release ≤ p.release
  pub quota_seen : (q : QuotaSeen) (rows : QuotaRows) → kept.quota ≡ Some q → get w.quotas q.name ≡ Some rows → q.release ≤ rows.release

pub record IsAbleWorker (w : World) (ns : Name) (t : Tenant) (number : ℕ) (worker : Worker) : Type 0 where
  pub below : number < workers_end
  pub snapshot : (kept : Snapshot) → worker.kept ≡ Some kept → IsAbleSnapshot w t worker kept
  pub keeps_one : is_some worker.kept ≡ keeps worker.phase
  pub fit : IsTrue (is_fit worker.phase worker.kept)
  pub least : least_tries worker.phase ≤ worker.tries
  pub most : (e : Evaluation) → get t.evaluations worker.evaluation ≡ Some e → worker.tries ≤ tries_for e.kind
  pub plan_listed : has_key w.plans (ns, worker.evaluation) ≡ is_submitted worker.phase

pub record IsStaffed (w : World) : Type 0 where
  pub worker : (ns : Name) (t : Tenant) (n : ℕ) (worker : Worker) → get w.tenants ns ≡ Some t → get t.workers n ≡ Some worker → IsAbleWorker w ns t n worker
  pub one_each : (ns : Name) (t : Tenant) (m n : ℕ) (v x : Worker) → get w.tenants ns ≡ Some t → get t.workers m ≡ Some v → get t.workers n ≡ Some x →
      v.evaluation ≡ x.evaluation → m ≡ n
  pub one_row : (a b : Name) (s t : Tenant) (n : ℕ) (v x : Worker) → get w.tenants a ≡ Some s → get w.tenants b ≡ Some t → get s.workers n ≡ Some v →
      get t.workers n ≡ Some x → a ≡ b
  pub planned : (key : Key) → has_key w.plans key ≡ true → IsPlanned w key
  pub plans_once : is_once same_key w.plans ≡ true

-- ---- of a valid state

module _ (w : World) (s : IsSound w) where
  pub sound_staffed : IsStaffed w
  sound_staffed = record {
    worker = λ ns t n worker is has. able ns t n worker ((s.tenant ns t is).worker n worker has);
    one_each = λ ns t m n v x is a b e. (s.tenant ns t is).one_each m n v x a b e;
    one_row = λ a b u t n v x a_is b_is a_has b_has. s.one_row a b u t n a_is b_is (ap is_some a_has) (ap is_some b_has);
    planned = s.planned;
    plans_once = distinct_once same_key w.plans s.plans_once;
  }
    where
      able : (ns : Name) (t : Tenant) (n : ℕ) (worker : Worker) → IsSoundWorker w ns t n worker → IsAbleWorker w ns t n worker
      able ns t n worker k = record {
        below = k.below;
        snapshot = λ kept has. let y = k.snapshot kept has in record {
          number = y.number;
          row = y.row;
          exists = y.allowed.exists;
          job_good = y.job_good;
          nodes_once = y.nodes_once;
          countable = y.countable;
          seen = y.seen;
          quota_seen = y.quota_seen;
        };
        keeps_one = k.keeps_one;
        fit = k.fit;
        least = k.least;
        most = λ e at. subst (λ (e : Evaluation). worker.tries ≤ tries_for e.kind) (same_Some _ _ (sym k.is_row ∙ at)) k.most;
        plan_listed = k.plan_listed;
      }

-- ---- where all stays

-- a pool is there still, and has no fewer releases
abbrev pub PoolStill : World → World → Name → Type 0
PoolStill w x name = (p : PoolRows) → get w.pools name ≡ Some p → (q : PoolRows) × (get x.pools name ≡ Some q) × (p.release ≤ q.release)

-- a quota was there, and had no more releases
abbrev pub QuotaStill : World → World → Name → Type 0
QuotaStill w x name = (r : QuotaRows) → get x.quotas name ≡ Some r → (q : QuotaRows) × (get w.quotas name ≡ Some q) × (q.release ≤ r.release)

pub record LooksStill (w x : World) (kept : Snapshot) : Type 0 where
  pub pool : PoolStill w x kept.pool
  pub quota : (q : QuotaSeen) → kept.quota ≡ Some q → QuotaStill w x q.name

-- the same pools and quotas
pub looks_same : (w x : World) → x.pools ≡ w.pools → x.quotas ≡ w.quotas → (kept : Snapshot) → LooksStill w x kept
looks_same w x pools quotas kept = record {
  pool = λ p is. (p, ap (λ m. get m kept.pool) pools ∙ is, le_refl p.release);
  quota = λ q its r is. (r, ap (λ m. get m q.name) (sym quotas) ∙ is, le_refl r.release);
}

-- a worker whose evaluation is the same
pub snapshot_still : (w x : World) (t u : Tenant) (worker : Worker) (kept : Snapshot) → IsAbleSnapshot w t worker kept →
    get u.evaluations worker.evaluation ≡ get t.evaluations worker.evaluation → LooksStill w x kept → IsAbleSnapshot x u worker kept
snapshot_still w x t u worker kept y row looks = record {
  number = y.number;
  row = row ∙ y.row;
  exists = by (get w.pools kept.pool) refl y.exists;
  job_good = y.job_good;
  nodes_once = y.nodes_once;
  countable = y.countable;
  seen = λ q q_is. by_pool (get w.pools kept.pool) refl y.exists q q_is;
  quota_seen = λ q r has r_is. let o = looks.quota q has r r_is in le_trans (y.quota_seen q o.0 has o.1) o.2;
}
  where
    by : (o : Option PoolRows) → get w.pools kept.pool ≡ o → is_some (get w.pools kept.pool) ≡ true → is_some (get x.pools kept.pool) ≡ true
    by None is e = absurd (subst T (sym e ∙ ap is_some is) tt)
    by (Some p) is e = ap is_some (looks.pool p is).1

    by_pool : (o : Option PoolRows) → get w.pools kept.pool ≡ o → is_some (get w.pools kept.pool) ≡ true → (q : PoolRows) → get x.pools kept.pool ≡ Some q →
        kept.release ≤ q.release
    by_pool None is e q q_is = absurd (subst T (sym e ∙ ap is_some is) tt)
    by_pool (Some p) is e q q_is =
        let r = looks.pool p is in
        le_trans (y.seen p is) (subst (λ (q : PoolRows). p.release ≤ q.release) (same_Some _ _ (sym r.1 ∙ q_is)) r.2)

pub worker_still : (w x : World) (ns : Name) (t u : Tenant) (n : ℕ) (worker : Worker) → IsAbleWorker w ns t n worker →
    get u.evaluations worker.evaluation ≡ get t.evaluations worker.evaluation
    → has_key x.plans (ns, worker.evaluation) ≡ has_key w.plans (ns, worker.evaluation) → ((kept : Snapshot) → worker.kept ≡ Some kept → LooksStill w x kept) →
    IsAbleWorker x ns u n worker
worker_still w x ns t u n worker k row plans looks = record {
  below = k.below;
  snapshot = λ kept has. snapshot_still w x t u worker kept (k.snapshot kept has) row (looks kept has);
  keeps_one = k.keeps_one;
  fit = k.fit;
  least = k.least;
  most = λ e at. k.most e (sym row ∙ at);
  plan_listed = plans ∙ k.plan_listed;
}

-- a worker of the later world is one of the earlier
pub record CameFrom (w : World) (k : Name) (u : Tenant) (n : ℕ) (worker : Worker) : Type 0 where
  pub tenant : Tenant
  pub is_tenant : get w.tenants k ≡ Some tenant
  pub is_worker : get tenant.workers n ≡ Some worker
  pub row : get u.evaluations worker.evaluation ≡ get tenant.evaluations worker.evaluation

pub record Stays (w x : World) : Type 0 where
  pub came : (k : Name) (u : Tenant) (n : ℕ) (worker : Worker) → get x.tenants k ≡ Some u → get u.workers n ≡ Some worker → CameFrom w k u n worker
  pub goes : (k : Name) (t : Tenant) (n : ℕ) (worker : Worker) → get w.tenants k ≡ Some t → get t.workers n ≡ Some worker → (u : Tenant) ×
      (get x.tenants k ≡ Some u) × (get u.workers n ≡ Some worker)
  pub plans : x.plans ≡ w.plans
  pub looks : (k : Name) (t : Tenant) (n : ℕ) (worker : Worker) (kept : Snapshot) → get w.tenants k ≡ Some t → get t.workers n ≡ Some worker →
      worker.kept ≡ Some kept → LooksStill w x kept

pub staffed_stays : (w x : World) → Stays w x → IsStaffed w → IsStaffed x
staffed_stays w x h s = record {
  worker = λ k u n worker is has. let c = h.came k u n worker is has in
      worker_still w x k c.tenant u n worker (s.worker k c.tenant n worker c.is_tenant c.is_worker) c.row
      (ap (λ keys. has_key keys (k, worker.evaluation)) h.plans)
      (λ kept keeps. h.looks k c.tenant n worker kept c.is_tenant c.is_worker keeps);
  one_each = λ k u m n v y is a b same.
      let c = h.came k u m v is a in
      let d = h.came k u n y is b in
      s.one_each k c.tenant m n v y c.is_tenant c.is_worker (ap (λ (t : Tenant). get t.workers n) (same_Some _ _ (sym c.is_tenant ∙ d.is_tenant)) ∙ d.is_worker)
      same;
  one_row = λ a b u t n v y a_is b_is a_has b_has.
      let c = h.came a u n v a_is a_has in
      let d = h.came b t n y b_is b_has in
      s.one_row a b c.tenant d.tenant n v y c.is_tenant d.is_tenant c.is_worker d.is_worker;
  planned = λ key has.
      let p = s.planned key (ap (λ keys. has_key keys key) (sym h.plans) ∙ has) in
      let g = h.goes key.0 p.tenant p.number p.worker p.is_tenant p.is_worker in record {
        tenant = g.0;
        number = p.number;
        worker = p.worker;
        is_tenant = g.1;
        is_worker = g.2;
        same = p.same;
      };
  plans_once = ap (is_once same_key) h.plans ∙ s.plans_once;
}

-- ---- evaluations that workers have

-- each was there before, and pending
pub record IsHeldAt (w : World) (k : Name) (u : Tenant) (n : ℕ) : Type 0 where
  pub tenant : Tenant
  pub is_tenant : get w.tenants k ≡ Some tenant
  pub row : Evaluation
  pub was_row : get tenant.evaluations n ≡ Some row
  pub is_row : get u.evaluations n ≡ Some row
  pub is_pending : row.status ≡ Status.Pending

abbrev pub IsHeldFrom : World → World → Type 0
IsHeldFrom w x = (k : Name) (u : Tenant) (n : ℕ) (worker : Worker) → get x.tenants k ≡ Some u → get u.workers n ≡ Some worker → IsHeldAt w k u worker.evaluation
