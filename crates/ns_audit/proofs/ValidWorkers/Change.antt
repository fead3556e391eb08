-- One worker comes, changes or goes: the others are as they were.
use Rattle.std.specs.Prelude.{◌≡◌, ◌≢◌, ℕ, Bool, true, false, cond, Some, None, ◌&&◌}
use Rattle.std.proofs.Common.{◌⊎◌, inl, inr, refl, sym, ap, subst, ◌∙◌}
use Rattle.std.specs.Cmp.{IsTotalOrder, tied_itself}
use Rattle.std.specs.declared.cmp.Ordering.{Ordering}
use Rattle.std.specs.FinMap.{FinMap, IsAntisymmetric, get, get-insert, get-remove, insert, remove}
use Rattle.std.specs.Option.{option_map_or}
use Rattle.std.specs.Ordering.{eq_by_cmp, is_eq, nat_cmp}
use Rattle.ns_types.specs.declared.evaluation.Evaluation.{Evaluation}
use Rattle.ns_types.specs.declared.snapshot.Snapshot.{Snapshot}
use Rattle.ns_types.specs.Working.Worker.{Worker}
use Rattle.ns_types.specs.State.Names.{Name, Key, ByNumber, same_name, same_key, has_key}
use Rattle.ns_types.specs.Settling.Outcome.{Outcome, NotEnabled}
use Rattle.ns_types.specs.State.Rows.{World, Tenant}
use Rattle.ns_types.specs.Validity.{IsPlanned}
use Rattle.ns_types.specs.Working.Work.{at_work}
use Rattle.ns_types.proofs.Lists.{not_both}
use Rattle.ns_types.proofs.Named.{names, one_name, numbers as numbers_, one_number, same_name_is, same_name_refl, same_number_refl, same_key_is}
use Rattle.ns_types.proofs.Tables.{tied}
use Rattle.ns_types.proofs.Tests.{same_Some}
use Rattle.ns_types.proofs.Leads.{leads_there}
use Rattle.ns_audit.proofs.ValidWorkers.Admins.{IsWell, KeepsStaff}
use Rattle.ns_audit.proofs.ValidWorkers.Busy.{IsQueued}
use Rattle.ns_audit.proofs.ValidWorkers.Once.{is_once}
use Rattle.ns_audit.proofs.ValidWorkers.Staff.{IsAbleWorker, IsStaffed, looks_same, worker_still, IsHeldAt, IsHeldFrom}

-- ---- rows

-- a row after an insertion is the new one, or an old one elsewhere
pub row_apart : {K X : Type 0} {R : K → K → Ordering} (o : IsTotalOrder R) (same : IsAntisymmetric R) (m : FinMap R X) (k : K) (v : X) (q : K) (x : X) →
    get (insert m k v) q ≡ Some x
    → ((q ≡ k) × (v ≡ x)) ⊎ ((get m q ≡ Some x) × (q ≢ k))
row_apart {X = X} {R = R} o same m k v q x e = by (eq_by_cmp R q k) refl (sym (get-insert o m k v q) ∙ e)
  where
    by : (b : Bool) → eq_by_cmp R q k ≡ b → cond b (Some v) (get m q) ≡ Some x → ((q ≡ k) × (v ≡ x)) ⊎ ((get m q ≡ Some x) × (q ≢ k))
    by true t e = inl (tied same q k t, same_Some v x e)
    by false t e = inr (e, λ is. not_both (ap (λ j. eq_by_cmp R j k) is ∙ ap is_eq (tied_itself o k)) t)

pub left_row : {X : Type 0} (m : ByNumber X) (k q : ℕ) (x : X) → q ≢ k → get m q ≡ Some x → get (remove m k) q ≡ Some x
left_row {X = X} m k q x differs is = get-remove numbers_ m k q ∙ by (eq_by_cmp nat_cmp q k) refl
  where
    by : (b : Bool) → eq_by_cmp nat_cmp q k ≡ b → cond b None (get m q) ≡ Some x
    by true t = absurd (differs (tied one_number q k t))
    by false t = is

-- ---- one worker

-- the worker at hand, as it is afterwards
pub record IsMine (w x : World) (ns : Name) (number n : ℕ) (u : Tenant) (m : ℕ) (v : Worker) : Type 0 where
  pub its_number : m ≡ number
  pub its_evaluation : v.evaluation ≡ n
  pub able : IsAbleWorker x ns u m v
  pub held : IsHeldAt w ns u v.evaluation

-- from b to x, a namespace goes from t to u, and of its workers the one of that number alone, with evaluation n, is changed
pub record Reworks (w b x : World) (ns : Name) (number n : ℕ) (t u : Tenant) : Type 0 where
  pub is_tenant : get b.tenants ns ≡ Some t
  pub put : x.tenants ≡ insert b.tenants ns u
  pub pools : x.pools ≡ b.pools
  pub quotas : x.quotas ≡ b.quotas
  -- who had the number, had the evaluation
  pub was : (k : Name) (s : Tenant) (v : Worker) → get b.tenants k ≡ Some s → get s.workers number ≡ Some v → (k ≡ ns) × (v.evaluation ≡ n)
  -- no other has it
  pub free : (m : ℕ) (v : Worker) → get t.workers m ≡ Some v → m ≢ number → v.evaluation ≢ n
  pub on : (m : ℕ) (v : Worker) → get t.workers m ≡ Some v → m ≢ number → get u.workers m ≡ Some v
  pub back : (m : ℕ) (v : Worker) → get u.workers m ≡ Some v → IsMine w x ns number n u m v ⊎ ((get t.workers m ≡ Some v) × (m ≢ number))
  pub rows : (m : ℕ) (v : Worker) → get t.workers m ≡ Some v → m ≢ number → get u.evaluations v.evaluation ≡ get t.evaluations v.evaluation
  pub other_plans : (key : Key) → same_key key (ns, n) ≡ false → has_key x.plans key ≡ has_key b.plans key
  pub plans_once : is_once same_key x.plans ≡ true
  pub planned : has_key x.plans (ns, n) ≡ true → IsPlanned x (ns, n)

-- another worker, as it was
record IsOther (b : World) (number : ℕ) (k : Name) (u : Tenant) (m : ℕ) (v : Worker) : Type 0 where
  tenant : Tenant
  is_tenant : get b.tenants k ≡ Some tenant
  is_worker : get tenant.workers m ≡ Some v
  differs : m ≢ number
  row : get u.evaluations v.evaluation ≡ get tenant.evaluations v.evaluation

module _ (w b x : World) (ns : Name) (number n : ℕ) (t u : Tenant) (s : IsStaffed b) (h : IsHeldFrom w b) (r : Reworks w b x ns number n t u) where
  came_at : (k : Name) (y : Tenant) (m : ℕ) (v : Worker) → ((k ≡ ns) × (u ≡ y)) ⊎ ((get b.tenants k ≡ Some y) × (k ≢ ns)) → get y.workers m ≡ Some v →
      ((k ≡ ns) × IsMine w x k number n y m v) ⊎ IsOther b number k y m v
  came_at k y m v (inr at) has = inr (record {
    tenant = y;
    is_tenant = at.0;
    is_worker = has;
    differs = λ same. at.1 (r.was k y v at.0 (ap (get y.workers) (sym same) ∙ has)).0;
    row = refl;
  })
  came_at k y m v (inl e) has = subst (λ k. ((k ≡ ns) × IsMine w x k number n y m v) ⊎ IsOther b number k y m v) (sym e.0)
      (subst (λ y. ((ns ≡ ns) × IsMine w x ns number n y m v) ⊎ IsOther b number ns y m v) e.1
      (by (r.back m v (ap (λ (t : Tenant). get t.workers m) e.1 ∙ has))))
    where
      by : IsMine w x ns number n u m v ⊎ ((get t.workers m ≡ Some v) × (m ≢ number)) → ((ns ≡ ns) × IsMine w x ns number n u m v) ⊎ IsOther b number ns u m v
      by (inl mine) = inl (refl, mine)
      by (inr other) = inr (record { tenant = t; is_tenant = r.is_tenant; is_worker = other.0; differs = other.1; row = r.rows m v other.0 other.1 })

  came : (k : Name) (y : Tenant) (m : ℕ) (v : Worker) → get x.tenants k ≡ Some y → get y.workers m ≡ Some v → ((k ≡ ns) × IsMine w x k number n y m v)
      ⊎ IsOther b number k y m v
  came k y m v is has = came_at k y m v (row_apart names one_name b.tenants ns u k y (ap (λ m. get m k) (sym r.put) ∙ is)) has

  goes : (k : Name) (y : Tenant) (m : ℕ) (v : Worker) → get b.tenants k ≡ Some y → get y.workers m ≡ Some v → m ≢ number → (z : Tenant) ×
      (get x.tenants k ≡ Some z) × (get z.workers m ≡ Some v)
  goes k y m v is has differs = by (same_name k ns) refl
    where
      at : (b : Bool) → same_name k ns ≡ b → get x.tenants k ≡ cond b (Some u) (Some y)
      at c e = ap (λ m. get m k) r.put ∙ get-insert names b.tenants ns u k ∙ (λ i. cond (e i) (Some u) (is i))

      by : (c : Bool) → same_name k ns ≡ c → (z : Tenant) × (get x.tenants k ≡ Some z) × (get z.workers m ≡ Some v)
      by true e = (
        u,
        at true e,
        r.on m v (ap (λ (t : Tenant). get t.workers m)
            (same_Some _ _ (sym r.is_tenant ∙ ap (get b.tenants) (sym (same_name_is k ns e)) ∙ is)) ∙ has) differs,
      )
      by false e = (y, at false e, has)

  -- its evaluation is not the one at hand
  apart : (k : Name) (y : Tenant) (m : ℕ) (v : Worker) → IsOther b number k y m v → same_key (k, v.evaluation) (ns, n) ≡ false
  apart k y m v o = by (same_key (k, v.evaluation) (ns, n)) refl
    where
      by : (c : Bool) → same_key (k, v.evaluation) (ns, n) ≡ c → c ≡ false
      by true e = let p = same_key_is (k, v.evaluation) (ns, n) e in
          absurd (r.free m v (ap (λ (t : Tenant). get t.workers m) (same_Some _ _ (sym r.is_tenant ∙ ap (get b.tenants) (sym p.0) ∙ o.is_tenant)) ∙ o.is_worker)
          o.differs p.1)
      by false _ = refl

  able_at : (k : Name) (y : Tenant) (m : ℕ) (v : Worker) → ((k ≡ ns) × IsMine w x k number n y m v) ⊎ IsOther b number k y m v → IsAbleWorker x k y m v
  able_at k y m v (inl mine) = mine.1.able
  able_at k y m v (inr o) = worker_still b x k o.tenant y m v (s.worker k o.tenant m v o.is_tenant o.is_worker) o.row
      (r.other_plans (k, v.evaluation) (apart k y m v o)) (λ kept keeps. looks_same b x r.pools r.quotas kept)

  held_at : (k : Name) (y : Tenant) (m : ℕ) (v : Worker) → ((k ≡ ns) × IsMine w x k number n y m v) ⊎ IsOther b number k y m v → IsHeldAt w k y v.evaluation
  held_at k y m v (inl mine) = mine.1.held
  held_at k y m v (inr o) = let d = h k o.tenant m v o.is_tenant o.is_worker in record {
    tenant = d.tenant;
    is_tenant = d.is_tenant;
    row = d.row;
    was_row = d.was_row;
    is_row = o.row ∙ d.is_row;
    is_pending = d.is_pending;
  }

  each_at : (k : Name) (y : Tenant) (l m : ℕ) (v z : Worker) → ((k ≡ ns) × IsMine w x k number n y l v) ⊎ IsOther b number k y l v →
      ((k ≡ ns) × IsMine w x k number n y m z) ⊎ IsOther b number k y m z → v.evaluation ≡ z.evaluation → l ≡ m
  each_at k y l m v z (inl a) (inl c) e = a.1.its_number ∙ sym c.1.its_number
  each_at k y l m v z (inl a) (inr o) e = absurd (meets k y m z o a.0 (sym e ∙ a.1.its_evaluation))
    where
      meets : (k : Name) (y : Tenant) (m : ℕ) (v : Worker) → IsOther b number k y m v → k ≡ ns → v.evaluation ≡ n → ⊥
      meets k y m v o at same = r.free m v (ap (λ (t : Tenant). get t.workers m) (same_Some _ _ (sym r.is_tenant ∙ ap (get b.tenants) (sym at) ∙ o.is_tenant)) ∙
          o.is_worker) o.differs same
  each_at k y l m v z (inr o) (inl c) e =
      absurd (r.free l v (ap (λ (t : Tenant). get t.workers l) (same_Some _ _ (sym r.is_tenant ∙ ap (get b.tenants) (sym c.0) ∙ o.is_tenant)) ∙ o.is_worker)
      o.differs (e ∙ c.1.its_evaluation))
  each_at k y l m v z (inr o) (inr p) e =
      s.one_each k o.tenant l m v z o.is_tenant o.is_worker (ap (λ (t : Tenant). get t.workers m) (same_Some _ _ (sym o.is_tenant ∙ p.is_tenant)) ∙ p.is_worker)
      e

  row_at : (a c : Name) (y z : Tenant) (m : ℕ) (v q : Worker) → ((a ≡ ns) × IsMine w x a number n y m v) ⊎ IsOther b number a y m v →
      ((c ≡ ns) × IsMine w x c number n z m q) ⊎ IsOther b number c z m q → a ≡ c
  row_at a c y z m v q (inl i) (inl j) = i.0 ∙ sym j.0
  row_at a c y z m v q (inl i) (inr o) = absurd (o.differs i.1.its_number)
  row_at a c y z m v q (inr o) (inl j) = absurd (o.differs j.1.its_number)
  row_at a c y z m v q (inr o) (inr p) = s.one_row a c o.tenant p.tenant m v q o.is_tenant p.is_tenant o.is_worker p.is_worker

  planned_at : (key : Key) → has_key x.plans key ≡ true → (c : Bool) → same_key key (ns, n) ≡ c → IsPlanned x key
  planned_at key has true e = let p = same_key_is key (ns, n) e in
      subst (IsPlanned x) (λ i. (sym p.0 i, sym p.1 i)) (r.planned (subst (λ k. has_key x.plans k ≡ true) (λ i. (p.0 i, p.1 i)) has))
  planned_at key has false e =
      let p = s.planned key (sym (r.other_plans key e) ∙ has) in
      let g = goes key.0 p.tenant p.number p.worker p.is_tenant p.is_worker (λ same.
      let o = r.was key.0 p.tenant p.worker p.is_tenant (ap (get p.tenant.workers) (sym same) ∙ p.is_worker) in
      not_both (λ i. (ap (λ k. same_name k ns) o.0 ∙ same_name_refl ns) i && (ap (λ m. eq_by_cmp nat_cmp m n) (sym p.same ∙ o.1) ∙ same_number_refl n) i) e) in
      record {
        tenant = g.0;
        number = p.number;
        worker = p.worker;
        is_tenant = g.1;
        is_worker = g.2;
        same = p.same;
      }

  pub reworked : IsQueued x → IsWell w x
  reworked q = record {
    staffed = record {
      worker = λ k y m v is has. able_at k y m v (came k y m v is has);
      one_each = λ k y l m v z is a c e. each_at k y l m v z (came k y l v is a) (came k y m z is c) e;
      one_row = λ a c y z m v q a_is c_is a_has c_has. row_at a c y z m v q (came a y m v a_is a_has) (came c z m q c_is c_has);
      planned = λ key has. planned_at key has (same_key key (ns, n)) refl;
      plans_once = r.plans_once;
    };
    queued = q;
    held = λ k y m v is has. held_at k y m v (came k y m v is has);
  }

-- ---- who has a number

-- where the number is a worker's
module _ (b : World) (s : IsStaffed b) (ns : Name) (number : ℕ) (t : Tenant) (worker : Worker) (is : get b.tenants ns ≡ Some t)
    (has : get t.workers number ≡ Some worker) where
  pub was_here : (k : Name) (y : Tenant) (v : Worker) → get b.tenants k ≡ Some y → get y.workers number ≡ Some v → (k ≡ ns) × (v.evaluation ≡ worker.evaluation)
  was_here k y v k_is v_has =
      let same = s.one_row k ns y t number v worker k_is is v_has has in (
        same,
        ap (λ (v : Worker). v.evaluation) (same_Some _ _
            (sym v_has ∙ ap (λ (t : Tenant). get t.workers number) (same_Some _ _ (sym k_is ∙ ap (get b.tenants) same ∙ is)) ∙ has)),
      )

  pub free_here : (m : ℕ) (v : Worker) → get t.workers m ≡ Some v → m ≢ number → v.evaluation ≢ worker.evaluation
  free_here m v at differs same = differs (s.one_each ns t m number v worker is at has same)

-- ---- outcomes

pub working_staff : (w : World) (number : ℕ) (ns : Name) (act : Tenant → Worker → Evaluation → Outcome World)
    → ((t : Tenant) (worker : Worker) (e : Evaluation) → get w.tenants ns ≡ Some t → get t.workers number ≡ Some worker →
    get t.evaluations worker.evaluation ≡ Some e → KeepsStaff w (act t worker e)) → KeepsStaff w (at_work number ns w act)
working_staff w number ns act h = leads_there (IsWell w) (get w.tenants ns) _
    (λ t is. leads_there (IsWell w) (get t.workers number) _
    (λ worker at. leads_there (IsWell w) (get t.evaluations worker.evaluation) (act t worker) (λ e row. h t worker e is at row)))

pub keeping_staff : (w : World) (number : ℕ) (ns : Name) (act : Tenant → Worker → Evaluation → Snapshot → Outcome World)
    → ((t : Tenant) (worker : Worker) (e : Evaluation) (kept : Snapshot) → get w.tenants ns ≡ Some t → get t.workers number ≡ Some worker →
    get t.evaluations worker.evaluation ≡ Some e → worker.kept ≡ Some kept → KeepsStaff w (act t worker e kept))
    → KeepsStaff w (at_work number ns w (λ t worker e. option_map_or (act t worker e) worker.kept NotEnabled))
keeping_staff w number ns act h = working_staff w number ns (λ t worker e. option_map_or (act t worker e) worker.kept NotEnabled)
    (λ t worker e is at row. leads_there (IsWell w) worker.kept (act t worker e) (λ kept has. h t worker e kept is at row has))
