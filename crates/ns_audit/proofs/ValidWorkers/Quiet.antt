-- Changes that leave workers and their evaluations alone.
use Rattle.std.specs.Prelude.{◌≡◌, ℕ, ◌+◌, ◌≤◌, Bool, true, false, cond, List, [], ◌∷◌, ◌++◌, Option, Some, None, option_map}
use Rattle.std.proofs.Common.{◌⊎◌, inl, inr, refl, sym, ap, subst, ◌∙◌}
use Rattle.std.specs.FinMap.{get, get-insert, insert}
use Rattle.std.specs.Option.{option_map_or}
use Rattle.ns_types.specs.declared.evaluation.Evaluation.{Evaluation}
use Rattle.ns_types.specs.Settling.Making.{put_tenant, put_pool, with_evaluation, make_in}
use Rattle.ns_types.specs.State.Names.{Name, Key, same_name}
use Rattle.ns_types.specs.Settling.Outcome.{Outcome}
use Rattle.ns_types.specs.Working.Queue.{is_busy, queue}
use Rattle.ns_types.specs.State.Rows.{World, Tenant, PoolRows, evaluation_at}
use Rattle.ns_types.specs.State.Tables.{map_rows}
use Rattle.ns_types.proofs.Named.{names, one_name, numbers as numbers_, one_number, same_name_is}
use Rattle.ns_types.proofs.Tables.{get-map_rows}
use Rattle.ns_types.proofs.Tests.{same_Some}
use Rattle.ns_types.proofs.TableRows.{row_of_insert}
use Rattle.ns_audit.specs.Orderly.{IsOrderly}
use Rattle.ns_audit.proofs.Steady.Keeping.{row_of_map, elsewhere, above, more}
use Rattle.ns_types.proofs.Leads.{Leads}
use Rattle.ns_audit.proofs.Carries.{Carries}
use Rattle.ns_audit.proofs.ValidWorkers.Busy.{IsBusyIn, IsNumbered, IsQueuedIn, IsQueued, queued_in, queue_queued}
use Rattle.ns_audit.proofs.ValidWorkers.Staff.{PoolStill, Stays, IsHeldFrom}
use Rattle.std.proofs.Math.Nat.{le_refl, le_trans}

-- ---- one namespace

-- the same workers, and each evaluation as it was
pub record Grows (t u : Tenant) : Type 0 where
  pub workers : u.workers ≡ t.workers
  pub numbered : IsNumbered t → IsNumbered u
  pub rows : IsNumbered t → (n : ℕ) (e : Evaluation) → get t.evaluations n ≡ Some e → get u.evaluations n ≡ Some e

pub grows_none : (t u : Tenant) → u.workers ≡ t.workers → u.evaluations ≡ t.evaluations → u.evaluation_number ≡ t.evaluation_number → Grows t u
grows_none t u workers evaluations number = record {
  workers = workers;
  numbered = λ numbered n e at. subst (λ m. n ≤ m) (sym number) (numbered n e (ap (λ m. get m n) (sym evaluations) ∙ at));
  rows = λ _ n e at. ap (λ m. get m n) evaluations ∙ at;
}

pub grows_then : (t u v : Tenant) → Grows t u → Grows u v → Grows t v
grows_then t u v a b = record {
  workers = b.workers ∙ a.workers;
  numbered = λ n. b.numbered (a.numbered n);
  rows = λ numbered n e at. b.rows (a.numbered numbered) n e (a.rows numbered n e at);
}

pub grows_with_evaluation : (e : Evaluation) (t : Tenant) → Grows t (with_evaluation e t)
grows_with_evaluation e t = record {
  workers = refl;
  numbered = λ numbered n x at. by numbered n x (row_of_insert numbers_ one_number t.evaluations (t.evaluation_number + 1) e n x at);
  rows = λ numbered n x at. elsewhere t.evaluations (t.evaluation_number + 1) n e x (λ same. above n t.evaluation_number (numbered n x at) same) at;
}
  where
    by : IsNumbered t → (n : ℕ) (x : Evaluation) → ((n ≡ t.evaluation_number + 1) × (e ≡ x)) ⊎ (get t.evaluations n ≡ Some x) → n ≤ t.evaluation_number + 1
    by numbered n x (inl is) = subst (λ m. n ≤ m) is.0 (le_refl n)
    by numbered n x (inr at) = more n t.evaluation_number (numbered n x at)

queued_grows : (ready : List Key) (ns : Name) (t u : Tenant) → Grows t u → IsQueuedIn ready ns t → IsQueuedIn ready ns u
queued_grows ready ns t u g q = queued_in ready ready ns t u q (g.numbered q.numbered) (λ n b. subst (λ workers. IsBusyIn ready ns workers n) g.workers b)
    (λ n e at. (e, g.rows q.numbered n e at, refl))

-- ---- worlds

pub record Quiet (w x : World) : Type 0 where
  pub goes : (k : Name) (t : Tenant) → get w.tenants k ≡ Some t → (u : Tenant) × (get x.tenants k ≡ Some u) × Grows t u
  pub came : (k : Name) (u : Tenant) → get x.tenants k ≡ Some u → (t : Tenant) × (get w.tenants k ≡ Some t) × Grows t u
  pub plans : x.plans ≡ w.plans
  pub pools : (name : Name) → PoolStill w x name
  pub quotas : x.quotas ≡ w.quotas
  pub queued : IsQueued w → IsQueued x

same_grows : (t : Tenant) → Grows t t
same_grows t = grows_none t t refl refl refl

pub quiet_same : (w : World) → Quiet w w
quiet_same w = record {
  goes = λ k t is. (t, is, same_grows t);
  came = λ k u is. (u, is, same_grows u);
  plans = refl;
  pools = λ name p is. (p, is, le_refl p.release);
  quotas = refl;
  queued = λ q. q;
}

pub quiet_then : (w x y : World) → Quiet w x → Quiet x y → Quiet w y
quiet_then w x y a b = record {
  goes = λ k t is. let u = a.goes k t is in let v = b.goes k u.0 u.1 in (v.0, v.1, grows_then t u.0 v.0 u.2 v.2);
  came = λ k v is. let u = b.came k v is in let t = a.came k u.0 u.1 in (t.0, t.1, grows_then t.0 u.0 v t.2 u.2);
  plans = b.plans ∙ a.plans;
  pools = λ name p is. let q = a.pools name p is in let r = b.pools name q.0 q.1 in (r.0, r.1, le_trans q.2 r.2);
  quotas = b.quotas ∙ a.quotas;
  queued = λ q. b.queued (a.queued q);
}

-- one namespace grows
pub quiet_put : (ns : Name) (t u : Tenant) (w : World) → get w.tenants ns ≡ Some t → Grows t u → Quiet w (put_tenant ns u w)
quiet_put ns t u w is g = record {
  goes = λ k s s_is. to k s s_is (same_name k ns) refl;
  came = λ k v v_is. from k v (row_of_insert names one_name w.tenants ns u k v v_is);
  plans = refl;
  pools = λ name p p_is. (p, p_is, le_refl p.release);
  quotas = refl;
  queued = λ q. record { tenant = λ k v v_is. queued q k v (row_of_insert names one_name w.tenants ns u k v v_is); once = q.once };
}
  where
    at_k : (k : Name) (b : Bool) → same_name k ns ≡ b → get (insert w.tenants ns u) k ≡ cond b (Some u) (get w.tenants k)
    at_k k b e = get-insert names w.tenants ns u k ∙ ap (λ b. cond b (Some u) (get w.tenants k)) e

    to : (k : Name) (s : Tenant) → get w.tenants k ≡ Some s → (b : Bool) → same_name k ns ≡ b → (v : Tenant) × (get (insert w.tenants ns u) k ≡ Some v) ×
        Grows s v
    to k s s_is true e = (u, at_k k true e, subst (λ s. Grows s u) (same_Some _ _ (sym is ∙ ap (get w.tenants) (sym (same_name_is k ns e)) ∙ s_is)) g)
    to k s s_is false e = (s, at_k k false e ∙ s_is, same_grows s)

    from : (k : Name) (v : Tenant) → ((k ≡ ns) × (u ≡ v)) ⊎ (get w.tenants k ≡ Some v) → (s : Tenant) × (get w.tenants k ≡ Some s) × Grows s v
    from k v (inl e) = (t, ap (get w.tenants) e.0 ∙ is, subst (λ v. Grows t v) e.1 g)
    from k v (inr at) = (v, at, same_grows v)

    queued : IsQueued w → (k : Name) (v : Tenant) → ((k ≡ ns) × (u ≡ v)) ⊎ (get w.tenants k ≡ Some v) → IsQueuedIn w.ready k v
    queued q k v (inl e) = subst (λ v. IsQueuedIn w.ready k v) e.1
        (subst (λ k. IsQueuedIn w.ready k u) (sym e.0) (queued_grows w.ready ns t u g (q.tenant ns t is)))
    queued q k v (inr at) = q.tenant k v at

-- every namespace grows
pub quiet_map : (f : Name → Tenant → Tenant) → ((ns : Name) (t : Tenant) → Grows t (f ns t)) → (w : World) →
    Quiet w (record w { tenants = map_rows f w.tenants })
quiet_map f g w = record {
  goes = λ k t is. (f k t, get-map_rows names one_name f w.tenants k ∙ ap (option_map (f k)) is, g k t);
  came = λ k u is. let y = row_of_map names one_name f w.tenants k u is in (y.0, y.1, subst (λ u. Grows y.0 u) y.2 (g k y.0));
  plans = refl;
  pools = λ name p is. (p, is, le_refl p.release);
  quotas = refl;
  queued = λ q. record {
    tenant = λ k u is. let y = row_of_map names one_name f w.tenants k u is in
        subst (λ u. IsQueuedIn w.ready k u) y.2 (queued_grows w.ready k y.0 (f k y.0) (g k y.0) (q.tenant k y.0 y.1));
    once = q.once;
  };
}

quiet_queue : (w : World) (key : Key) → Quiet w (queue w key)
unfolding queue
quiet_queue w key = by (evaluation_at w key) refl
  where
    longer : (IsQueued w → IsQueued (record w { ready = w.ready ++ key ∷ [] })) → Quiet w (record w { ready = w.ready ++ key ∷ [] })
    longer h = record {
      goes = λ k t is. (t, is, same_grows t);
      came = λ k u is. (u, is, same_grows u);
      plans = refl;
      pools = λ name p is. (p, is, le_refl p.release);
      quotas = refl;
      queued = h;
    }

    busy : (e : Evaluation) → evaluation_at w key ≡ Some e → (b : Bool) → is_busy w key.0 e.job ≡ b →
        (IsQueued w → IsQueued (cond b w (record w { ready = w.ready ++ key ∷ [] }))) → Quiet w (cond b w (record w { ready = w.ready ++ key ∷ [] }))
    busy e is true _ h = quiet_same w
    busy e is false _ h = longer h

    by : (o : Option Evaluation) → evaluation_at w key ≡ o →
        Quiet w (option_map_or (λ e. cond (is_busy w key.0 e.job) w (record w { ready = w.ready ++ key ∷ [] })) o w)
    by None is = quiet_same w
    by (Some e) is = busy e is (is_busy w key.0 e.job) refl
        (λ q. subst (λ o. IsQueued (option_map_or (λ e. cond (is_busy w key.0 e.job) w (record w { ready = w.ready ++ key ∷ [] })) o w)) is
        (queue_queued w key q))

pub quiet_make_in : (ns : Name) (e : Evaluation) (t u : Tenant) (w : World) → get w.tenants ns ≡ Some t → Grows t u → Quiet w (make_in ns e w u)
quiet_make_in ns e t u w is g = quiet_then w (put_tenant ns (with_evaluation e u) w) (make_in ns e w u)
    (quiet_put ns t (with_evaluation e u) w is (grows_then t u (with_evaluation e u) g (grows_with_evaluation e u)))
    (quiet_queue (put_tenant ns (with_evaluation e u) w) (ns, u.evaluation_number + 1))

-- a pool is put anew, with no fewer releases
pub quiet_pool : (pool : Name) (p : PoolRows) (w : World) → ((q : PoolRows) → get w.pools pool ≡ Some q → q.release ≤ p.release) → Quiet w (put_pool pool p w)
quiet_pool pool p w h = record {
  goes = λ k t is. (t, is, same_grows t);
  came = λ k u is. (u, is, same_grows u);
  plans = refl;
  pools = λ name q is. by name q is (same_name name pool) refl;
  quotas = refl;
  queued = λ q. record { tenant = q.tenant; once = q.once };
}
  where
    by : (name : Name) (q : PoolRows) → get w.pools name ≡ Some q → (b : Bool) → same_name name pool ≡ b → (r : PoolRows) ×
        (get (insert w.pools pool p) name ≡ Some r) × (q.release ≤ r.release)
    by name q is true e = (
      p,
      get-insert names w.pools pool p name ∙
          ap (λ b. cond b (Some p) (get w.pools name)) e,
      h q (ap (get w.pools) (sym (same_name_is name pool e)) ∙ is),
    )
    by name q is false e = (q, get-insert names w.pools pool p name ∙ ap (λ b. cond b (Some p) (get w.pools name)) e ∙ is, le_refl q.release)

-- the small changes, from which Carries.antt has the same of what is asked and of what a plan does
pub quiet_carries : Carries Quiet Grows
quiet_carries = record {
  none = grows_none;
  follows = grows_then;
  same = quiet_same;
  then = quiet_then;
  put = quiet_put;
  map = quiet_map;
  make_in = quiet_make_in;
  pool = quiet_pool;
}

-- ---- what follows

module _ (w x : World) (h : Quiet w x) where
  pub quiet_stays : IsQueued w → IsOrderly w → Stays w x
  quiet_stays q o = record {
    came = λ k u n worker is has.
        let t = h.came k u is in
        let at = ap (λ m. get m n) (sym t.2.workers) ∙ has in
        let p = (o.tenant k t.0 t.1).held n worker at in record {
          tenant = t.0;
          is_tenant = t.1;
          is_worker = at;
          row = t.2.rows (q.tenant k t.0 t.1).numbered worker.evaluation p.row p.is_row ∙ sym p.is_row;
        };
    goes = λ k t n worker is has. let u = h.goes k t is in (u.0, u.1, ap (λ m. get m n) u.2.workers ∙ has);
    plans = h.plans;
    looks = λ k t n worker kept is has keeps. record
        { pool = h.pools kept.pool; quota = λ q _ r r_is. (r, ap (λ m. get m q.name) (sym h.quotas) ∙ r_is, le_refl r.release) };
  }

pub held_at_first : (w : World) → IsOrderly w → IsHeldFrom w w
held_at_first w o k u n worker is has = let p = (o.tenant k u is).held n worker has in record {
  tenant = u;
  is_tenant = is;
  row = p.row;
  was_row = p.is_row;
  is_row = p.is_row;
  is_pending = p.is_pending;
}

pub stays_held : (w x : World) → Stays w x → IsOrderly w → IsHeldFrom w x
stays_held w x h o k u n worker is has =
    let c = h.came k u n worker is has in
    let p = (o.tenant k c.tenant c.is_tenant).held n worker c.is_worker in record {
      tenant = c.tenant;
      is_tenant = c.is_tenant;
      row = p.row;
      was_row = p.is_row;
      is_row = c.row ∙ p.is_row;
      is_pending = p.is_pending;
    }

-- ---- outcomes

abbrev pub Quietly : World → Outcome World → Type 0
Quietly w = Leads (Quiet w)
