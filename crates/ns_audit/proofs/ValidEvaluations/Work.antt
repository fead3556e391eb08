-- A worker's step, but for Finish and Apply, keeps what is said of evaluations.
use Rattle.std.specs.Prelude.{◌≡◌, ℕ, ◌+◌, ◌≤◌, ◌<◌, Bool, true, false, cond, [], ◌∷◌, ◌++◌, Option, Some, None, ◌&&◌, nat_le, nat_lt}
use Rattle.std.proofs.Common.{refl, sym, ap, subst, ◌∙◌, arith}
use Rattle.std.specs.FinMap.{get, get-insert, insert, same_map}
use Rattle.std.specs.Option.{option_map_or}
use Rattle.std.specs.Ordering.{eq_by_cmp, nat_cmp}
use Rattle.ns_types.specs.declared.evaluation.Evaluation.{Evaluation}
use Rattle.ns_types.specs.declared.evaluation.Status.TheVariants as Status
use Rattle.ns_types.specs.declared.reply.Content.TheVariants as Content
use Rattle.ns_types.specs.declared.worker.Phase.TheVariants as Phase
use Rattle.ns_types.specs.Working.Worker.{Worker}
use Rattle.ns_types.specs.Settling.Making.{put_tenant, with_status}
use Rattle.ns_types.specs.State.Names.{Name, Key, ByNumber, has_key}
use Rattle.ns_types.specs.Settling.Outcome.{Outcome, NotEnabled, Done}
use Rattle.ns_types.specs.Working.Queue.{is_busy, first_waiting, promote, is_served}
use Rattle.ns_types.specs.State.Rows.{World, Tenant, is_open}
use Rattle.ns_types.specs.Working.Snapshot.{snapshot_of}
use Rattle.ns_types.specs.Validity.{IsSound}
use Rattle.ns_types.specs.Working.Work.{with_worker, without_worker, without_key, workers_end, is_idle, new_worker, dequeue_in, dequeue, may_snap}
use Rattle.ns_types.specs.Working.Work.{with_snapshot, snap_for, snap, may_submit, submitted, submit_for, submit, is_submitted, most_nacks, with_nack}
use Rattle.ns_types.specs.Working.Work.{given_back, given_up, nack_for, nack}
use Rattle.ns_types.proofs.Lists.{not_both}
use Rattle.ns_types.proofs.Named.{numbers as numbers_, one_number, same_number_refl}
use Rattle.ns_types.proofs.Tests.{same_Some}
use Rattle.ns_audit.proofs.Steady.Keeping.{at_inserted}
use Rattle.ns_types.proofs.Leads.{Leads, leads_there, leads_if, leads_at_work, leads_keeping}
use Rattle.ns_audit.proofs.Alone.Orderly.{pending_is}
use Rattle.ns_audit.proofs.ValidEvaluations.Filed.{IsFiledEvaluation, IsFiledRows, put_rows, replaced_rows, IsFiledTenant, IsFiled, put_filed, lists_filed}
use Rattle.ns_audit.proofs.ValidEvaluations.Settle.{index_in, pools_in, sound_filed}

-- a worker's evaluation is pending
pub held_pending : (w : World) → IsSound w → (ns : Name) (t : Tenant) → get w.tenants ns ≡ Some t → (number : ℕ) (worker : Worker) →
    get t.workers number ≡ Some worker → (e : Evaluation) → get t.evaluations worker.evaluation ≡ Some e → e.status ≡ Status.Pending
held_pending w s ns t is number worker has e at =
    let r = (s.tenant ns t is).worker number worker has in
    ap (λ (e : Evaluation). e.status) (same_Some _ _ (sym at ∙ r.is_row)) ∙ pending_is r.row.status r.pending

-- the next one of a job is ready
pub promote_filed : (pools : Name → Bool) (index : Name → ℕ) (ns job : Name) (w : World) → IsFiled pools index w → IsFiled pools index (promote ns job w)
unfolding promote
promote_filed pools index ns job w s = by (is_busy w ns job)
  where
    first : (o : Option ℕ) → IsFiled pools index (option_map_or (λ n. record w { ready = w.ready ++ (ns, n) ∷ [] }) o w)
    first None = s
    first (Some n) = lists_filed pools index w (w.ready ++ (ns, n) ∷ []) w.plans s

    in_tenant : (o : Option Tenant) → IsFiled pools index
        (option_map_or (λ t. option_map_or (λ n. record w { ready = w.ready ++ (ns, n) ∷ [] }) (first_waiting job t) w) o w)
    in_tenant None = s
    in_tenant (Some t) = first (first_waiting job t)

    by : (b : Bool) → IsFiled pools index (cond b w
        (option_map_or (λ t. option_map_or (λ n. record w { ready = w.ready ++ (ns, n) ∷ [] }) (first_waiting job t) w) (get w.tenants ns) w))
    by true = s
    by false = in_tenant (get w.tenants ns)

-- ---- Dequeue, Snap, Submit

module _ (w : World) (s : IsSound w) where
  abbrev Keeps : Outcome World → Type 0
  Keeps = Leads (IsFiled (pools_in w) (index_in w))

  filed : IsFiled (pools_in w) (index_in w) w
  filed = sound_filed w s

  -- another worker
  with_worker_filed : (ns : Name) (t : Tenant) → get w.tenants ns ≡ Some t → (number : ℕ) (worker : Worker) →
      IsFiled (pools_in w) (index_in w) (put_tenant ns (with_worker number worker t) w)
  with_worker_filed ns t is number worker = put_filed (pools_in w) (index_in w) ns (with_worker number worker t) w filed (filed.tenant ns t is)

  pub dequeue_filed : (number : ℕ) (key : Key) → Keeps (dequeue number key w)
  unfolding dequeue
  dequeue_filed number key = leads_if _ (nat_lt number workers_end && is_idle w number && is_served w w.ready key)
      (option_map_or (dequeue_in number key w) (get w.tenants key.0) NotEnabled) NotEnabled (λ _.
      leads_there _ (get w.tenants key.0) (dequeue_in number key w) (λ t is. leads_there _ (get t.evaluations key.1) _ (λ e _.
      lists_filed (pools_in w) (index_in w) (put_tenant key.0 (with_worker number (new_worker key.1 e) t) w) (without_key key w.ready) w.plans
      (with_worker_filed key.0 t is number (new_worker key.1 e))))) (λ _. tt)

  pub snap_filed : (number : ℕ) (ns : Name) → Keeps (snap number ns w)
  unfolding snap
  snap_filed number ns = leads_at_work _ number ns w (snap_for number ns w) (λ t worker e is _ _.
      leads_if _ (may_snap worker.tries worker.phase)
      (Done (Content.Snapped worker.evaluation) (put_tenant ns (with_worker number (with_snapshot (snapshot_of w ns t worker.evaluation e) worker) t) w))
      NotEnabled
      (λ _. with_worker_filed ns t is number (with_snapshot (snapshot_of w ns t worker.evaluation e) worker)) (λ _. tt))

  pub submit_filed : (number : ℕ) (ns : Name) → Keeps (submit number ns w)
  unfolding submit
  submit_filed number ns = leads_keeping _ number ns w (λ t worker e. submit_for number ns w t worker) (λ t worker e kept is _ _ _.
      leads_if _ (may_submit worker kept) (Done (Content.Queued worker.evaluation) (submitted number ns w t worker)) NotEnabled
      (λ _. lists_filed (pools_in w) (index_in w) (put_tenant ns (with_worker number (record worker { phase = Phase.Submitted }) t) w) w.ready
      (w.plans ++ (ns, worker.evaluation) ∷ []) (with_worker_filed ns t is number (record worker { phase = Phase.Submitted }))) (λ _. tt))

-- ---- Nack

-- the second of two rows put at one number stays
insert_twice : {X : Type 0} (m : ByNumber X) (k : ℕ) (v x : X) → insert (insert m k v) k x ≡ insert m k x
insert_twice {X = X} m k v x = same_map numbers_ one_number _ _ (λ q. get-insert numbers_ (insert m k v) k x q ∙
    ap (λ o. cond (eq_by_cmp nat_cmp q k) (Some x) o) (get-insert numbers_ m k v q) ∙ by (eq_by_cmp nat_cmp q k) (get m q) ∙ sym (get-insert numbers_ m k x q))
  where
    by : (b : Bool) (o : Option X) → cond b (Some x) (cond b (Some v) o) ≡ cond b (Some x) o
    by true o = refl
    by false o = refl

not_yet : (n : ℕ) → nat_le most_nacks (n + 1) ≡ false → n + 1 < most_nacks
not_yet n e = grind arith

no_more : (n : ℕ) → n < most_nacks → n + 1 ≤ most_nacks
no_more n lt = omega arith

below : (n : ℕ) → n < most_nacks → n ≤ most_nacks
below n lt = omega arith

module _ (w : World) (s : IsSound w) (ns : Name) (number : ℕ) (t : Tenant) (worker : Worker) (e : Evaluation) (is : get w.tenants ns ≡ Some t)
    (has : get t.workers number ≡ Some worker) (at : get t.evaluations worker.evaluation ≡ Some e) where
  abbrev listed : ℕ → Bool
  listed n = has_key w.blocked (ns, n)

  its : IsFiledTenant (pools_in w) (index_in w ns) listed t
  its = (sound_filed w s).tenant ns t is

  row : IsFiledEvaluation (pools_in w) t.evaluation_number (index_in w ns) e
  row = its.0.row worker.evaluation e at

  few : e.nacks < most_nacks
  few = row.few_nacks (ap is_open (held_pending w s ns t is number worker has e at))

  abbrev nacked : Evaluation
  nacked = record e { nacks = e.nacks + 1 }

  back_filed : nat_le most_nacks (e.nacks + 1) ≡ false →
      Leads (IsFiled (pools_in w) (index_in w)) (given_back number ns w (with_nack worker.evaluation e t) worker)
  back_filed more = lists_filed (pools_in w) (index_in w) (put_tenant ns (without_worker number (with_nack worker.evaluation e t)) w)
      (w.ready ++ (ns, worker.evaluation) ∷ []) w.plans
      (put_filed (pools_in w) (index_in w) ns (without_worker number (with_nack worker.evaluation e t)) w (sound_filed w s) (
        replaced_rows (pools_in w) t.evaluation_number (index_in w ns) listed t.evaluations its.0 worker.evaluation e nacked at refl refl (record {
          named = row.named;
          priority = row.priority;
          exists = row.exists;
          previous = row.previous;
          follower = row.follower;
          given_back = no_more e.nacks few;
          few_nacks = λ _. not_yet e.nacks more;
          created = row.created;
          modified = row.modified;
        }),
        its.1,
        its.2,
      ))

  failed_rows : IsFiledRows (pools_in w) t.evaluation_number (index_in w ns) listed
      (insert t.evaluations worker.evaluation (record e { nacks = e.nacks + 1; status = Status.Failed }))
  failed_rows = put_rows (pools_in w) t.evaluation_number (index_in w ns) listed t.evaluations its.0 worker.evaluation
      (record e { nacks = e.nacks + 1; status = Status.Failed }) (record {
        named = row.named;
        priority = row.priority;
        exists = λ open_. not_both open_ refl;
        previous = row.previous;
        follower = row.follower;
        given_back = no_more e.nacks few;
        few_nacks = λ open_. not_both open_ refl;
        created = row.created;
        modified = row.modified;
      }) (λ blocked. not_both blocked refl)

  up_filed : Leads (IsFiled (pools_in w) (index_in w)) (given_up number ns w (with_nack worker.evaluation e t) worker e)
  up_filed = promote_filed (pools_in w) (index_in w) ns e.job
      (put_tenant ns (with_status worker.evaluation Status.Failed (without_worker number (with_nack worker.evaluation e t))) w)
      (put_filed (pools_in w) (index_in w) ns _ w (sound_filed w s) (subst (IsFiledTenant (pools_in w) (index_in w ns) listed) (sym is_failed) (
        subst (IsFiledRows (pools_in w) t.evaluation_number (index_in w ns) listed)
            (sym (insert_twice t.evaluations worker.evaluation nacked (record nacked { status = Status.Failed }))) failed_rows,
        its.1,
        its.2,
      )))
    where
      is_failed : with_status worker.evaluation Status.Failed (without_worker number (with_nack worker.evaluation e t))
          ≡ record (without_worker number (with_nack worker.evaluation e t))
          { evaluations = insert (insert t.evaluations worker.evaluation nacked) worker.evaluation (record nacked { status = Status.Failed }) }
      is_failed = ap (λ o. option_map_or (λ e. record (without_worker number (with_nack worker.evaluation e t))
          { evaluations = insert (insert t.evaluations worker.evaluation nacked) worker.evaluation (record e { status = Status.Failed }) }) o
          (without_worker number (with_nack worker.evaluation e t)))
          (at_inserted numbers_ t.evaluations worker.evaluation nacked (same_number_refl worker.evaluation))

pub nack_filed : (w : World) → IsSound w → (number : ℕ) (ns : Name) → Leads (IsFiled (pools_in w) (index_in w)) (nack number ns w)
unfolding nack
nack_filed w s number ns = leads_at_work _ number ns w (nack_for number ns w) (λ t worker e is has at.
    leads_if _ (is_submitted worker.phase) NotEnabled _ (λ _. tt) (λ _.
    leads_if _ (nat_le most_nacks (e.nacks + 1)) (given_up number ns w (with_nack worker.evaluation e t) worker e)
    (given_back number ns w (with_nack worker.evaluation e t) worker)
    (λ _. up_filed w s ns number t worker e is has at) (λ more. back_filed w s ns number t worker e is has at more)))
