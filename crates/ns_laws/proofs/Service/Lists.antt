-- The lists of a valid state, and its workers' evaluations.
use Rattle.std.specs.Prelude.{◌≡◌, ℕ, Bool, true, false, not, T, List, [], ◌∷◌, ◌++◌, Option, Some, None}
use Rattle.std.proofs.Common.{inl, inr, refl, sym, ap, subst, ◌∙◌}
use Rattle.std.specs.FinMap.{get}
use Rattle.std.specs.List.{list_any}
use Rattle.std.specs.Option.{option_and_then}
use Rattle.ns_types.specs.declared.evaluation.Evaluation.{Evaluation}
use Rattle.ns_types.specs.declared.evaluation.Status.TheVariants as Status
use Rattle.ns_types.specs.State.Lists.{is_empty}
use Rattle.ns_types.specs.State.Names.{Key, Name, has_key, same_key}
use Rattle.ns_types.specs.State.Rows.{World, Tenant, evaluation_at, is_blocked}
use Rattle.ns_types.specs.Validity.{IsSound, jobs_at, busy_with, same_found}
use Rattle.ns_types.specs.Working.Looks.{worker_at}
use Rattle.ns_types.specs.Working.Worker.{Worker}
use Rattle.ns_types.proofs.Named.{first_of_both, second_of_both}
use Rattle.ns_types.proofs.Tests.{is_no, not_Some}
use Rattle.ns_audit.specs.Orderly.{IsReadyIn}
use Rattle.ns_audit.proofs.Alone.Orderly.{orderly, pending_is}
use Rattle.ns_audit.proofs.Steady.Workers.{at_tenant}
use Rattle.ns_audit.proofs.ValidEvaluations.Settle.{sound_filed}
use Rattle.ns_audit.proofs.ValidWorkers.Busy.{IsBusyIn, IsQueuedIn, IsQueued}
use Rattle.ns_audit.proofs.ValidWorkers.Lists.{one_of_list}
use Rattle.ns_audit.proofs.ValidWorkers.Once.{is_once, distinct_once}
use Rattle.ns_laws.specs.Serving as law
use Rattle.ns_laws.specs.Serving.{IsUnderWay, is_ready, is_with_worker}

-- ---- rows

-- the namespace of a row, and the row there
pub row_in : {X : Type 0} (rows : Tenant → Option X) (o : Option Tenant) (x : X) → option_and_then rows o ≡ Some x →
    (t : Tenant) × (o ≡ Some t) × (rows t ≡ Some x)
row_in rows None x e = absurd (not_Some x e)
row_in rows (Some t) x e = (t, refl, e)

pub evaluation_in : (w : World) (key : Key) (e : Evaluation) → evaluation_at w key ≡ Some e →
    (t : Tenant) × (get w.tenants key.0 ≡ Some t) × (get t.evaluations key.1 ≡ Some e)
evaluation_in w key e is = row_in (λ t. get t.evaluations key.1) (get w.tenants key.0) e is

pub worker_in : (w : World) (number : ℕ) (ns : Name) (worker : Worker) → worker_at w number ns ≡ Some worker →
    (t : Tenant) × (get w.tenants ns ≡ Some t) × (get t.workers number ≡ Some worker)
worker_in w number ns worker is = row_in (λ t. get t.workers number) (get w.tenants ns) worker is

pub evaluation_is : (w : World) (key : Key) (t : Tenant) (e : Evaluation) → get w.tenants key.0 ≡ Some t → get t.evaluations key.1 ≡ Some e →
    evaluation_at w key ≡ Some e
evaluation_is w key t e is at = ap (option_and_then (λ (t : Tenant). get t.evaluations key.1)) is ∙ at

pub row_of_tenant : (w : World) (key : Key) (t : Tenant) (e : Evaluation) → get w.tenants key.0 ≡ Some t → evaluation_at w key ≡ Some e →
    get t.evaluations key.1 ≡ Some e
row_of_tenant w key t e is at = sym (ap (option_and_then (λ (t : Tenant). get t.evaluations key.1)) is) ∙ at

-- ---- what a valid state has

pub queued_of : (w : World) → IsSound w → IsQueued w
queued_of w s = record { tenant = queued; once = distinct_once same_key w.ready s.ready_once }
  where
    queued : (ns : Name) (t : Tenant) → get w.tenants ns ≡ Some t → IsQueuedIn w.ready ns t
    queued ns t is = record {
      numbered = λ n e at. ((s.tenant ns t is).evaluation n e at).below;
      there = there;
      one_busy = one_of_list w ns t (distinct_once same_found (jobs_at t (busy_with w ns t)) (s.tenant ns t is).one_busy);
    }
      where
        there : (n : ℕ) → IsBusyIn w.ready ns t.workers n → (e : Evaluation) × (get t.evaluations n ≡ Some e)
        there n (inl has) = let r = at_tenant w IsReadyIn ns n t is ((orderly w s).ready ns n has) in (r.pending.row, r.pending.is_row)
        there n (inr h) = let k = (s.tenant ns t is).worker h.number h.worker h.is_worker in (k.row, ap (get t.evaluations) (sym h.same) ∙ k.is_row)

-- in the words of the lists
busy_in : (w : World) (ns : Name) (t : Tenant) (n : ℕ) → get w.tenants ns ≡ Some t → IsUnderWay w ns n → IsBusyIn w.ready ns t.workers n
busy_in w ns t n is (is_ready has) = inl has
busy_in w ns t n is (is_with_worker number worker at same) = inr (record {
  number = number;
  worker = worker;
  is_worker = sym (ap (option_and_then (λ (t : Tenant). get t.workers number)) is) ∙ at;
  same = same;
})

pub one_under_way : law.OneUnderWay
one_under_way s ns m n d e valid bm bn dm en same =
    let t = evaluation_in s.world (ns, m) d dm in
    ((queued_of s.world valid.world).tenant ns t.0 t.1).one_busy m n d e (busy_in s.world ns t.0 m t.1 bm) (busy_in s.world ns t.0 n t.1 bn) t.2
    (row_of_tenant s.world (ns, n) t.0 e t.1 en) same

pub workers_have_their_own : law.WorkersHaveTheirOwn
workers_have_their_own s ns number worker valid is =
    let w = s.world in
    let t = worker_in w number ns worker is in
    let k = (valid.world.tenant ns t.0 t.1).worker number worker t.2 in
    let there = evaluation_is w (ns, worker.evaluation) t.0 k.row t.1 k.is_row in
    let pending = pending_is k.row.status k.pending in record {
      row = k.row;
      is_row = there;
      is_pending = pending;
      not_ready = k.not_ready;
      not_blocked = (valid.world.tenant ns t.0 t.1).blocked_listed worker.evaluation k.row k.is_row ∙ ap is_blocked pending;
      no_other = λ m other e other_is e_is same.
          let n = one_under_way s ns other.evaluation worker.evaluation e k.row valid (is_with_worker m other other_is refl)
          (is_with_worker number worker is refl) e_is there same in
          (valid.world.tenant ns t.0 t.1).one_each m number other worker
          (sym (ap (option_and_then (λ (t : Tenant). get t.workers m)) t.1) ∙ other_is) t.2 n;
    }

-- ---- lists

none_twice : (keys : List Key) → is_once same_key keys ≡ true → law.HasNoneTwice keys
none_twice keys once [] later key e =
    by (has_key later key) refl (is_no (list_any (same_key key) later) (first_of_both _ (is_once same_key later) (ap (is_once same_key) (sym e) ∙ once)))
  where
    by : (b : Bool) → has_key later key ≡ b → has_key later key ≡ false → has_key later key ≡ false
    by b is none = none
none_twice [] once (x ∷ before) later key e = absurd (subst T (ap is_empty e) tt)
none_twice (y ∷ keys) once (x ∷ before) later key e =
    let same : keys ≡ before ++ key ∷ later = cc in
    none_twice keys (second_of_both (not (list_any (same_key y) keys)) _ once) before later key same

pub lists_are_true : law.ListsAreTrue
lists_are_true s valid = record {
  ready = λ key has. let r = valid.world.ready key has in (r.row, r.is_row, pending_is r.row.status r.pending);
  blocked = blocked;
  all_blocked = listed;
  in_one = λ key has. let r = valid.world.ready key has in let t = evaluation_in s.world key r.row r.is_row in
      (valid.world.tenant key.0 t.0 t.1).blocked_listed key.1 r.row t.2 ∙ ap is_blocked (pending_is r.row.status r.pending);
  ready_once = none_twice s.world.ready (distinct_once same_key s.world.ready valid.world.ready_once);
  blocked_once = none_twice s.world.blocked (distinct_once same_key s.world.blocked valid.world.blocked_once);
}
  where
    blocked : (key : Key) → has_key s.world.blocked key ≡ true → law.HasEvaluationStatus s.world Status.Blocked key
    blocked key has = let l = (orderly s.world valid.world).blocked key.0 key.1 has in
        (l.entry.row, evaluation_is s.world key l.tenant l.entry.row l.is_tenant l.entry.is_row, l.entry.is_blocked)

    listed : (key : Key) → law.HasEvaluationStatus s.world Status.Blocked key → has_key s.world.blocked key ≡ true
    listed key h = let t = evaluation_in s.world key h.0 h.1 in
        (valid.world.tenant key.0 t.0 t.1).blocked_listed key.1 h.0 t.2 ∙ ap is_blocked h.2

pub one_is_blocked : law.OneIsBlocked
one_is_blocked s ns m n d e valid dm en d_blocked e_blocked same =
    let t = evaluation_in s.world (ns, m) d dm in
    ((sound_filed s.world valid.world).tenant ns t.0 t.1).0.one m n d e t.2 (row_of_tenant s.world (ns, n) t.0 e t.1 en) (ap is_blocked d_blocked)
    (ap is_blocked e_blocked) same
