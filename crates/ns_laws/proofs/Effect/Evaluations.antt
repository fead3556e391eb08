-- Evaluations at the end of a step: the one that is made, and the others.
use Rattle.std.specs.Prelude.{◌≡◌, ◌≢◌, ℕ, ◌+◌, Bool, true, false, cond, [], Option, Some, None, option_map}
use Rattle.std.proofs.Common.{refl, sym, ap, subst, ◌∙◌}
use Rattle.std.specs.FinMap.{get}
use Rattle.std.specs.Option.{option_map_or}
use Rattle.ns_types.specs.declared.allocation.Allocation.{Allocation}
use Rattle.ns_types.specs.declared.evaluation.Evaluation.{Evaluation}
use Rattle.ns_types.specs.declared.evaluation.Status.TheVariants as Status
use Rattle.ns_types.specs.declared.evaluation.Trigger.{Trigger}
use Rattle.ns_types.specs.declared.job.Document.{Document}
use Rattle.ns_types.specs.declared.job.Job.{Job}
use Rattle.ns_types.specs.declared.job.JobKind.TheVariants as JobKind
use Rattle.ns_types.specs.Settling.Making.{put_tenant, new_evaluation, evaluation_of, evaluation_for, with_evaluation, make_in}
use Rattle.ns_types.specs.Settling.Releases.{woken}
use Rattle.ns_types.specs.Settling.Settle.{pending, woken_row, unblocked_in, is_touched, changes_evaluation, created_at}
use Rattle.ns_types.specs.Settling.Settle.{stamped_evaluation, stamped, stamp_tenant}
use Rattle.ns_types.specs.State.Names.{Name, has_key}
use Rattle.ns_types.specs.State.Rows.{World, Tenant}
use Rattle.ns_types.proofs.Named.{numbers, one_number}
use Rattle.ns_types.proofs.Queue.{queue_keeps}
use Rattle.ns_types.proofs.Settling.{KeepsRoom, keeps_elsewhere, kept_evaluation, wakes_none}
use Rattle.ns_types.proofs.TableRows.{apart, get_put, get_other}
use Rattle.ns_types.proofs.Tables.{get-map_rows}
use Rattle.ns_laws.specs.Effects.{IsOfDocument, IsOfAllocation, KeepsEvaluation, IsEvaluated}
use Rattle.ns_laws.proofs.Effect.Rows.{settled_rows, stamp_keeps}

-- ---- rows that are stamped

-- the evaluation, with other indexes
abbrev pub dated : Evaluation → ℕ → ℕ → Evaluation
dated e create modify = record e { create_index = create; modify_index = modify }

module _ (n : ℕ) where
  -- the row, with some indexes
  abbrev pub Dated : Evaluation → Tenant → Type 0
  Dated e t = (create : ℕ) × (modify : ℕ) × (get t.evaluations n ≡ Some (dated e create modify))

  stamped_row : (o : Option Tenant) (t : Tenant) (e : Evaluation) → get t.evaluations n ≡ Some e → Dated e (stamp_tenant o t)
  unfolding stamp_tenant
  stamped_row None t e at = (e.create_index, e.modify_index, at)
  stamped_row (Some o) t e at = by (is_touched o t)
    where
      create : ℕ
      create = created_at (o.index + 1) (get o.evaluations n) (λ o. o.create_index)

      row : (b : Bool) → get (stamped (o.index + 1) o t).evaluations n ≡ Some (cond b (dated e create (o.index + 1)) e) → Dated e (stamped (o.index + 1) o t)
      row true is = (create, o.index + 1, is)
      row false is = (e.create_index, e.modify_index, is)

      by : (b : Bool) → Dated e (cond b (stamped (o.index + 1) o t) t)
      by true = row (changes_evaluation o n e)
          (get-map_rows numbers one_number (stamped_evaluation (o.index + 1) o) t.evaluations n ∙ ap (option_map (stamped_evaluation (o.index + 1) o n)) at)
      by false = (e.create_index, e.modify_index, at)

  -- where the evaluation is the former one it stays so
  stamped_stays : (o t : Tenant) → get t.evaluations n ≡ get o.evaluations n → get (stamp_tenant (Some o) t).evaluations n ≡ get o.evaluations n
  unfolding stamp_tenant
  stamped_stays o t same = by (is_touched o t)
    where
      left : (x : Option Evaluation) → get o.evaluations n ≡ x → option_map (stamped_evaluation (o.index + 1) o n) x ≡ x
      left None is = refl
      left (Some e) is = ap (λ b. Some (cond b (dated e (created_at (o.index + 1) (get o.evaluations n) (λ o. o.create_index)) (o.index + 1)) e))
          (kept_evaluation o n e is)

      by : (b : Bool) → get (cond b (stamped (o.index + 1) o t) t).evaluations n ≡ get o.evaluations n
      by true = get-map_rows numbers one_number (stamped_evaluation (o.index + 1) o) t.evaluations n
          ∙ ap (option_map (stamped_evaluation (o.index + 1) o n)) same ∙ left (get o.evaluations n) refl
      by false = same

  -- a woken one keeps its create index
  stamped_woken : (o t : Tenant) (e : Evaluation) → get o.evaluations n ≡ Some e → get t.evaluations n ≡ Some (pending e) →
      (index : ℕ) × (get (stamp_tenant (Some o) t).evaluations n ≡ Some (record e { status = Status.Pending; modify_index = index }))
  unfolding stamp_tenant
  stamped_woken o t e was at = by (is_touched o t)
    where
      Row : Tenant → Type 0
      Row u = (index : ℕ) × (get u.evaluations n ≡ Some (record e { status = Status.Pending; modify_index = index }))

      row : (b : Bool) → get (stamped (o.index + 1) o t).evaluations n
          ≡ Some (cond b (dated (pending e) (created_at (o.index + 1) (get o.evaluations n) (λ o. o.create_index)) (o.index + 1)) (pending e)) →
          Row (stamped (o.index + 1) o t)
      row true is = (o.index + 1, is ∙ ap (λ x. Some (dated (pending e) (created_at (o.index + 1) x (λ (o : Evaluation). o.create_index)) (o.index + 1))) was)
      row false is = (e.modify_index, is)

      by : (b : Bool) → Row (cond b (stamped (o.index + 1) o t) t)
      by true = row (changes_evaluation o n (pending e))
          (get-map_rows numbers one_number (stamped_evaluation (o.index + 1) o) t.evaluations n ∙ ap (option_map (stamped_evaluation (o.index + 1) o n)) at)
      by false = (e.modify_index, at)

-- ---- the end of a step

module _ (w x : World) (ns : Name) where
  abbrev now : Tenant → Tenant
  now = settled_rows w x ns

  pub settled_number : (t : Tenant) → (now t).evaluation_number ≡ t.evaluation_number
  settled_number t = stamp_keeps (λ t. t.evaluation_number) (λ i o t. refl) (get w.tenants ns) (unblocked_in (woken w x) ns t)

  unblocked : (t : Tenant) (n : ℕ) (o : Option Evaluation) → get t.evaluations n ≡ o →
      get (unblocked_in (woken w x) ns t).evaluations n ≡ option_map (woken_row (woken w x) ns n) o
  unblocked t n o at = get-map_rows numbers one_number (woken_row (woken w x) ns) t.evaluations n ∙ ap (option_map (woken_row (woken w x) ns n)) at

  pub settled_dated : (t : Tenant) (n : ℕ) (e : Evaluation) → get t.evaluations n ≡ Some e → e.status ≡ Status.Pending → Dated n e (now t)
  settled_dated t n e at is_pending = stamped_row n (get w.tenants ns) (unblocked_in (woken w x) ns t) e
      (unblocked t n (Some e) at ∙ ap Some (same (has_key (woken w x) (ns, n))))
    where
      same : (b : Bool) → cond b (pending e) e ≡ e
      same true = λ i. record e { status = sym is_pending i }
      same false = refl

  -- an evaluation that the step's own change leaves
  pub settled_keeps : (o t : Tenant) (n : ℕ) → get w.tenants ns ≡ Some o → get t.evaluations n ≡ get o.evaluations n → KeepsEvaluation n o (now t)
  settled_keeps o t n is same = subst (λ y. KeepsEvaluation n o (stamp_tenant y u)) (sym is) (by (get o.evaluations n) refl)
    where
      u : Tenant
      u = unblocked_in (woken w x) ns t

      by : (y : Option Evaluation) → get o.evaluations n ≡ y → KeepsEvaluation n o (stamp_tenant (Some o) u)
      by None was = KeepsEvaluation.stays (stamped_stays n o u (unblocked t n None (same ∙ was) ∙ sym was))
      by (Some e) was = row (has_key (woken w x) (ns, n)) (unblocked t n (Some e) (same ∙ was))
        where
          row : (b : Bool) → get u.evaluations n ≡ Some (cond b (pending e) e) → KeepsEvaluation n o (stamp_tenant (Some o) u)
          row true at = let r = stamped_woken n o u e was at in KeepsEvaluation.wakes e r.0 was r.1
          row false at = KeepsEvaluation.stays (stamped_stays n o u (at ∙ sym was))

-- ---- an evaluation is made

-- it is pending, and it has what such an evaluation has, whatever its indexes
pub record IsMadeFor (job : Name) (IsOf : Evaluation → Type 0) (trigger : Trigger) (e : Evaluation) : Type 0 where
  pub of_job : e.job ≡ job
  pub of : (create modify : ℕ) → IsOf (dated e create modify)
  pub pending : e.status ≡ Status.Pending
  pub why : e.trigger ≡ trigger

pub made_of : (job : Name) (document : Document) (trigger : Trigger) →
    IsMadeFor job (IsOfDocument document) trigger (evaluation_of job document trigger)
made_of job document trigger = record {
  of_job = refl;
  of = λ create modify. record { kind = refl; priority = refl; pool = refl };
  pending = refl;
  why = refl;
}

-- whether the allocation's job is there or gone
pub made_for : (t : Tenant) (a : Allocation) (trigger : Trigger) →
    IsMadeFor a.job (IsOfAllocation (get t.jobs a.job) a) trigger (evaluation_for t a trigger)
made_for t a trigger = by (get t.jobs a.job)
  where
    by : (o : Option Job) → IsMadeFor a.job (IsOfAllocation o a) trigger
        (option_map_or (λ job. evaluation_of a.job job.document trigger) o (new_evaluation a.job JobKind.Service a.priority a.pool trigger))
    by None = record { of_job = refl; of = λ create modify. (refl, refl, refl); pending = refl; why = refl }
    by (Some job) = made_of a.job job.document trigger

-- the rows t become t', and e is made of them
pub is_evaluated : (w x : World) (ns : Name) (t t' : Tenant) (e : Evaluation) {job : Name} {IsOf : Evaluation → Type 0} {trigger : Trigger} →
    get w.tenants ns ≡ Some t → t'.evaluation_number ≡ t.evaluation_number → t'.evaluations ≡ t.evaluations → IsMadeFor job IsOf trigger e →
    IsEvaluated job IsOf trigger (t'.evaluation_number + 1) t (settled_rows w x ns (with_evaluation e t'))
is_evaluated w x ns t t' e is number rows made =
    let n : ℕ = t'.evaluation_number + 1 in
    let u : Tenant = with_evaluation e t' in
    let r = settled_dated w x ns u n e (get_put numbers one_number t'.evaluations n e) made.pending in record {
      next = ap (λ n. n + 1) number;
      last = settled_number w x ns u;
      row = dated e r.0 r.1;
      is_row = r.2;
      is_of_job = made.of_job;
      is_of = made.of r.0 r.1;
      is_pending = made.pending;
      is_why = made.why;
      others = λ m other. settled_keeps w x ns t u m is
          (get_other numbers one_number t'.evaluations n e m (apart m n other) ∙ ap (λ rows. get rows m) rows);
    }

-- ---- where no room is released, none wakes

pub row_rests : (w x : World) (ns : Name) (t u : Tenant) (n : ℕ) → get w.tenants ns ≡ Some t → KeepsRoom w x →
    get u.evaluations n ≡ get t.evaluations n → get (settled_rows w x ns u).evaluations n ≡ get t.evaluations n
row_rests w x ns t u n is keeps same =
    ap (λ o. get (stamp_tenant o (unblocked_in (woken w x) ns u)).evaluations n) is
    ∙ stamped_stays n t (unblocked_in (woken w x) ns u)
    (ap (λ keys. get (unblocked_in keys ns u).evaluations n) (wakes_none w x keeps) ∙ get-map_rows numbers one_number (woken_row [] ns) u.evaluations n
    ∙ idle (get u.evaluations n) ∙ same)
  where
    idle : (o : Option Evaluation) → option_map (woken_row [] ns n) o ≡ o
    idle None = refl
    idle (Some e) = refl

-- the rows t become t' with the same allocations, and e is made of them
pub others_rest : (w : World) (ns : Name) (t t' : Tenant) (e : Evaluation) → get w.tenants ns ≡ Some t → t'.evaluations ≡ t.evaluations →
    t'.allocations ≡ t.allocations → (m : ℕ) → m ≢ t'.evaluation_number + 1 →
    get (settled_rows w (make_in ns e w t') ns (with_evaluation e t')).evaluations m ≡ get t.evaluations m
others_rest w ns t t' e is rows allocations m other =
    let n : ℕ = t'.evaluation_number + 1 in
    let y : World = put_tenant ns (with_evaluation e t') w in
    row_rests w (make_in ns e w t') ns t (with_evaluation e t') m is
    (keeps_elsewhere w (make_in ns e w t') ns t (with_evaluation e t') (queue_keeps (λ x. x.pools) (λ x keys. refl) y (ns, n))
    (queue_keeps (λ x. x.quotas) (λ x keys. refl) y (ns, n)) (queue_keeps (λ x. x.tenants) (λ x keys. refl) y (ns, n)) is allocations)
    (get_other numbers one_number t'.evaluations n e m (apart m n other) ∙ ap (λ rows. get rows m) rows)
