-- Evaluations that are made one after the other.
use Rattle.std.specs.Prelude.{◌≡◌, ◌+◌, ◌<◌, ◌^◌, Bool, true, false, cond, List, [], ◌∷◌, Option, Some, None, filter, fold}
use Rattle.std.specs.Prelude.{length, map, option_map}
use Rattle.std.proofs.Common.{refl, sym, ap, subst, ◌∙◌, arith}
use Rattle.std.specs.Option.{option_map_or}
use Rattle.std.specs.FinMap.{get, get-insert}
use Rattle.keyed.specs.Table.{row_at}
use Rattle.keyed.proofs.Tables.{get-rows}
use Rattle.ns_types.specs.declared.allocation.Allocation.{Allocation}
use Rattle.ns_types.specs.declared.evaluation.Evaluation.{Evaluation}
use Rattle.ns_types.specs.declared.evaluation.Trigger.{Trigger}
use Rattle.ns_types.specs.declared.job.Job.{Job}
use Rattle.ns_types.specs.declared.job.JobKind.TheVariants as JobKind
use Rattle.ns_types.specs.Settling.Making.{evaluation_for, evaluation_of, make, make_in, new_evaluation, put_tenant, with_evaluation}
use Rattle.ns_types.specs.State.Lists.{Each}
use Rattle.ns_types.specs.State.Names.{Name, Key, same_name}
use Rattle.ns_types.specs.State.Rows.{World, Tenant}
use Rattle.ns_types.specs.Working.Commit.{Victim}
use Rattle.ns_types.proofs.Named.{names, numbers, one_name, same_name_refl}
use Rattle.ns_types.proofs.Tables.{tied}
use Rattle.ns_types.proofs.Tests.{not_Some, same_Some}
use Rattle.ns_change.specs.Changed.{HasEvaluationLeft}
use Rattle.ns_renewal.specs.Renewing.{HasNumbers, SameJobs, keys_in, renewed}
use Rattle.ns_tables.specs.declared.tables.Tables.{Tables}
use Rattle.ns_tables.specs.declared.tables.TenantRows.{TenantRows}
use Rattle.ns_tables.specs.World.{tenant_of, world_of}
use Rattle.ns_tables.proofs.World.{tenant_at}
use Rattle.ns_change.proofs.Nothing.{queue_tenants}

-- ---- one evaluation

-- its namespace has it, and the others stay
abbrev pub made_at : Name → (Tenant → Evaluation) → Name → Tenant → Tenant
made_at ns evaluation q t = cond (same_name q ns) (with_evaluation (evaluation t) t) t

pub get_made : (ns : Name) (evaluation : Tenant → Evaluation) (x : World) (q : Name) →
    get (make ns evaluation x).tenants q ≡ option_map (made_at ns evaluation q) (get x.tenants q)
get_made ns evaluation x q = by (get x.tenants ns) refl (same_name q ns) refl
  where
    idle : (o : Option Tenant) → same_name q ns ≡ false → o ≡ option_map (made_at ns evaluation q) o
    idle None e = refl
    idle (Some t) e = ap (λ b. Some (cond b (with_evaluation (evaluation t) t) t)) (sym e)

    by : (o : Option Tenant) → get x.tenants ns ≡ o → (b : Bool) → same_name q ns ≡ b →
        get (option_map_or (λ t. make_in ns (evaluation t) x t) o x).tenants q ≡ option_map (made_at ns evaluation q) (get x.tenants q)
    by None at true e = (ap (get x.tenants) (tied one_name q ns e) ∙ at)
        ∙ ap (option_map (made_at ns evaluation q)) (sym (ap (get x.tenants) (tied one_name q ns e) ∙ at))
    by None at false e = idle (get x.tenants q) e
    by (Some t) at true e = ap (λ m. get m q) (queue_tenants (put_tenant ns (with_evaluation (evaluation t) t) x) (ns, t.evaluation_number + 1))
        ∙ get-insert names x.tenants ns (with_evaluation (evaluation t) t) q
        ∙ ap (λ b. cond b (Some (with_evaluation (evaluation t) t)) (get x.tenants q)) e
        ∙ ap (λ b. Some (cond b (with_evaluation (evaluation t) t) t)) (sym e)
        ∙ ap (option_map (made_at ns evaluation q)) (sym (ap (get x.tenants) (tied one_name q ns e) ∙ at))
    by (Some t) at false e = ap (λ m. get m q) (queue_tenants (put_tenant ns (with_evaluation (evaluation t) t) x) (ns, t.evaluation_number + 1))
        ∙ get-insert names x.tenants ns (with_evaluation (evaluation t) t) q
        ∙ ap (λ b. cond b (Some (with_evaluation (evaluation t) t)) (get x.tenants q)) e
        ∙ idle (get x.tenants q) e

-- ---- by the allocations before the step

-- an allocation that is there
abbrev pub IsThere : World → Victim → Type 0
IsThere w e = (t : Tenant) × (get w.tenants e.0 ≡ Some t) × (get t.allocations e.1.0 ≡ Some e.1.1)

module _ (trigger : Trigger) (w : World) where
  abbrev pub renewal : World → Name × Allocation → World
  renewal x loss = make loss.0 (λ t. evaluation_for t loss.1 trigger) x

  made_jobs : (ns : Name) (evaluation : Tenant → Evaluation) (x : World) → SameJobs w x → SameJobs w (make ns evaluation x)
  made_jobs ns evaluation x same q = ap (option_map (λ (t : Tenant). t.jobs)) (get_made ns evaluation x q) ∙ by (get x.tenants q) ∙ same q
    where
      by : (o : Option Tenant) → option_map (λ (t : Tenant). t.jobs) (option_map (made_at ns evaluation q) o) ≡ option_map (λ (t : Tenant). t.jobs) o
      by None = refl
      by (Some t) = elim (same_name q ns) as (λ b. Some (cond b (with_evaluation (evaluation t) t) t).jobs ≡ Some t.jobs) [ true ↦ refl | false ↦ refl ]

  of_jobs : (t t' : Tenant) (a : Allocation) → t'.jobs ≡ t.jobs → evaluation_for t' a trigger ≡ evaluation_for t a trigger
  of_jobs t t' a same = ap (λ m. option_map_or (λ (job : Job). evaluation_of a.job job.document trigger) (get m a.job)
      (new_evaluation a.job JobKind.Service a.priority a.pool trigger)) same

  one_renewed : (x : World) → SameJobs w x → (e : Victim) → IsThere w e → renewal x (e.0, e.1.1) ≡ renewed trigger w x (e.0, e.1.0)
  one_renewed x same e was = by (get x.tenants e.0) (same e.0) ∙ sym (then was.0 was.1 was.2)
    where
      made : Evaluation
      made = evaluation_for was.0 e.1.1 trigger

      then : (t : Tenant) → get w.tenants e.0 ≡ Some t → get t.allocations e.1.0 ≡ Some e.1.1 →
          renewed trigger w x (e.0, e.1.0) ≡ make e.0 (λ _. evaluation_for t e.1.1 trigger) x
      then t at row = ap (λ o. option_map_or (λ (t : Tenant). option_map_or
          (λ a. make e.0 (λ _. evaluation_for t a trigger) x) (get t.allocations e.1.0) x) o x) at
          ∙ ap (λ o. option_map_or (λ a. make e.0 (λ _. evaluation_for t a trigger) x) o x) row

      by : (o : Option Tenant) → option_map (λ (t : Tenant). t.jobs) o ≡ option_map (λ (t : Tenant). t.jobs) (get w.tenants e.0) →
          option_map_or (λ t. make_in e.0 (evaluation_for t e.1.1 trigger) x t) o x ≡ option_map_or (λ t. make_in e.0 made x t) o x
      by None jobs = refl
      by (Some t') jobs = ap (λ f. make_in e.0 f x t')
          (of_jobs was.0 t' e.1.1 (same_Some _ _ (jobs ∙ ap (option_map (λ (t : Tenant). t.jobs)) was.1)))

  pub all_renewed : (es : List Victim) (x : World) → SameJobs w x → Each (IsThere w) es →
      fold renewal x (map (λ e. (e.0, e.1.1)) es) ≡ fold (renewed trigger w) x (map (λ e. (e.0, e.1.0)) es)
  all_renewed [] x same was = refl
  all_renewed (e ∷ es) x same was = all_renewed es (renewal x (e.0, e.1.1)) (made_jobs e.0 _ x same) was.1
      ∙ ap (λ x. fold (renewed trigger w) x (map (λ e. (e.0, e.1.0)) es)) (one_renewed x same e was.0)

-- ---- their numbers

-- of one key the namespace has its number, and the others' are still there
pub first_left : (x : World) (key : Key) (keys : List Key) → HasNumbers x (key ∷ keys) → HasEvaluationLeft x key.0
first_left x key keys has t at =
    let fits : t.evaluation_number + length (cond true (key ∷ filter (λ k. same_name key.0 k.0) keys) (filter (λ k. same_name key.0 k.0) keys)) < 2 ^ 64
    = subst (λ b. t.evaluation_number + length (cond b (key ∷ filter (λ k. same_name key.0 k.0) keys) (filter (λ k. same_name key.0 k.0) keys)) < 2 ^ 64)
    (same_name_refl key.0) (has key.0 t at) in
    omega arith

made_left : (x : World) (key : Key) (keys : List Key) (evaluation : Tenant → Evaluation) → HasNumbers x (key ∷ keys) →
    HasNumbers (make key.0 evaluation x) keys
made_left x key keys evaluation has ns z at = by (get x.tenants ns) refl (sym (get_made key.0 evaluation x ns) ∙ at)
  where
    one : (t : Tenant) (b : Bool) → t.evaluation_number + length (cond b (key ∷ filter (λ k. same_name ns k.0) keys) (filter
        (λ k. same_name ns k.0) keys)) < 2 ^ 64
        → (cond b (with_evaluation (evaluation t) t) t).evaluation_number + keys_in ns keys < 2 ^ 64
    one t true h = omega arith
    one t false h = h

    by : (o : Option Tenant) → get x.tenants ns ≡ o → option_map (made_at key.0 evaluation ns) o ≡ Some z → z.evaluation_number + keys_in ns keys < 2 ^ 64
    by None is e = absurd (not_Some z e)
    by (Some t) is e = subst (λ (z : Tenant). z.evaluation_number + keys_in ns keys < 2 ^ 64) (same_Some _ _ e) (one t (same_name ns key.0) (has ns t is))

left : (x : World) (key : Key) (keys : List Key) → HasNumbers x (key ∷ keys) → HasNumbers x keys
left x key keys has ns t at = one (same_name ns key.0) (has ns t at)
  where
    one : (b : Bool) → t.evaluation_number + length (cond b (key ∷ filter (λ k. same_name ns k.0) keys) (filter (λ k. same_name ns k.0) keys)) < 2 ^ 64
        → t.evaluation_number + keys_in ns keys < 2 ^ 64
    one true h = omega arith
    one false h = h

pub others_left : (trigger : Trigger) (w x : World) (key : Key) (keys : List Key) → HasNumbers x (key ∷ keys) → HasNumbers (renewed trigger w x key) keys
others_left trigger w x key keys has = by (get w.tenants key.0)
  where
    row : (t : Tenant) (o : Option Allocation) → HasNumbers (option_map_or (λ a. make key.0 (λ _. evaluation_for t a trigger) x) o x) keys
    row t None = left x key keys has
    row t (Some a) = made_left x key keys (λ _. evaluation_for t a trigger) has

    by : (o : Option Tenant) → HasNumbers (option_map_or (λ t. option_map_or
        (λ a. make key.0 (λ _. evaluation_for t a trigger) x) (get t.allocations key.1) x) o x) keys
    by None = left x key keys has
    by (Some t) = row t (get t.allocations key.1)

-- ---- the rows of the tables

module _ (trigger : Trigger) (t : Tables) (x : World) (key : Key) where
  pub nowhere : row_at t.tenants key.0 ≡ None → renewed trigger (world_of t) x key ≡ x
  nowhere at = ap (λ o. option_map_or (λ t. option_map_or (λ a. make key.0 (λ _. evaluation_for t a trigger) x) (get t.allocations key.1) x) o x)
      (tenant_at t key.0 ∙ ap (option_map tenant_of) at)

  in_namespace : (tenant : TenantRows) (o : Option Allocation) → row_at t.tenants key.0 ≡ Some tenant → row_at tenant.allocations.slots key.1 ≡ o →
      renewed trigger (world_of t) x key ≡ option_map_or (λ a. make key.0 (λ _. evaluation_for (tenant_of tenant) a trigger) x) o x
  in_namespace tenant o at row =
      ap (λ o. option_map_or (λ t. option_map_or (λ a. make key.0 (λ _. evaluation_for t a trigger) x) (get t.allocations key.1) x) o x)
      (tenant_at t key.0 ∙ ap (option_map tenant_of) at)
      ∙ ap (λ o. option_map_or (λ a. make key.0 (λ _. evaluation_for (tenant_of tenant) a trigger) x) o x)
      (get-rows numbers tenant.allocations.slots key.1 ∙ row)

  pub no_row : (tenant : TenantRows) → row_at t.tenants key.0 ≡ Some tenant → row_at tenant.allocations.slots key.1 ≡ None →
      renewed trigger (world_of t) x key ≡ x
  no_row tenant at row = in_namespace tenant None at row

  pub there : (tenant : TenantRows) (a : Allocation) → row_at t.tenants key.0 ≡ Some tenant → row_at tenant.allocations.slots key.1 ≡ Some a →
      renewed trigger (world_of t) x key ≡ make key.0 (λ _. evaluation_for (tenant_of tenant) a trigger) x
  there tenant a at row = in_namespace tenant (Some a) at row
