-- Which reports call for an evaluation, and what the others leave.
use Rattle.std.specs.Prelude.{◌≡◌, ◌≢◌, ◌⊎◌, ℕ, Bool, true, false, not, ◌&&◌, Option, Some, None}
use Rattle.std.proofs.Common.{inl, inr, refl, sym, ap, ◌∙◌}
use Rattle.std.specs.FinMap.{get, insert, same_map}
use Rattle.std.specs.Option.{option_map_or}
use Rattle.ns_types.specs.declared.allocation.Allocation.{Allocation}
use Rattle.ns_types.specs.declared.allocation.ClientStatus.{ClientStatus}
use Rattle.ns_types.specs.declared.allocation.DesiredStatus.{DesiredStatus}
use Rattle.ns_types.specs.declared.job.Job.{Job}
use Rattle.ns_types.specs.declared.job.JobKind.{JobKind}
use Rattle.ns_types.specs.Asking.Nodes.{same_client, may_become, calls_for_one, is_of_batch}
use Rattle.ns_types.specs.Placing.Wanted.{is_batch}
use Rattle.ns_types.specs.Settling.Making.{put_tenant}
use Rattle.ns_types.specs.State.Names.{Name, same_name, same_number}
use Rattle.ns_types.specs.State.Rows.{World, Tenant, allocation_at, is_held, is_live, is_run}
use Rattle.ns_types.specs.Wire.Words.{client_text}
use Rattle.ns_types.proofs.Lists.{not_both}
use Rattle.ns_types.proofs.Named.{names, one_name, numbers, one_number, same_name_is, same_name_refl, first_of_both, second_of_both}
use Rattle.ns_types.proofs.Settling.{KeepsRoom, live_in}
use Rattle.ns_types.proofs.TableRows.{get_put, get_other}
use Rattle.ns_types.proofs.Tables.{tied}
use Rattle.ns_types.proofs.Tests.{is_no, same_Some}
use Rattle.ns_laws.specs.Effects.{IsBatch, CallsForEvaluation, MakesNone}
use Rattle.ns_laws.proofs.Effect.Evaluations.{row_rests, settled_keeps, settled_number}
use Rattle.ns_laws.proofs.Effect.Rows.{settled_rows}

pub runs : (d : DesiredStatus) → is_run d ≡ true → d ≡ DesiredStatus.Run
runs DesiredStatus.Run e = refl
runs DesiredStatus.Stop e = not_both e refl
runs DesiredStatus.Evict e = not_both e refl

kind_of_batch : (k : JobKind) → is_batch k ≡ false → k ≢ JobKind.Batch
kind_of_batch k e is = not_both (ap is_batch is) e

kind_of_service : (k : JobKind) → (k ≡ JobKind.Batch → ⊥) → is_batch k ≡ false
kind_of_service JobKind.Service other = refl
kind_of_service JobKind.Batch other = absurd (other refl)

pub new_status : (a b : ClientStatus) → same_client a b ≡ false → a ≢ b
new_status a b e same = not_both (ap (λ b. same_client a b) (sym same) ∙ same_name_refl (client_text a)) e

module _ (t : Tenant) (a : Allocation) where
  abbrev job : Option Job
  job = get t.jobs a.job

  no_batch : is_of_batch t a ≡ false → IsBatch job → ⊥
  no_batch = by job
    where
      by : (o : Option Job) → option_map_or (λ job. is_batch job.document.kind) o false ≡ false → IsBatch o → ⊥
      by (Some j) e is = kind_of_batch j.document.kind e is
      by None e is = is

  no_batch_job : (IsBatch job → ⊥) → is_of_batch t a ≡ false
  no_batch_job = by job
    where
      by : (o : Option Job) → (IsBatch o → ⊥) → option_map_or (λ job. is_batch job.document.kind) o false ≡ false
      by (Some j) other = kind_of_service j.document.kind other
      by None other = refl

  pub calls : (client : ClientStatus) → a.client ≢ client → calls_for_one t a client ≡ true → CallsForEvaluation a client job
  calls ClientStatus.Failed other e = record { is_new = other; is_to_run = runs a.desired e; has_ended = inl refl }
  calls ClientStatus.Complete other e = record {
    is_new = other;
    is_to_run = runs a.desired (first_of_both (is_run a.desired) (not (is_of_batch t a)) e);
    has_ended = inr (refl, no_batch (is_no (is_of_batch t a) (second_of_both (is_run a.desired) (not (is_of_batch t a)) e)));
  }
  calls ClientStatus.Pending other e = not_both e refl
  calls ClientStatus.Running other e = not_both e refl
  calls ClientStatus.Lost other e = not_both e refl

  pub calls_not : (client : ClientStatus) → calls_for_one t a client ≡ false → CallsForEvaluation a client job → ⊥
  calls_not client e c = by c.has_ended
    where
      by : (client ≡ ClientStatus.Failed) ⊎ ((client ≡ ClientStatus.Complete) × (IsBatch job → ⊥)) → ⊥
      by (inl fails) = not_both (ap is_run c.is_to_run) (ap (calls_for_one t a) (sym fails) ∙ e)
      by (inr completes) = not_both {b = is_run a.desired && not (is_of_batch t a)}
          (λ i. is_run (c.is_to_run i) && not (no_batch_job completes.1 i)) (ap (calls_for_one t a) (sym completes.0) ∙ e)

-- where the evaluations are as they were, the end of the step makes none
pub makes_none : (w x : World) (ns : Name) (t u : Tenant) → get w.tenants ns ≡ Some t → u.evaluation_number ≡ t.evaluation_number →
    u.evaluations ≡ t.evaluations → MakesNone t (settled_rows w x ns u)
makes_none w x ns t u is number rows = record {
  number = settled_number w x ns u ∙ number;
  evaluations = λ n. settled_keeps w x ns t u n is (ap (λ rows. get rows n) rows);
}

-- ---- a report that ends no live allocation

pub evaluations_rest : (w x : World) (ns : Name) (t u : Tenant) → get w.tenants ns ≡ Some t → KeepsRoom w x → u.evaluations ≡ t.evaluations →
    (settled_rows w x ns u).evaluations ≡ t.evaluations
evaluations_rest w x ns t u is keeps rows = same_map numbers one_number _ _ (λ n. row_rests w x ns t u n is keeps (ap (λ rows. get rows n) rows))

-- one allocation of one namespace changes, and is live still if it was
pub keeps_one : (w : World) (ns : Name) (t : Tenant) (n : ℕ) (a b : Allocation) → get w.tenants ns ≡ Some t → get t.allocations n ≡ Some a →
    (is_live a ≡ true → is_live b ≡ true) → KeepsRoom w (put_tenant ns (record t { allocations = insert t.allocations n b }) w)
keeps_one w ns t n a b is at lives = record { pools = refl; quotas = refl; live = λ q u m c there row live. by q u m c there row live (same_name q ns) refl }
  where
    t' : Tenant
    t' = record t { allocations = insert t.allocations n b }

    w' : World
    w' = put_tenant ns t' w

    Lives : Name → ℕ → Type 0
    Lives q m = option_map_or is_live (allocation_at w' (q, m)) false ≡ true

    own : (m : ℕ) (c : Allocation) → get t.allocations m ≡ Some c → is_live c ≡ true → (e : Bool) → same_number m n ≡ e →
        (d : Allocation) × (get t'.allocations m ≡ Some d) × (is_live d ≡ true)
    own m c row live true e = (
      b,
      ap (get t'.allocations) (tied one_number m n e) ∙ get_put numbers one_number t.allocations n b,
      lives (ap is_live (same_Some a c (sym at ∙ ap (get t.allocations) (sym (tied one_number m n e)) ∙ row)) ∙ live),
    )
    own m c row live false e = (c, get_other numbers one_number t.allocations n b m e ∙ row, live)

    by : (q : Name) (u : Tenant) (m : ℕ) (c : Allocation) → get w.tenants q ≡ Some u → get u.allocations m ≡ Some c → is_live c ≡ true →
        (e : Bool) → same_name q ns ≡ e → option_map_or is_live (allocation_at w' (q, m)) false ≡ true
    by q u m c there row live true e =
        let same : q ≡ ns = same_name_is q ns e in
        let d = own m c (ap (λ (t : Tenant). get t.allocations m) (same_Some t u (sym is ∙ ap (get w.tenants) (sym same) ∙ there)) ∙ row) live
        (same_number m n) refl in
        live_in t' m d.0 (get w'.tenants q) (ap (get w'.tenants) same ∙ get_put names one_name w.tenants ns t') d.1 d.2
    by q u m c there row live false e = live_in u m c (get w'.tenants q) (get_other names one_name w.tenants ns t' q e ∙ there) row live

-- a report that calls for an evaluation ends a live allocation
pub calls_ends : (a : Allocation) (client : ClientStatus) (o : Option Job) → may_become a.client client ≡ true → CallsForEvaluation a client o →
    (is_live a ≡ true) × (is_live (record a { client = client }) ≡ false)
calls_ends a client o becomes c = ((λ i. is_run (c.is_to_run i) && held a.client client becomes i), ended c.has_ended)
  where
    held : (a b : ClientStatus) → may_become a b ≡ true → is_held a ≡ true
    held ClientStatus.Pending b e = refl
    held ClientStatus.Running b e = refl
    held ClientStatus.Complete b e = not_both e refl
    held ClientStatus.Failed b e = not_both e refl
    held ClientStatus.Lost b e = not_both e refl

    none_and : (b : Bool) → (b && false) ≡ false
    none_and true = refl
    none_and false = refl

    ended : (client ≡ ClientStatus.Failed) ⊎ ((client ≡ ClientStatus.Complete) × (IsBatch o → ⊥)) → (is_run a.desired && is_held client) ≡ false
    ended (inl fails) = ap (λ k. is_run a.desired && is_held k) fails ∙ none_and (is_run a.desired)
    ended (inr completes) = ap (λ k. is_run a.desired && is_held k) completes.0 ∙ none_and (is_run a.desired)
