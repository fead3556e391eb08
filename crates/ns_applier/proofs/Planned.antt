-- A worker in turn, and what its step comes to.
use Rattle.std.specs.Prelude.{◌≡◌, ℕ, true, cond, not, ◌&&◌, Some}
use Rattle.std.proofs.Common.{ap, sym, ◌∙◌}
use Rattle.std.specs.Option.{option_and_then}
use Rattle.std.specs.FinMap.{get}
use Rattle.ns_types.specs.declared.evaluation.Evaluation.{Evaluation}
use Rattle.ns_types.specs.declared.refusal.Refusal.{Refusal}
use Rattle.ns_types.specs.declared.snapshot.Snapshot.{Snapshot}
use Rattle.ns_types.specs.declared.worker.Phase.{Phase}
use Rattle.ns_types.specs.Placing.Plan.{plan}
use Rattle.ns_types.specs.Settling.Outcome.{NotEnabled, Outcome, Refused}
use Rattle.ns_types.specs.State.Names.{Name}
use Rattle.ns_types.specs.State.Rows.{Tenant, World, evaluation_at}
use Rattle.ns_types.specs.Validity.{IsSound, IsSoundSnapshot}
use Rattle.ns_types.specs.Working.Commit.{Applied, applied, apply, commit}
use Rattle.ns_types.specs.Working.Looks.{worker_at}
use Rattle.ns_types.specs.Working.Queue.{is_served}
use Rattle.ns_types.specs.Working.Work.{is_submitted, planned_of}
use Rattle.ns_types.specs.Working.Worker.{Worker}
use Rattle.ns_types.proofs.Named.{first_of_both}
use Rattle.ns_applier.proofs.Judged.{apply_is_judged}
use Rattle.ns_change.specs.Prepared.{bounded}
use Rattle.ns_applier.specs.HeadroomApplying.{apply_passes}
use Rattle.ns_applier.specs.Judging.{doing}
use Rattle.ns_plan.specs.Looks.{IsOnFewNodes}
use Rattle.ns_plan.proofs.Nodes.{sound_is_on_few_nodes}
use Rattle.ns_applier.specs.Applying.{comes_to}
use Rattle.ns_applier.proofs.Turns.{is_at, plan_kept}

module _ (w : World) (sound : IsSound w) (number : ℕ) (ns : Name) (t : Tenant) (worker : Worker) (kept : Snapshot) (there : get w.tenants ns ≡ Some t)
    (has : worker_at w number ns ≡ Some worker) (planned : planned_of worker ≡ Some kept)
    (turn : (is_submitted worker.phase && is_served w w.plans (ns, worker.evaluation)) ≡ true) where
  row : get t.workers number ≡ Some worker
  row = ap (option_and_then (λ (t : Tenant). get t.workers number)) (sym there) ∙ has

  pub in_phase : worker.phase ≡ Phase.Submitted
  in_phase = is_at worker.phase (first_of_both (is_submitted worker.phase) _ turn)

  keeps : worker.kept ≡ Some kept
  keeps = sym (plan_kept worker in_phase) ∙ planned

  snapshot : IsSoundSnapshot w ns t worker kept
  snapshot = ((sound.tenant ns t there).worker number worker row).snapshot kept keeps

  pub same_namespace : kept.namespace ≡ ns
  same_namespace = snapshot.namespace

  pub few : IsOnFewNodes kept (plan kept)
  few = sound_is_on_few_nodes w ns t worker kept snapshot

  module _ (e : Evaluation) (at : evaluation_at w (ns, worker.evaluation) ≡ Some e) where
    its_row : get t.evaluations worker.evaluation ≡ Some e
    its_row = ap (option_and_then (λ (t : Tenant). get t.evaluations worker.evaluation)) (sym there) ∙ at

    abbrev a : Applied
    a = commit kept (plan kept) w t

    abbrev named : Name → Outcome World
    named n = cond (not a.checked.is_refused && apply_passes w kept (doing w kept (plan kept) a.checked.committed)) (Refused Refusal.Full)
        (applied number n worker e a)

    pub bounded_is : bounded w (apply number ns w) ≡ comes_to number w t worker e kept (plan kept)
    bounded_is = apply_is_judged w number ns t worker e kept (record { sound = sound; tenant = there; worker_row = row; keeps = keeps }) its_row
        ∙ ap (λ b. cond (not b) NotEnabled (named ns)) turn
        ∙ ap named (sym same_namespace)
