-- Where no plan of the worker is applied.
use Rattle.std.specs.Prelude.{◌≡◌, ℕ, false, true, cond, ◌&&◌, Option, Some, None}
use Rattle.std.proofs.Common.{refl, ap, sym, ◌∙◌}
use Rattle.std.specs.Option.{option_and_then, option_map_or}
use Rattle.std.specs.FinMap.{get}
use Rattle.ns_types.specs.declared.evaluation.Evaluation.{Evaluation}
use Rattle.ns_types.specs.declared.snapshot.Snapshot.{Snapshot}
use Rattle.ns_types.specs.declared.worker.Phase.{Phase}
use Rattle.ns_types.specs.Placing.Plan.{plan}
use Rattle.ns_types.specs.Settling.Outcome.{NotEnabled, Outcome}
use Rattle.ns_types.specs.State.Names.{Name}
use Rattle.ns_types.specs.State.Rows.{Tenant, World, evaluation_at}
use Rattle.ns_types.specs.Working.Commit.{applied, apply, apply_for, commit}
use Rattle.ns_types.specs.Working.Looks.{worker_at}
use Rattle.ns_types.specs.Working.Queue.{is_served}
use Rattle.ns_types.specs.Working.Work.{is_submitted, planned_in, planned_of}
use Rattle.ns_types.specs.Working.Worker.{Worker}
use Rattle.ns_types.proofs.Lists.{not_both}
use Rattle.ns_types.proofs.Tests.{not_Some}
use Rattle.ns_broker.proofs.AtWork.{no_evaluation, no_turn, no_worker}

module _ (number : ℕ) (ns : Name) (w : World) where
  abbrev act : Tenant → Worker → Evaluation → Outcome World
  act t worker e = option_map_or (apply_for number ns w t worker e) worker.kept NotEnabled

  pub none_busy : worker_at w number ns ≡ None → apply number ns w ≡ NotEnabled
  unfolding apply
  none_busy is = no_worker number ns w act is

  pub none_there : get w.tenants ns ≡ None → apply number ns w ≡ NotEnabled
  none_there is = none_busy (ap (option_and_then (λ (t : Tenant). get t.workers number)) is)

  module _ (worker : Worker) (has : worker_at w number ns ≡ Some worker) where
    pub none_to_apply : evaluation_at w (ns, worker.evaluation) ≡ None → apply number ns w ≡ NotEnabled
    unfolding apply
    none_to_apply is = no_evaluation number ns w act worker has is

    pub out_of_turn : (is_submitted worker.phase && is_served w w.plans (ns, worker.evaluation)) ≡ false → apply number ns w ≡ NotEnabled
    unfolding apply
    out_of_turn off = no_turn number ns w act worker has (λ t e. by t e worker.kept)
      where
        by : (t : Tenant) (e : Evaluation) (o : Option Snapshot) → option_map_or (apply_for number ns w t worker e) o NotEnabled ≡ NotEnabled
        by t e None = refl
        by t e (Some kept) = ap (λ b. cond b (applied number ns worker e (commit kept (plan kept) w t)) NotEnabled) off

    pub none_planned : planned_of worker ≡ None → apply number ns w ≡ NotEnabled
    unfolding apply
    none_planned is = no_turn number ns w act worker has (λ t e. by t e worker.phase refl worker.kept refl)
      where
        late : (phase : Phase) → worker.phase ≡ phase → is_submitted phase ≡ false → (t : Tenant) (e : Evaluation) (o : Option Snapshot) →
            option_map_or (apply_for number ns w t worker e) o NotEnabled ≡ NotEnabled
        late phase at off t e None = refl
        late phase at off t e (Some kept) = ap (λ b. cond (b && is_served w w.plans (ns, worker.evaluation))
            (applied number ns worker e (commit kept (plan kept) w t)) NotEnabled) (ap is_submitted at ∙ off)

        by : (t : Tenant) (e : Evaluation) (phase : Phase) → worker.phase ≡ phase → (o : Option Snapshot) → worker.kept ≡ o →
            option_map_or (apply_for number ns w t worker e) o NotEnabled ≡ NotEnabled
        by t e phase at None keeps = refl
        by t e Phase.Took at (Some kept) keeps = late Phase.Took at refl t e (Some kept)
        by t e Phase.Snapped at (Some kept) keeps = late Phase.Snapped at refl t e (Some kept)
        by t e Phase.Submitted at (Some kept) keeps = absurd (not_Some kept (sym is ∙ (λ i. planned_in (at i) (keeps i))))
        by t e Phase.Applied at (Some kept) keeps = late Phase.Applied at refl t e (Some kept)
        by t e Phase.Dropped at (Some kept) keeps = late Phase.Dropped at refl t e (Some kept)

-- ---- a worker in turn

pub is_at : (phase : Phase) → is_submitted phase ≡ true → phase ≡ Phase.Submitted
is_at Phase.Took is = not_both is refl
is_at Phase.Snapped is = not_both is refl
is_at Phase.Submitted is = refl
is_at Phase.Applied is = not_both is refl
is_at Phase.Dropped is = not_both is refl

-- its plan is of the snapshot that it keeps
pub plan_kept : (worker : Worker) → worker.phase ≡ Phase.Submitted → planned_of worker ≡ worker.kept
plan_kept worker is = ap (λ phase. planned_in phase worker.kept) is
