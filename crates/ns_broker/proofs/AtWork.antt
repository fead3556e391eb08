-- What a worker does with its evaluation.
use Rattle.std.specs.Prelude.{◌≡◌, ℕ, Option, Some, None}
use Rattle.std.proofs.Common.{refl, ap, ◌∙◌}
use Rattle.std.specs.Option.{option_and_then, option_map_or}
use Rattle.std.specs.FinMap.{get}
use Rattle.ns_types.specs.declared.evaluation.Evaluation.{Evaluation}
use Rattle.ns_types.specs.Working.Worker.{Worker}
use Rattle.ns_types.proofs.Tests.{not_Some}
use Rattle.ns_types.specs.Settling.Outcome.{Outcome, NotEnabled}
use Rattle.ns_types.specs.State.Names.{Name}
use Rattle.ns_types.specs.State.Rows.{World, Tenant, evaluation_at}
use Rattle.ns_types.specs.Working.Looks.{worker_at}
use Rattle.ns_types.specs.Working.Work.{at_work}

module _ (number : ℕ) (ns : Name) (w : World) where
  abbrev with_evaluation : (Tenant → Worker → Evaluation → Outcome World) → Tenant → Worker → Outcome World
  with_evaluation act t worker = option_map_or (act t worker) (get t.evaluations worker.evaluation) NotEnabled

  abbrev in_tenant : (Tenant → Worker → Evaluation → Outcome World) → Tenant → Outcome World
  in_tenant act t = option_map_or (with_evaluation act t) (get t.workers number) NotEnabled

  pub no_worker : (act : Tenant → Worker → Evaluation → Outcome World) → worker_at w number ns ≡ None → at_work number ns w act ≡ NotEnabled
  no_worker act is = by (get w.tenants ns) is
    where
      by : (r : Option Tenant) → option_and_then (λ t. get t.workers number) r ≡ None → option_map_or (in_tenant act) r NotEnabled ≡ NotEnabled
      by None is = refl
      by (Some t) is = ap (λ o. option_map_or (with_evaluation act t) o NotEnabled) is

  pub no_evaluation : (act : Tenant → Worker → Evaluation → Outcome World) (worker : Worker) → worker_at w number ns ≡ Some worker →
      evaluation_at w (ns, worker.evaluation) ≡ None → at_work number ns w act ≡ NotEnabled
  no_evaluation act worker has is = by (get w.tenants ns) has is
    where
      by : (r : Option Tenant) → option_and_then (λ t. get t.workers number) r ≡ Some worker →
          option_and_then (λ t. get t.evaluations worker.evaluation) r ≡ None → option_map_or (in_tenant act) r NotEnabled ≡ NotEnabled
      by None has is = refl
      by (Some t) has is = ap (λ o. option_map_or (with_evaluation act t) o NotEnabled) has ∙ ap (λ o. option_map_or (act t worker) o NotEnabled) is

  -- where it does nothing with any evaluation
  pub no_turn : (act : Tenant → Worker → Evaluation → Outcome World) (worker : Worker) → worker_at w number ns ≡ Some worker →
      ((t : Tenant) (e : Evaluation) → act t worker e ≡ NotEnabled) → at_work number ns w act ≡ NotEnabled
  no_turn act worker has off = by (get w.tenants ns) has
    where
      inner : (t : Tenant) (o : Option Evaluation) → option_map_or (act t worker) o NotEnabled ≡ NotEnabled
      inner t None = refl
      inner t (Some e) = off t e

      by : (r : Option Tenant) → option_and_then (λ t. get t.workers number) r ≡ Some worker → option_map_or (in_tenant act) r NotEnabled ≡ NotEnabled
      by None has = refl
      by (Some t) has = ap (λ o. option_map_or (with_evaluation act t) o NotEnabled) has ∙ inner t (get t.evaluations worker.evaluation)

  module _ (worker : Worker) (e : Evaluation) (has : worker_at w number ns ≡ Some worker) (at : evaluation_at w (ns, worker.evaluation) ≡ Some e) where
    -- what it comes to in the namespace, which is there
    pub works : (act : Tenant → Worker → Evaluation → Outcome World) (outcome : Outcome World) →
        ((t : Tenant) → get w.tenants ns ≡ Some t → act t worker e ≡ outcome) → at_work number ns w act ≡ outcome
    works act outcome goes = by (get w.tenants ns) refl has at
      where
        by : (r : Option Tenant) → get w.tenants ns ≡ r → option_and_then (λ t. get t.workers number) r ≡ Some worker →
            option_and_then (λ t. get t.evaluations worker.evaluation) r ≡ Some e → option_map_or (in_tenant act) r NotEnabled ≡ outcome
        by None is has at = absurd (not_Some worker has)
        by (Some t) is has at = ap (λ o. option_map_or (with_evaluation act t) o NotEnabled) has ∙
            ap (λ o. option_map_or (act t worker) o NotEnabled) at ∙ goes t is
