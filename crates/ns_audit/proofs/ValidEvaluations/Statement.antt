-- Of all that holds of a valid state, what is said of evaluations and of the list of blocked ones.
use Rattle.std.specs.Prelude.{◌≡◌, ℕ, true, Some, IsTrue, is_some}
use Rattle.std.specs.FinMap.{get}
use Rattle.ns_types.specs.declared.evaluation.Evaluation.{Evaluation}
use Rattle.ns_types.specs.declared.name.NameKind.TheVariants as NameKind
use Rattle.ns_types.specs.declared.step.Step.{Step}
use Rattle.ns_types.specs.State.Limits.{is_distinct}
use Rattle.ns_types.specs.State.Name.{is_name}
use Rattle.ns_types.specs.State.Names.{Name, Key, has_key, same_key, same_name}
use Rattle.ns_types.specs.State.Rows.{State, World, Tenant, is_blocked, evaluation_at}
use Rattle.ns_types.specs.Steps.{Answer, said, after, opening}
use Rattle.ns_types.specs.Validity.{IsSoundEvaluation, IsValid, blocked_jobs}
use Rattle.ns_types.specs.Within.{IsGoodStep}

pub record IsSoundInEvaluations (w : World) : Type 0 where
  pub evaluation : (ns : Name) (t : Tenant) → get w.tenants ns ≡ Some t → (n : ℕ) (e : Evaluation) →
      get t.evaluations n ≡ Some e → IsSoundEvaluation w t n e
  pub one_blocked : (ns : Name) (t : Tenant) → get w.tenants ns ≡ Some t →
      IsTrue (is_distinct same_name (blocked_jobs t))
  pub blocked_listed : (ns : Name) (t : Tenant) → get w.tenants ns ≡ Some t → (n : ℕ) (e : Evaluation) →
      get t.evaluations n ≡ Some e → has_key w.blocked (ns, n) ≡ is_blocked e.status
  pub blocked : (key : Key) → has_key w.blocked key ≡ true → IsTrue (is_some (evaluation_at w key))
  pub blocked_once : IsTrue (is_distinct same_key w.blocked)

-- Each step keeps that.
abbrev pub EvaluationsStep : Type 0
EvaluationsStep = (s s' : State) (step : Step) (answer : Answer) → IsValid s → IsGoodStep step →
    after step s ≡ said answer s' → IsSoundInEvaluations s'.world

-- The opening state has it.
abbrev pub EvaluationsOpening : Type 0
EvaluationsOpening = (secret : Name) → IsTrue (is_name NameKind.Secret secret) →
    IsSoundInEvaluations (opening secret).world
