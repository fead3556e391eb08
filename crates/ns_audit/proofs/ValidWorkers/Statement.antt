-- Of all that holds of a valid state, what is said of workers, and of the lists of ready evaluations and of plans.
use Rattle.std.specs.Prelude.{◌≡◌, ℕ, true, Some, IsTrue}
use Rattle.std.specs.FinMap.{get, contains_key}
use Rattle.ns_types.specs.declared.step.Step.{Step}
use Rattle.ns_types.specs.Working.Worker.{Worker}
use Rattle.ns_types.specs.State.Limits.{is_distinct}
use Rattle.ns_types.specs.State.Names.{Name, Key, has_key, same_key}
use Rattle.ns_types.specs.State.Rows.{State, World, Tenant}
use Rattle.ns_types.specs.Steps.{Answer, said, after, opening}
use Rattle.ns_types.specs.Validity.{IsSoundWorker, busy_with, jobs_at, same_found, IsReady, IsPlanned, IsValid}
use Rattle.ns_types.specs.Within.{IsGoodStep}

-- the workers of a namespace, and its busy evaluations
pub record IsManned (w : World) (ns : Name) (t : Tenant) : Type 0 where
  pub worker : (n : ℕ) (worker : Worker) → get t.workers n ≡ Some worker → IsSoundWorker w ns t n worker
  pub one_each : (m n : ℕ) (v x : Worker) → get t.workers m ≡ Some v → get t.workers n ≡ Some x →
      v.evaluation ≡ x.evaluation → m ≡ n
  pub one_busy : IsTrue (is_distinct same_found (jobs_at t (busy_with w ns t)))

pub record HasSoundWorkers (w : World) : Type 0 where
  pub tenant : (ns : Name) (t : Tenant) → get w.tenants ns ≡ Some t → IsManned w ns t
  pub one_row : (a b : Name) (s t : Tenant) (n : ℕ) → get w.tenants a ≡ Some s → get w.tenants b ≡ Some t
      → contains_key s.workers n ≡ true → contains_key t.workers n ≡ true → a ≡ b
  pub ready : (key : Key) → has_key w.ready key ≡ true → IsReady w key
  pub planned : (key : Key) → has_key w.plans key ≡ true → IsPlanned w key
  pub ready_once : IsTrue (is_distinct same_key w.ready)
  pub plans_once : IsTrue (is_distinct same_key w.plans)

-- Each step of a valid state leaves workers sound.
abbrev pub WorkersStep : Type 0
WorkersStep = (s s' : State) (step : Step) (answer : Answer) → IsValid s → IsGoodStep step →
    after step s ≡ said answer s' → HasSoundWorkers s'.world

-- They are sound at first.
abbrev pub WorkersOpening : Type 0
WorkersOpening = (secret : Name) → HasSoundWorkers (opening secret).world
