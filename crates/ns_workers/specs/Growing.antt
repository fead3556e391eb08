-- How the receipts of a worker's thread, and of the applier's, grow.
use Rattle.std.specs.Prelude.{◌≡◌, ℕ, List, ◌++◌, All}
use Rattle.ns_types.specs.declared.step.Step.{Step}
use Rattle.ns_log.specs.declared.receipts.receipt.Receipt.{Receipt}
use Rattle.ns_work_lock.specs.declared.changes.Planner.{Planner}

-- a step of the worker of that number
abbrev pub IsOfWorker : ℕ → Step → Type 0
IsOfWorker number (Step.Dequeue worker ns n) = worker ≡ number
IsOfWorker number (Step.Snap worker ns) = worker ≡ number
IsOfWorker number (Step.Submit worker ns) = worker ≡ number
IsOfWorker number (Step.Finish worker ns) = worker ≡ number
IsOfWorker number (Step.Nack worker ns) = worker ≡ number
IsOfWorker number _ = ⊥

-- the applier's step
abbrev pub IsApply : Step → Type 0
IsApply (Step.Apply worker ns) = Unit {0}
IsApply _ = ⊥

-- the Apply of this planner's plan
abbrev pub IsApplyOf : Planner → Step → Type 0
IsApplyOf planner step = step ≡ Step.Apply planner.worker planner.namespace

-- The receipts stay, in their order, and behind them come receipts of the thread's own steps.
pub record Grows (IsOwn : Step → Type 0) (old new : List Receipt) : Type 0 where
  pub more : List Receipt
  pub is_grown : new ≡ old ++ more
  pub are_own : All (λ receipt. IsOwn receipt.step) more
