-- The answer of a call that makes any step of the model, and the state after it.
use Rattle.std.specs.Prelude.{◌≡◌, ◌⊎◌, ℕ, true, Some, None, Ok, Err}
use Rattle.ns_types.specs.declared.refusal.Refusal.{Refusal}
use Rattle.ns_types.specs.declared.snapshot.Snapshot.{Snapshot}
use Rattle.ns_types.specs.declared.step.Step.{Step}
use Rattle.ns_types.specs.State.Names.{Name}
use Rattle.ns_types.specs.State.Rows.{State, World}
use Rattle.ns_types.specs.Steps.{Answer, after, is_made, said}
use Rattle.ns_types.specs.Working.Looks.{InEnding, InTurn}
use Rattle.ns_types.specs.Working.Worker.{Worker}

-- The worker hands in the plan of the snapshot that it keeps, or finishes by it, and it is its turn to do so. The plan takes
-- memory before it is known whether it does anything.
pub data NeedsPlan (w : World) : Step → Type 0 where
  submit : (number : ℕ) (ns : Name) (worker : Worker) (kept : Snapshot) → InTurn w number ns worker →
      worker.kept ≡ Some kept → NeedsPlan w (Step.Submit number ns)
  finish : (number : ℕ) (ns : Name) (worker : Worker) (kept : Snapshot) → InEnding w number ns worker →
      worker.kept ≡ Some kept → NeedsPlan w (Step.Finish number ns)

-- A reply is the model's, and so is the new state. `Memory` means that no step was made; it comes only if the step would have
-- been made, or if it needs a plan. `NotEnabled` means that the call is out of turn, and made no step. Any other refusal is the
-- model's answer, which never is `Foreign`. A refusal leaves the state as it is.
abbrev pub MakesAny : Step → State → Answer → State → Type 0
MakesAny step s (Ok reply) s' = after step s ≡ said (Ok reply) s'
MakesAny step s (Err Refusal.Memory) s' = ((is_made (after step s) ≡ true) ⊎ NeedsPlan s.world step) × (s' ≡ s)
MakesAny step s (Err Refusal.NotEnabled) s' = (after step s ≡ None) × (s' ≡ s)
MakesAny step s (Err refusal) s' = (after step s ≡ said (Err refusal) s) × (s' ≡ s)
