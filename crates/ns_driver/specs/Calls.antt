-- What a worker's calls answer, and which state they leave.
use Rattle.std.specs.Prelude.{◌≡◌, ℕ, Some, None, Result, Ok, Err}
use Rattle.ns_types.specs.declared.refusal.Refusal.{Refusal}
use Rattle.ns_types.specs.declared.reply.Content.{Content}
use Rattle.ns_types.specs.declared.snapshot.Snapshot.{Snapshot}
use Rattle.ns_types.specs.declared.step.Step.{Step}
use Rattle.ns_types.specs.State.Names.{Name}
use Rattle.ns_types.specs.State.Rows.{State}
use Rattle.ns_types.specs.Steps.{Answer, Makes}
use Rattle.ns_types.specs.Working.Looks.{RefusesPlan, RefusesFinish}
use Rattle.ns_broker.specs.Snapping.{kept_at}

-- the answer to a worker that takes a snapshot: the number of its evaluation, which the snapshot has
abbrev pub snapped : Result Snapshot Refusal → Answer
snapped (Ok seen) = Ok (record { index = None; content = Content.Snapped seen.number })
snapped (Err refusal) = Err refusal

-- Submitting a plan of the snapshot that the worker keeps makes the model's step. Any other plan, and one that does
-- nothing, is refused, and the state stays. Want of memory comes last, where the step would have been made.
abbrev pub HandsIn : ℕ → Name → Snapshot → State → Answer → State → Type 0
HandsIn worker ns planned s (Ok reply) s' =
    (kept_at s.world worker ns ≡ Some planned) × Makes (Step.Submit worker ns) s (Ok reply) s'
HandsIn worker ns planned s (Err Refusal.Memory) s' =
    (kept_at s.world worker ns ≡ Some planned) × Makes (Step.Submit worker ns) s (Err Refusal.Memory) s'
HandsIn worker ns planned s (Err refusal) s' = RefusesPlan s.world worker ns planned refusal × (s' ≡ s)

-- Finishing with the plan of the snapshot that the worker keeps ends its evaluation, unless a counter would pass its
-- bound or there is no memory. Any other plan, and a worker that may not finish, is refused, and the state stays.
abbrev pub FinishesBy : ℕ → Name → Snapshot → State → Answer → State → Type 0
FinishesBy worker ns planned s (Ok reply) s' =
    (kept_at s.world worker ns ≡ Some planned) × Makes (Step.Finish worker ns) s (Ok reply) s'
FinishesBy worker ns planned s (Err Refusal.Memory) s' =
    (kept_at s.world worker ns ≡ Some planned) × Makes (Step.Finish worker ns) s (Err Refusal.Memory) s'
FinishesBy worker ns planned s (Err Refusal.Full) s' =
    (kept_at s.world worker ns ≡ Some planned) × Makes (Step.Finish worker ns) s (Err Refusal.Full) s'
FinishesBy worker ns planned s (Err refusal) s' = RefusesFinish s.world worker ns planned refusal × (s' ≡ s)
