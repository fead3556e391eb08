-- The receipts that a call adds to a seat.
use Rattle.std.specs.Prelude.{◌≡◌, ◌⊎◌, ℕ, List, [], ◌∷◌, ◌++◌, Option, Some, None, Result, Ok, Err}
use Rattle.ns_types.specs.declared.refusal.Refusal.{Refusal}
use Rattle.ns_types.specs.declared.reply.Rendered.{Rendered}
use Rattle.ns_types.specs.declared.reply.Response.{Response}
use Rattle.ns_types.specs.declared.step.Step.{Step}
use Rattle.ns_types.specs.Steps.{Answer}
use Rattle.ns_types.specs.Wire.Responses.{rendered_of}
use Rattle.ns_json.specs.Replies.{rendered}
use Rattle.ns_log.specs.declared.receipts.receipt.Receipt.{Receipt}
use Rattle.ns_work_log.specs.Logs.{History, HasPlace, IsFull, IsLogged}

abbrev pub receipt : ℕ → Step → Rendered → Receipt
receipt place step rendered = record { place = place; step = step; rendered = rendered }

-- the receipts, and one more if a step was answered
abbrev pub received : ℕ → Step → Option Rendered → List Receipt → List Receipt
received place step None receipts = receipts
received place step (Some rendered) receipts = receipts ++ receipt place step rendered ∷ []

-- how many receipts are added
abbrev pub count : Option Rendered → ℕ
count None = 0
count (Some rendered) = 1

-- ---- a worker's call

-- a call for the step takes a plan
abbrev pub TakesPlan : Step → Type 0
TakesPlan (Step.Submit worker ns) = Unit {0}
TakesPlan (Step.Finish worker ns) = Unit {0}
TakesPlan _ = ⊥

-- A call made no step, and adds no receipt, if no memory was left, the log is full, the step is out of turn, or its plan is of
-- another snapshot. Every other call adds one receipt: it has some place, the step and the answer as bytes.
abbrev pub Receives : Step → List Receipt → Answer → List Receipt → Type 0
Receives step old (Err Refusal.Memory) new = new ≡ old
Receives step old (Err Refusal.LogFull) new = new ≡ old
Receives step old (Err Refusal.NotEnabled) new = new ≡ old
Receives step old (Err Refusal.Foreign) new = TakesPlan step × (new ≡ old)
Receives step old answer new = (place : ℕ) × (new ≡ old ++ receipt place step (rendered answer) ∷ [])

-- ---- a call for a step that a request asks for

-- The call adds one receipt: it has some place, the step and the bytes of the response. If no memory was left or the log is
-- full, the call adds none.
abbrev pub Asks : {A : Type 0} → Step → List Receipt → Result (Response A) Refusal → List Receipt → Type 0
Asks step old (Ok response) new = (place : ℕ) × (new ≡ old ++ receipt place step (rendered_of response) ∷ [])
Asks step old (Err refusal) new = (new ≡ old) × ((refusal ≡ Refusal.Memory) ⊎ (refusal ≡ Refusal.LogFull))

-- the bytes of the response, if there is one
abbrev pub answered : {A : Type 0} → Result (Response A) Refusal → Option Rendered
answered (Ok response) = Some (rendered_of response)
answered (Err refusal) = None

-- the receipt's bytes, of the two that a call for a step returns, if it made the step
abbrev pub receipt_of : {A : Type 0} → Result (Rendered × Response A) Refusal → Option Rendered
receipt_of (Ok given) = Some given.0
receipt_of (Err refusal) = None

-- the response, of the two that a call for a step returns
abbrev pub response_of : {A : Type 0} → Result (Rendered × Response A) Refusal → Result (Response A) Refusal
response_of (Ok given) = Ok given.1
response_of (Err refusal) = Err refusal

-- What the call does to the server: the step was made and logged, and the response is its answer; or nothing changed, because
-- the log is full, which is reported first, or no memory was left.
abbrev pub LogsAsked : {A : Type 0} → Step → History → Result (Response A) Refusal → History → Type 0
LogsAsked step old (Ok response) new =
    HasPlace old × ((answer : Answer) × IsLogged step old answer new × (rendered_of response ≡ rendered answer))
LogsAsked step old (Err Refusal.LogFull) new = IsFull old × (new ≡ old)
LogsAsked step old (Err Refusal.Memory) new = HasPlace old × (new ≡ old)
LogsAsked step old (Err _) new = ⊥
