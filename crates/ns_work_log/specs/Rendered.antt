-- Answers that are returned as bytes.
use Rattle.std.specs.Prelude.{◌≡◌, if◌then◌else◌, Option, Some, None, Result, Ok, Err}
use Rattle.ns_types.specs.declared.refusal.Refusal.{Refusal}
use Rattle.ns_types.specs.declared.reply.Rendered.{Rendered}
use Rattle.ns_types.specs.declared.reply.Response.{Response}
use Rattle.ns_types.specs.declared.step.Step.{Step}
use Rattle.ns_types.specs.Steps.{Answer}
use Rattle.ns_types.specs.Wire.Responses.{rendered_of}
use Rattle.ns_json.specs.Replies.{rendered}
use Rattle.ns_work_log.specs.Logs.{History, HasPlace, IsFull, IsLogged}
use Rattle.ns_work_log.specs.Noting.{is_answer}

-- the answer as bytes, if it is a step's
abbrev pub rendered_step : Answer → Option Rendered
rendered_step answer = if is_answer answer then Some (rendered answer) else None

-- the answer as bytes, for a receipt and as the response
abbrev pub IsGiven : {A : Type 0} → Answer → Rendered × Response A → Type 0
IsGiven answer given = (given.0 ≡ rendered answer) × (rendered_of given.1 ≡ rendered answer)

-- What a call for a step does that returns the answer as bytes. Either the step was made and logged, and both the receipt's
-- bytes and the response are its answer; or nothing changed, because the log is full, which is reported first, or no memory was
-- left.
abbrev pub LogsRendered : {A : Type 0} → Step → History → Result (Rendered × Response A) Refusal → History → Type 0
LogsRendered step old (Ok given) new =
    HasPlace old × ((answer : Answer) × IsLogged step old answer new × IsGiven answer given)
LogsRendered step old (Err Refusal.LogFull) new = IsFull old × (new ≡ old)
LogsRendered step old (Err Refusal.Memory) new = HasPlace old × (new ≡ old)
LogsRendered step old (Err _) new = ⊥
