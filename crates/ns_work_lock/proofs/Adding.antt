-- A call that makes a step adds one entry, for whose answer there was room, and any other adds none.
use Rattle.std.specs.Prelude.{◌≡◌, ◌+◌, ℕ, Bool, true, false, if◌then◌else◌, length, List, Option, Result, Some, None, Ok, Err, IfOk, OnErr}
use Rattle.std.proofs.Common.{refl, ap, sym, subst, ◌∙◌, arith, inl, inr, length-append, [], ◌∷◌, ◌++◌, append_assoc}
use Rattle.ns_types.specs.declared.refusal.Refusal.{Refusal}
use Rattle.ns_types.specs.declared.reply.Rendered.{Rendered}
use Rattle.ns_types.specs.declared.reply.Response.{Response}
use Rattle.ns_types.specs.declared.step.Step.{Step}
use Rattle.ns_types.specs.Steps.{Answer}
use Rattle.ns_types.proofs.Lists.{not_both}
use Rattle.ns_json.specs.Replies.{rendered}
use Rattle.ns_replies.specs.Laws.{may_change, row_of}
use Rattle.ns_replies.specs.Rooms.{AnswerRoom, HasRoom, room_of}
use Rattle.ns_replies.proofs.Made.{made_has_room}
use Rattle.ns_log.specs.declared.receipts.receipt.Receipt.{Receipt}
use Rattle.ns_work_log.specs.Logs.{History, next_place}
use Rattle.ns_work_log.specs.Noting.{Begins, is_answer}
use Rattle.ns_work_log.specs.Rotation.{IsRotated}
use Rattle.ns_log.specs.Segments.{Given}
use Rattle.ns_work_log.specs.Rendered.{LogsRendered, rendered_step}
use Rattle.ns_work_log.proofs.Adding.{Adds}
use Rattle.ns_work_lock.specs.Receiving.{Asks, LogsAsked, answered, count, receipt, receipt_of, received, response_of}

-- ---- one entry more, where one receipt is added

counts : (answer : Answer) (b : Bool) → is_answer answer ≡ b → count (rendered_step answer) ≡ (if b then 1 else 0)
counts answer true is = ap (λ (x : Bool). count (if x then Some (rendered answer) else None)) is
counts answer false is = ap (λ (x : Bool). count (if x then Some (rendered answer) else None)) is

pub adds_count : (step : Step) (old : History) (answer : Answer) (new : History) → Adds step old answer new →
    next_place new ≡ next_place old + count (rendered_step answer)
adds_count step old answer new (inl a) =
    let more = ap length a.1.noted.entry in
    omega (arith, more, a.1.noted.start, length-append old.log ((step, rendered answer) ∷ []), counts answer true a.0)
adds_count step old answer new (inr a) = let same = ap next_place a.1 in omega (arith, same, counts answer false a.0)

-- ---- and room for its answer

pub adds_room : (step : Step) (old : History) (answer : Answer) (new : History) (room : AnswerRoom) → may_change step ≡ true →
    room ≡ room_of step (row_of step old.state.world) → Adds step old answer new → IfOk answer (λ reply. HasRoom room reply.content)
adds_room step old (Ok reply) new room may is (inl a) =
    subst (λ (r : AnswerRoom). HasRoom r reply.content) (sym is) (made_has_room step old.state new.state reply may a.1.made)
adds_room step old (Ok reply) new room may is (inr a) = not_both refl a.0
adds_room step old (Err refusal) new room may is a = tt

-- ---- a step that a request asks for

pub asked_count : {A : Type 0} (step : Step) (old : History) (result : Result (Response A) Refusal) (new : History) →
    LogsAsked step old result new → next_place new ≡ next_place old + count (answered result)
asked_count step old (Ok response) new l =
    let more = ap length l.1.1.noted.entry in
    omega (arith, more, l.1.1.noted.start, length-append old.log ((step, rendered l.1.0) ∷ []))
asked_count step old (Err Refusal.LogFull) new l = let same = ap next_place l.1 in omega (arith, same)
asked_count step old (Err Refusal.Memory) new l = let same = ap next_place l.1 in omega (arith, same)
asked_count step old (Err refusal) new l = absurd l

pub refused_asked : (A : Type 0) (step : Step) (old : History) (refusal : Refusal) (new : History) →
    LogsRendered {A = A} step old (Err refusal) new → LogsAsked {A = A} step old (Err refusal) new
refused_asked A step old Refusal.LogFull new l = l
refused_asked A step old Refusal.Memory new l = l
refused_asked A step old refusal new l = absurd l

pub given_asked : {A : Type 0} (step : Step) (old : History) (given : Result (Rendered × Response A) Refusal) (new : History) →
    LogsRendered step old given new → LogsAsked step old (response_of given) new
given_asked step old (Ok given) new l = (l.0, (l.1.0, l.1.1, l.1.2.1))
given_asked {A = A} step old (Err refusal) new l = refused_asked A step old refusal new l

-- the receipt and the response are the same bytes
pub given_same : {A : Type 0} (step : Step) (old : History) (given : Result (Rendered × Response A) Refusal) (new : History) →
    LogsRendered step old given new → receipt_of given ≡ answered (response_of given)
given_same step old (Ok given) new l = ap Some (l.1.2.0 ∙ sym l.1.2.1)
given_same step old (Err refusal) new l = refl

pub received_length : (place : ℕ) (step : Step) (rendered : Option Rendered) (receipts : List Receipt) →
    length (received place step rendered receipts) ≡ length receipts + count rendered
received_length place step None receipts = omega arith
received_length place step (Some rendered) receipts =
    let more = length-append receipts (receipt place step rendered ∷ []) in omega (arith, more)

received_same : (place place' : ℕ) (step step' : Step) (r r' : Option Rendered) (receipts receipts' : List Receipt) →
    place ≡ place' → step ≡ step' → r ≡ r' → receipts ≡ receipts' → received place step r receipts ≡ received place' step' r' receipts'
received_same place place' step step' r r' receipts receipts' p s q l =
    ap (λ x. received x step r receipts) p ∙ ap (λ x. received place' x r receipts) s ∙ ap (λ x. received place' step' x receipts) q
    ∙ ap (received place' step' r') l

-- ---- a seat, whose first receipts are no longer in memory

received_behind : (past : List Receipt) (place : ℕ) (step : Step) (rendered : Option Rendered) (receipts : List Receipt) →
    past ++ received place step rendered receipts ≡ received place step rendered (past ++ receipts)
received_behind past place step None receipts = refl
received_behind past place step (Some rendered) receipts = sym (append_assoc past receipts (receipt place step rendered ∷ []))

-- what those in memory gain, the seat gains
pub seat_received : (past before mid after seat : List Receipt) (place place' : ℕ) (step step' : Step) (r r' : Option Rendered) →
    after ≡ received place step r mid → mid ≡ before → past ++ before ≡ seat → place ≡ place' → step ≡ step' → r ≡ r' →
    past ++ after ≡ received place' step' r' seat
seat_received past before mid after seat place place' step step' r r' is same view p s q =
    ap (λ xs. past ++ xs) is ∙ received_behind past place step r mid ∙
    received_same place place' step step' r r' (past ++ mid) seat p s q (ap (λ xs. past ++ xs) same ∙ view)

-- before the step
pub begin_asked : (A X : Type 0) (step : Step) (old : History) (refusal : Refusal) → Begins {X = X} (length old.log) old.limit (Err refusal) →
    LogsAsked {A = A} step old (Err refusal) old
begin_asked A X step old Refusal.LogFull b = (b, refl)
begin_asked A X step old Refusal.Memory b = (b, refl)
begin_asked A X step old refusal b = absurd b

pub asks : {A : Type 0} (step : Step) (place : ℕ) (old new : History) (result : Result (Response A) Refusal) (seat seat' : List Receipt) →
    LogsAsked step old result new → seat' ≡ received place step (answered result) seat → Asks step seat result seat'
asks step place old new (Ok response) seat seat' l same = (place, same)
asks step place old new (Err Refusal.LogFull) seat seat' l same = (same, inr refl)
asks step place old new (Err Refusal.Memory) seat seat' l same = (same, inl refl)
asks step place old new (Err refusal) seat seat' l same = absurd l

-- ---- a rotation, which adds none

pub rotated_counts : (result : Result Given Refusal) (old new : History) → IfOk result (λ segment. IsRotated old segment new) →
    OnErr result (new ≡ old) → next_place new ≡ next_place old
rotated_counts (Ok segment) old new rotated same =
    let start : new.start ≡ old.start + length old.log = rotated.start in
    let none : length new.log ≡ 0 = ap length rotated.log in
    omega arith
rotated_counts (Err refusal) old new rotated same = ap next_place same
