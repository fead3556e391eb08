-- Answers that are handed out as bytes, and what was noted with them.
use Rattle.std.specs.Prelude.{◌≡◌, ◌<◌, ◌⊎◌, ℕ, Bool, true, false, if◌then◌else◌, List, [], ◌∷◌, ◌++◌, length, Some, None}
use Rattle.std.specs.Prelude.{Result, Ok, Err, IfErr, IfOk, OnErr, OnOk}
use Rattle.std.proofs.Common.{refl, ap, sym, subst, ◌∙◌, inl, inr}
use Rattle.ns_types.specs.declared.refusal.Refusal.{Refusal}
use Rattle.ns_types.specs.declared.reply.Rendered.{Rendered}
use Rattle.ns_types.specs.declared.reply.Reply.{Reply}
use Rattle.ns_types.specs.declared.reply.Response.{Response}
use Rattle.ns_types.specs.declared.step.Step.{Step}
use Rattle.ns_types.specs.State.Names.{Name}
use Rattle.ns_types.specs.State.Rows.{State}
use Rattle.ns_types.specs.Steps.{Answer, Makes}
use Rattle.ns_types.specs.Wire.Refused.{refused}
use Rattle.ns_types.proofs.Lists.{not_both}
use Rattle.ns_audit.specs.Refusals.{is_of_steps}
use Rattle.ns_json.specs.Replies.{Entry, IsKept, rendered}
use Rattle.ns_work_log.specs.Logs.{History, HasPlace, Logs}
use Rattle.ns_work_log.specs.Noting.{is_answer, noted}
use Rattle.ns_work_log.specs.Rendered.{IsGiven, LogsRendered, rendered_step}
use Rattle.ns_work_log.proofs.Adding.{Adds, logs_adds}
use Rattle.ns_work_log.proofs.Logged.{IsKeptWithin, after_call, call_keeps, call_logs, unchanged, want_keeps}

-- ---- the bytes of an answer

pub rendered_refusal : (answer : Answer) (refusal : Refusal) (r : Rendered) → answer ≡ Err refusal → is_of_steps refusal ≡ true →
    r ≡ refused refusal → Some r ≡ rendered_step answer
unfolding rendered
rendered_refusal answer refusal r is of same =
    ap Some same ∙ sym (ap rendered_step is ∙ ap (λ (b : Bool). if b then Some (refused refusal) else None) of)

-- of a refusal
pub shown_refused : (answer : Answer) (refusal : Refusal) → answer ≡ Err refusal → refused refusal ≡ rendered answer
unfolding rendered
shown_refused answer refusal is = sym (ap rendered is)

pub refused_shown : {E : Type 0} (result : Result Rendered E) (answer : Answer) (refusal : Refusal) → answer ≡ Err refusal →
    IfOk result (λ r. r ≡ refused refusal) → IfOk result (λ r. r ≡ rendered answer)
refused_shown (Ok r) answer refusal is same = same ∙ shown_refused answer refusal is
refused_shown (Err e) answer refusal is same = tt

-- of a reply
pub shown_done : (answer : Answer) (reply : Reply) (shown : Rendered) (body : Name) → answer ≡ Ok reply → shown ≡ rendered answer →
    body ≡ shown.body → record { status = 200; index = shown.index; body = body } ≡ rendered answer
unfolding rendered
shown_done answer reply shown body is same bytes =
    ap (λ (b : Name). record { status = 200; index = shown.index; body = b }) bytes
    ∙ ap (λ (r : Rendered). record { status = 200; index = r.index; body = r.body }) (same ∙ ap rendered is) ∙ sym (ap rendered is)

-- ---- what was noted

pub noted_shown : (step : Step) (answer : Answer) (log log' : List Entry) (r : Rendered) → is_answer answer ≡ true → r ≡ rendered answer →
    log' ≡ log ++ (step, r) ∷ [] → log' ≡ noted step answer log
noted_shown step answer log log' r is same more = more ∙ ap (λ x. log ++ (step, x) ∷ []) same
    ∙ sym (ap (λ (b : Bool). if b then log ++ (step, rendered answer) ∷ [] else log) is)

-- ---- what a call did

ok_logs : {A : Type 0} (step : Step) (old : History) (answer : Answer) (new : History) (given : Rendered × Response A) → HasPlace old →
    Adds step old answer new → is_answer answer ≡ true → IsGiven answer given → LogsRendered step old (Ok given) new
ok_logs step old answer new given place (inl a) is g = (place, (answer, a.1, g))
ok_logs step old answer new given place (inr a) is g = not_both is a.0

err_logs : (A : Type 0) (step : Step) (old : History) (answer : Answer) (new : History) (refusal : Refusal) → HasPlace old →
    Adds step old answer new → is_answer answer ≡ false → refusal ≡ Refusal.Memory → LogsRendered {A = A} step old (Err refusal) new
err_logs A step old answer new refusal place (inl a) none wants = not_both a.0 none
err_logs A step old answer new refusal place (inr a) none wants =
    subst (λ (r : Refusal). LogsRendered {A = A} step old (Err r) new) (sym wants) (place, a.1)

gives_logs : {A : Type 0} (step : Step) (old : History) (answer : Answer) (new : History) (given : Result (Rendered × Response A) Refusal) →
    HasPlace old → Adds step old answer new → OnOk given (is_answer answer ≡ true) → IfOk given (λ g. IsGiven answer g) →
    OnErr given (is_answer answer ≡ false) → IfErr given (λ r. r ≡ Refusal.Memory) → LogsRendered step old given new
gives_logs step old answer new (Ok given) place a is g none wants = ok_logs step old answer new given place a is g
gives_logs {A} step old answer new (Err refusal) place a is g none wants = err_logs A step old answer new refusal place a none wants

pub call_gives : {A : Type 0} (old now : History) (log' : List Entry) (step step' : Step) (answer : Answer) (s' : State)
    (given : Result (Rendered × Response A) Refusal) → now ≡ old → HasPlace old → Makes step old.state answer s' → step' ≡ step →
    log' ≡ noted step' answer old.log → OnOk given (is_answer answer ≡ true) → IfOk given (λ g. IsGiven answer g) →
    OnErr given (is_answer answer ≡ false) → IfErr given (λ r. r ≡ Refusal.Memory) → LogsRendered step now given (after_call old log' s')
call_gives old now log' step step' answer s' given is place m same noted_so ok g none wants =
    gives_logs step now answer (after_call old log' s') given (subst HasPlace (sym is) place)
    (logs_adds step now answer (after_call old log' s') (call_logs old now log' step step' answer s' is place m same noted_so)) ok g none wants

-- ---- a read, which leaves the state as it is

want_gives : (A : Type 0) (old now : History) (log' : List Entry) (step : Step) (s' : State) → now ≡ old → HasPlace old →
    log' ≡ old.log → s' ≡ old.state → LogsRendered {A = A} step now (Err Refusal.Memory) (after_call old log' s')
want_gives A old now log' step s' is place same rests =
    subst (λ (h : History). LogsRendered {A = A} step h (Err Refusal.Memory) (after_call old log' s')) (sym is)
    (place, ap (λ entries. after_call old entries s') same ∙ unchanged old s' rests)

pub read_keeps : {X : Type 0} (given : Result X Refusal) (base : State) (limit : ℕ) (log mid log' : List Entry) (s s' : State) (step : Step)
    (answer : Answer) → IsKept base log s → length log < limit → Makes step s answer s' → s' ≡ s → mid ≡ log →
    OnOk given (log' ≡ noted step answer mid) → OnErr given (log' ≡ mid) → IsKeptWithin base limit log' s'
read_keeps (Ok x) base limit log mid log' s s' step answer k place m rests same more none =
    call_keeps base limit log log' s step step answer s' k place m refl (more ∙ ap (noted step answer) same)
read_keeps (Err e) base limit log mid log' s s' step answer k place m rests same more none =
    want_keeps base limit log log' s s' k place (none ∙ same) rests

pub read_gives : {A : Type 0} (given : Result (Rendered × Response A) Refusal) (old now : History) (mid log' : List Entry) (step : Step)
    (answer : Answer) (s' : State) → now ≡ old → HasPlace old → Makes step old.state answer s' → s' ≡ old.state → mid ≡ old.log →
    OnOk given (is_answer answer ≡ true) → IfOk given (λ g. IsGiven answer g) → OnOk given (log' ≡ noted step answer mid) →
    OnErr given (log' ≡ mid) → IfErr given (λ r. r ≡ Refusal.Memory) → LogsRendered step now given (after_call old log' s')
read_gives (Ok g) old now mid log' step answer s' is place m rests same ok gives more none wants =
    call_gives old now log' step step answer s' (Ok g) is place m refl (more ∙ ap (noted step answer) same) ok gives tt tt
read_gives {A} (Err r) old now mid log' step answer s' is place m rests same ok gives more none wants =
    subst (λ (x : Refusal). LogsRendered {A = A} step now (Err x) (after_call old log' s')) (sym wants)
    (want_gives A old now log' step s' is place (none ∙ same) rests)
