-- A call that makes a step or none, and notes it, keeps the log a run and says what it did.
use Rattle.std.specs.Prelude.{◌≡◌, ◌<◌, ◌≤◌, ℕ, Bool, true, false, if◌then◌else◌, List, [], ◌∷◌, ◌++◌, length, map, Ok, Err, Result, IfOk, OnOk}
use Rattle.std.proofs.Common.{refl, ap, sym, subst, ◌∙◌, arith, length-append}
use Rattle.std.proofs.lemmas.List.{map-append}
use Rattle.ns_types.specs.declared.refusal.Refusal.{Refusal}
use Rattle.ns_types.specs.declared.reply.Rendered.{Rendered}
use Rattle.ns_types.specs.declared.step.Step.{Step}
use Rattle.ns_types.specs.Wire.Refused.{refused}
use Rattle.ns_types.specs.State.Rows.{State}
use Rattle.ns_types.specs.Steps.{Answer, Makes, Run, after, said}
use Rattle.ns_types.proofs.Lists.{not_both}
use Rattle.ns_audit.specs.Refusals.{is_of_steps}
use Rattle.ns_audit.proofs.RefusalLemmas.{steps_refuse_so}
use Rattle.ns_json.specs.Replies.{Entry, IsKept, rendered}
use Rattle.ns_steps.proofs.Runs.{run_then}
use Rattle.ns_work_log.specs.Logs.{History, HasPlace, IsLogged, Logs}
use Rattle.ns_work_log.specs.Noting.{noted}

-- ---- the log

kept_then : (base s s' : State) (log : List Entry) (step : Step) (answer : Answer) → IsKept base log s → after step s ≡ said answer s' →
    IsKept base (log ++ (step, rendered answer) ∷ []) s'
kept_then base s s' log step answer k made = record {
  answers = k.answers ++ answer ∷ [];
  run = subst (λ steps. Run base steps (k.answers ++ answer ∷ []) s') (sym (map-append (λ e. e.0) log ((step, rendered answer) ∷ [])))
      (run_then base s s' (map (λ e. e.0) log) k.answers step answer k.run made);
  rendering = map-append rendered k.answers (answer ∷ []) ∙ ap (λ xs. xs ++ rendered answer ∷ []) k.rendering
      ∙ sym (map-append (λ e. e.1) log ((step, rendered answer) ∷ []));
}

-- within its limit
abbrev pub IsKeptWithin : State → ℕ → List Entry → State → Type 0
IsKeptWithin base limit log s = IsKept base log s × (length log ≤ limit)

within_then : (base s s' : State) (limit : ℕ) (log : List Entry) (step : Step) (answer : Answer) → IsKept base log s → length log < limit →
    after step s ≡ said answer s' → IsKeptWithin base limit (log ++ (step, rendered answer) ∷ []) s'
within_then base s s' limit log step answer k place made =
    (kept_then base s s' log step answer k made, omega (arith, length-append log ((step, rendered answer) ∷ [])))

pub within_same : (base s s' : State) (limit : ℕ) (log : List Entry) → IsKept base log s → length log < limit → s' ≡ s → IsKeptWithin base limit log s'
within_same base s s' limit log k place same = (subst (λ x. IsKept base log x) (sym same) k, omega arith)

-- the step was refused, and leads to the state that is left
pub refused_to : (step : Step) (s s' : State) (refusal : Refusal) → (after step s ≡ said (Err refusal) s) × (s' ≡ s) →
    after step s ≡ said (Err refusal) s'
refused_to step s s' refusal m = m.0 ∙ ap (said (Err refusal)) (sym m.1)

-- no step is refused so
pub never : (step : Step) (s : State) (refusal : Refusal) → is_of_steps refusal ≡ false → (after step s ≡ said (Err refusal) s → ⊥)
never step s refusal none made = not_both (steps_refuse_so step s s refusal made) none

-- ---- a call keeps the history

pub kept_by : (base : State) (limit : ℕ) (log : List Entry) (s : State) (step : Step) (answer : Answer) (s' : State) → IsKept base log s →
    length log < limit → Makes step s answer s' → IsKeptWithin base limit (noted step answer log) s'
kept_by base limit log s step (Ok reply) s' k place m = within_then base s s' limit log step (Ok reply) k place m
kept_by base limit log s step (Err Refusal.Denied) s' k place m =
    within_then base s s' limit log step (Err Refusal.Denied) k place (refused_to step s s' Refusal.Denied m)
kept_by base limit log s step (Err Refusal.NotFound) s' k place m =
    within_then base s s' limit log step (Err Refusal.NotFound) k place (refused_to step s s' Refusal.NotFound m)
kept_by base limit log s step (Err (Refusal.BadField member)) s' k place m =
    within_then base s s' limit log step (Err (Refusal.BadField member)) k place (refused_to step s s' (Refusal.BadField member) m)
kept_by base limit log s step (Err Refusal.PoolNotPermitted) s' k place m =
    within_then base s s' limit log step (Err Refusal.PoolNotPermitted) k place (refused_to step s s' Refusal.PoolNotPermitted m)
kept_by base limit log s step (Err Refusal.Conflict) s' k place m =
    within_then base s s' limit log step (Err Refusal.Conflict) k place (refused_to step s s' Refusal.Conflict m)
kept_by base limit log s step (Err Refusal.InUse) s' k place m =
    within_then base s s' limit log step (Err Refusal.InUse) k place (refused_to step s s' Refusal.InUse m)
kept_by base limit log s step (Err Refusal.Full) s' k place m =
    within_then base s s' limit log step (Err Refusal.Full) k place (refused_to step s s' Refusal.Full m)
kept_by base limit log s step (Err Refusal.Memory) s' k place m = within_same base s s' limit log k place m.1
kept_by base limit log s step (Err Refusal.NotEnabled) s' k place m = within_same base s s' limit log k place m.1
kept_by base limit log s step (Err Refusal.BadHead) s' k place m = within_same base s s' limit log k place m.1
kept_by base limit log s step (Err Refusal.BadJson) s' k place m = within_same base s s' limit log k place m.1
kept_by base limit log s step (Err Refusal.BadMethod) s' k place m = within_same base s s' limit log k place m.1
kept_by base limit log s step (Err Refusal.NeedLength) s' k place m = within_same base s s' limit log k place m.1
kept_by base limit log s step (Err Refusal.TooLarge) s' k place m = within_same base s s' limit log k place m.1
kept_by base limit log s step (Err Refusal.NotServed) s' k place m = within_same base s s' limit log k place m.1
kept_by base limit log s step (Err Refusal.LogFull) s' k place m = within_same base s s' limit log k place m.1
kept_by base limit log s step (Err Refusal.Foreign) s' k place m = within_same base s s' limit log k place m.1

-- ---- and says what it did

abbrev pub history : State → ℕ → List Entry → State → ℕ → History
history base start log s limit = record { base = base; start = start; log = log; state = s; limit = limit }

abbrev pub after_call : History → List Entry → State → History
after_call old log s = record { base = old.base; start = old.start; log = log; state = s; limit = old.limit }

pub logged : (old : History) (step : Step) (answer : Answer) (s' : State) → after step old.state ≡ said answer s' →
    IsLogged step old answer (after_call old (old.log ++ (step, rendered answer) ∷ []) s')
logged old step answer s' made = record { made = made; noted = record { entry = refl; base = refl; start = refl; limit = refl } }

pub unchanged : (old : History) (s' : State) → s' ≡ old.state → after_call old old.log s' ≡ old
unchanged old s' same = ap (after_call old old.log) same

pub logs_by : (old : History) (step : Step) (answer : Answer) (s' : State) → HasPlace old → Makes step old.state answer s' →
    Logs step old answer (after_call old (noted step answer old.log) s')
logs_by old step (Ok reply) s' place m = (place, logged old step (Ok reply) s' m)
logs_by old step (Err Refusal.Denied) s' place m =
    (place, logged old step (Err Refusal.Denied) s' (refused_to step old.state s' Refusal.Denied m))
logs_by old step (Err Refusal.NotFound) s' place m =
    (place, logged old step (Err Refusal.NotFound) s' (refused_to step old.state s' Refusal.NotFound m))
logs_by old step (Err (Refusal.BadField member)) s' place m =
    (place, logged old step (Err (Refusal.BadField member)) s' (refused_to step old.state s' (Refusal.BadField member) m))
logs_by old step (Err Refusal.PoolNotPermitted) s' place m =
    (place, logged old step (Err Refusal.PoolNotPermitted) s' (refused_to step old.state s' Refusal.PoolNotPermitted m))
logs_by old step (Err Refusal.Conflict) s' place m =
    (place, logged old step (Err Refusal.Conflict) s' (refused_to step old.state s' Refusal.Conflict m))
logs_by old step (Err Refusal.InUse) s' place m =
    (place, logged old step (Err Refusal.InUse) s' (refused_to step old.state s' Refusal.InUse m))
logs_by old step (Err Refusal.Full) s' place m =
    (place, logged old step (Err Refusal.Full) s' (refused_to step old.state s' Refusal.Full m))
logs_by old step (Err Refusal.Memory) s' place m = (place, unchanged old s' m.1)
logs_by old step (Err Refusal.NotEnabled) s' place m = (place, m.0, unchanged old s' m.1)
logs_by old step (Err Refusal.BadHead) s' place m = absurd (never step old.state Refusal.BadHead refl m.0)
logs_by old step (Err Refusal.BadJson) s' place m = absurd (never step old.state Refusal.BadJson refl m.0)
logs_by old step (Err Refusal.BadMethod) s' place m = absurd (never step old.state Refusal.BadMethod refl m.0)
logs_by old step (Err Refusal.NeedLength) s' place m = absurd (never step old.state Refusal.NeedLength refl m.0)
logs_by old step (Err Refusal.TooLarge) s' place m = absurd (never step old.state Refusal.TooLarge refl m.0)
logs_by old step (Err Refusal.NotServed) s' place m = absurd (never step old.state Refusal.NotServed refl m.0)
logs_by old step (Err Refusal.LogFull) s' place m = absurd (never step old.state Refusal.LogFull refl m.0)
logs_by old step (Err Refusal.Foreign) s' place m = absurd (never step old.state Refusal.Foreign refl m.0)

-- ---- with the step and the log as they are once the room was taken

pub call_keeps : (base : State) (limit : ℕ) (log log' : List Entry) (s : State) (step step' : Step) (answer : Answer) (s' : State) →
    IsKept base log s → length log < limit → Makes step s answer s' → step' ≡ step → log' ≡ noted step' answer log →
    IsKeptWithin base limit log' s'
call_keeps base limit log log' s step step' answer s' k place m same noted_so =
    subst (λ entries. IsKeptWithin base limit entries s') (sym (noted_so ∙ ap (λ x. noted x answer log) same))
    (kept_by base limit log s step answer s' k place m)

pub call_logs : (old : History) (now : History) (log' : List Entry) (step step' : Step) (answer : Answer) (s' : State) → now ≡ old → HasPlace old →
    Makes step old.state answer s' → step' ≡ step → log' ≡ noted step' answer old.log → Logs step now answer (after_call old log' s')
call_logs old now log' step step' answer s' is place m same noted_so =
    subst (λ (h : History). Logs step h answer (after_call old log' s')) (sym is)
    (subst (λ entries. Logs step old answer (after_call old entries s')) (sym (noted_so ∙ ap (λ x. noted x answer old.log) same))
    (logs_by old step answer s' place m))

-- a refusal is noted where a step can be refused so
pub noted_refusal : (step : Step) (answer : Answer) (refusal : Refusal) (r : Rendered) (log log' : List Entry) → answer ≡ Err refusal →
    is_of_steps refusal ≡ true → r ≡ refused refusal → log' ≡ log ++ (step, r) ∷ [] → log' ≡ noted step answer log
unfolding rendered
noted_refusal step answer refusal r log log' is of same more =
    more ∙ ap (λ x. log ++ (step, x) ∷ []) same
    ∙ sym (ap (λ x. noted step x log) is ∙ ap (λ (b : Bool). if b then log ++ (step, refused refusal) ∷ [] else log) of)

pub noted_refused : {X E : Type 0} (result : Result X Refusal) (given : Result Rendered E) (step : Step) (answer : Answer) (refusal : Refusal)
    (log log' : List Entry) → answer ≡ Err refusal → is_of_steps refusal ≡ true → IfOk given (λ r. r ≡ refused refusal) →
    OnOk result ((r : Rendered) × (given ≡ Ok r) × (log' ≡ log ++ (step, r) ∷ [])) → OnOk result (log' ≡ noted step answer log)
noted_refused (Ok x) given step answer refusal log log' is of so added = noted_refusal step answer refusal added.0 log log' is of
    (subst (λ g. IfOk g (λ r. r ≡ refused refusal)) added.1 so) added.2
noted_refused (Err e) given step answer refusal log log' is of so added = tt

-- ---- where a step was prepared with a room, and is noted so

pub kept_as : (base : State) (limit : ℕ) (log log' : List Entry) (step step' : Step) (answer : Answer) (s' : State) → step' ≡ step →
    log' ≡ noted step' answer log → IsKeptWithin base limit (noted step answer log) s' → IsKeptWithin base limit log' s'
kept_as base limit log log' step step' answer s' same noted_so k =
    subst (λ entries. IsKeptWithin base limit entries s') (sym (noted_so ∙ ap (λ x. noted x answer log) same)) k

-- ---- where a read found no memory for its answer, nothing has changed

pub want_keeps : (base : State) (limit : ℕ) (log log' : List Entry) (s s' : State) → IsKept base log s → length log < limit → log' ≡ log →
    s' ≡ s → IsKeptWithin base limit log' s'
want_keeps base limit log log' s s' k place same rests =
    subst (λ entries. IsKeptWithin base limit entries s') (sym same) (within_same base s s' limit log k place rests)

pub want_logs : (old now : History) (log' : List Entry) (step : Step) (refusal : Refusal) (s' : State) → now ≡ old → HasPlace old →
    refusal ≡ Refusal.Memory → log' ≡ old.log → s' ≡ old.state → Logs step now (Err refusal) (after_call old log' s')
want_logs old now log' step refusal s' is place wants same rests =
    subst (λ (h : History). Logs step h (Err refusal) (after_call old log' s')) (sym is)
    (subst (λ r. Logs step old (Err r) (after_call old log' s')) (sym wants)
    (place, ap (λ entries. after_call old entries s') same ∙ unchanged old s' rests))
