-- What follows from the functional form of a step, and runs by induction over their steps.
use Rattle.std.specs.Prelude.{◌≡◌, suc, Bool, true, false, cond, T, [], ◌∷◌, Option, None, Ok, Err, unwrap_or, is_some}
use Rattle.std.proofs.Common.{refl, sym, ap, subst, ◌∙◌}
use Rattle.ns_types.specs.declared.refusal.Refusal.{Refusal}
use Rattle.ns_types.specs.declared.reply.Content.{Content}
use Rattle.ns_types.specs.declared.reply.Reply.{Reply}
use Rattle.ns_types.specs.declared.step.Step.{Step}
use Rattle.ns_types.specs.Settling.Outcome.{Outcome, NotEnabled, Refused, Done}
use Rattle.ns_types.specs.State.Rows.{State}
use Rattle.ns_types.specs.Steps.{Answer, Run, after, act, said, concluded, is_allowed, is_past_bound, reply_of, settled}
use Rattle.ns_audit.specs.Steps.{OneOutcome, RefusalLeavesAll, AnswerEachStep, RunSplits, RunsJoin}

-- ---- what is said is said once

pub same_answer : (a b : Answer) (s t : State) → said a s ≡ said b t → a ≡ b
same_answer a b s t e = ap (λ (o : Option (Answer × State)). (unwrap_or o (a, s)).0) e

pub same_state : (a b : Answer) (s t : State) → said a s ≡ said b t → s ≡ t
same_state a b s t e = ap (λ (o : Option (Answer × State)). (unwrap_or o (a, s)).1) e

pub one_outcome : OneOutcome
one_outcome step s t u a b e f = (same_answer a b t u (sym e ∙ f), same_state a b t u (sym e ∙ f))

-- ---- refusals

pub not_said : {A : Type 0} (a : Answer) (s : State) → None ≡ said a s → A
not_said a s e = absurd (subst T (sym (ap is_some e)) tt)

is_reply : Answer → Bool
is_reply (Ok reply) = true
is_reply (Err refusal) = false

pub not_refused : {A : Type 0} (reply : Reply) (refusal : Refusal) → Ok reply ≡ Err refusal → A
unfolding is_reply
not_refused reply refusal e = absurd (subst T (ap is_reply e) tt)

leaves_done : (over : Bool) (s s' t : State) (reply : Reply) (refusal : Refusal)
    → cond over (said (Err Refusal.Full) s) (said (Ok reply) s') ≡ said (Err refusal) t → t ≡ s
leaves_done true s s' t reply refusal e = sym (same_state _ _ s t e)
leaves_done false s s' t reply refusal e = not_refused reply refusal (same_answer _ _ s' t e)

leaves_concluded : (step : Step) (s t : State) (o : Outcome State) (refusal : Refusal) → concluded step s o ≡ said (Err refusal) t → t ≡ s
leaves_concluded step s t NotEnabled refusal e = not_said _ t e
leaves_concluded step s t (Refused r) refusal e = sym (same_state _ _ s t e)
leaves_concluded step s t (Done content s') refusal e =
    leaves_done (is_past_bound (settled s s').world) s (settled s s') t (reply_of step content (settled s s').world) refusal e

pub refusal_leaves_all : RefusalLeavesAll
unfolding after
refusal_leaves_all step s t refusal e = by (is_allowed step s.acl) e
  where
    by : (b : Bool) → cond b (concluded step s (act step s)) (said (Err Refusal.Denied) s) ≡ said (Err refusal) t → t ≡ s
    by true e = leaves_concluded step s t (act step s) refusal e
    by false e = sym (same_state _ _ s t e)

-- ---- a step that is made

reply_in : Answer → Reply → Reply
reply_in (Ok reply) other = reply
reply_in (Err refusal) other = other

pub same_reply : (a b : Reply) → ◌≡◌ {A = Answer} (Ok a) (Ok b) → a ≡ b
unfolding reply_in
same_reply a b e = ap (λ answer. reply_in answer a) e

pub record IsMade (step : Step) (s t : State) (reply : Reply) : Type 0 where
  pub content : Content
  pub own : State
  pub acts : act step s ≡ Done content own
  pub leads : settled s own ≡ t
  pub replied : reply_of step content (settled s own).world ≡ reply

pub made : (step : Step) (s t : State) (reply : Reply) → after step s ≡ said (Ok reply) t → IsMade step s t reply
unfolding after
made step s t reply e = by (is_allowed step s.acl) e
  where
    concludes : (o : Outcome State) → act step s ≡ o → concluded step s o ≡ said (Ok reply) t → IsMade step s t reply
    concludes NotEnabled is e = not_said (Ok reply) t e
    concludes (Refused refusal) is e = not_refused reply refusal (sym (same_answer _ _ s t e))
    concludes (Done content own) is e = over (is_past_bound (settled s own).world) e
      where
        over : (b : Bool) → cond b (said (Err Refusal.Full) s) (said (Ok (reply_of step content (settled s own).world)) (settled s own)) ≡ said (Ok reply) t →
            IsMade step s t reply
        over true e = not_refused reply Refusal.Full (sym (same_answer _ _ s t e))
        over false e = record {
          content = content;
          own = own;
          acts = is;
          leads = same_state _ _ (settled s own) t e;
          replied = same_reply _ _ (same_answer _ _ (settled s own) t e);
        }

    by : (b : Bool) → cond b (concluded step s (act step s)) (said (Err Refusal.Denied) s) ≡ said (Ok reply) t → IsMade step s t reply
    by true e = concludes (act step s) refl e
    by false e = not_refused reply Refusal.Denied (sym (same_answer _ _ s t e))

-- ---- runs

pub answer_each_step : AnswerEachStep
answer_each_step s t [] [] run = refl
answer_each_step s t (step ∷ steps) (answer ∷ answers) run = ap suc (answer_each_step run.0 t steps answers run.2)
answer_each_step s t [] (answer ∷ answers) run = absurd run
answer_each_step s t (step ∷ steps) [] run = absurd run

pub run_splits : RunSplits
run_splits s t [] rest answers run = (s, [], answers, refl, refl, run)
run_splits s t (step ∷ first) rest [] run = absurd run
run_splits s t (step ∷ first) rest (answer ∷ answers) run =
    let later = run_splits run.0 t first rest answers run.2 in
    (later.0, answer ∷ later.1, later.2, ap (λ l. answer ∷ l) later.3, (run.0, run.1, later.4), later.5)

pub runs_join : RunsJoin
runs_join s mid t [] rest [] later run more = subst (λ x. Run x rest later t) run more
runs_join s mid t (step ∷ first) rest (answer ∷ before) later run more = (run.0, run.1, runs_join run.0 mid t first rest before later run.2 more)
runs_join s mid t [] rest (answer ∷ before) later run more = absurd run
runs_join s mid t (step ∷ first) rest [] later run more = absurd run
