-- A read answers what its change says.
use Rattle.std.specs.Prelude.{◌≡◌, true, false, cond, Result, Ok, Err}
use Rattle.std.proofs.Common.{refl, ap, subst, ◌∙◌}
use Rattle.ns_types.specs.declared.refusal.Refusal.{Refusal}
use Rattle.ns_types.specs.declared.reply.Content.{Content}
use Rattle.ns_types.specs.declared.step.Step.{Step}
use Rattle.ns_types.specs.Settling.Outcome.{Changes, Outcome, NotEnabled, Refused, Done, is_done, lift}
use Rattle.ns_types.specs.State.Rows.{State}
use Rattle.ns_types.specs.Steps.{Makes, act, after, concluded, concluded_with, is_allowed, is_made, is_past_bound, reply_of, said}
use Rattle.ns_types.proofs.Lists.{not_both}
use Rattle.ns_steps.specs.Answers.{answer_of}
use Rattle.ns_steps.specs.Served.{IsServed, is_reading}
use Rattle.ns_types.proofs.Settling.{settle_same}
use Rattle.ns_steps.proofs.Telling.{Rests, rests_by}

-- the change of a part is one of the whole
pub changes_lift : {A B : Type 0} (whole : A → B) (o : Outcome A) (a a' : A) (result : Result Content Refusal) → Changes o a result a' →
    Changes (lift whole o) (whole a) result (whole a')
changes_lift whole o a a' (Ok content) h = ap (lift whole) h
changes_lift whole o a a' (Err refusal) h = by refusal h
  where
    done : (x : _) → is_done x ≡ true → is_done (lift whole x) ≡ true
    done NotEnabled e = e
    done (Refused refusal) e = e
    done (Done content s) e = e

    by : (r : Refusal) → Changes o a (Err r) a' → Changes (lift whole o) (whole a) (Err r) (whole a')
    by Refusal.Memory h = (done o h.0, ap whole h.1)
    by r h = (ap (lift whole) h.0, ap whole h.1)

module _ (step : Step) (s : State) (allowed : is_allowed step s.acl ≡ true) (within : is_past_bound s.world ≡ false) where
  concludes : (o : Outcome State) → act step s ≡ o → after step s ≡ concluded step s o
  unfolding after
  concludes o is = ap (λ b. cond b (concluded step s (act step s)) (said (Err Refusal.Denied) s)) allowed ∙ ap (concluded step s) is

  done : (content : Content) → act step s ≡ Done content s → after step s ≡ said (Ok (reply_of step content s.world)) s
  done content is = concludes (Done content s) is
      ∙ ap (λ w. concluded_with step s content (record s { world = w })) (settle_same s.world)
      ∙ ap (λ b. cond b (said (Err Refusal.Full) s) (said (Ok (reply_of step content s.world)) s)) within

  made : (o : Outcome State) → act step s ≡ o → Rests s o → is_done o ≡ true → is_made (after step s) ≡ true
  made NotEnabled is rests e = not_both e refl
  made (Refused refusal) is rests e = not_both e refl
  made (Done content s') is rests e = ap is_made (done content (is ∙ ap (Done content) rests))

  -- a read answers what its change says
  pub reads_make : IsServed step → is_reading step ≡ true → (result : Result Content Refusal) → Changes (act step s) s result s
      → Makes step s (answer_of step s.world result) s
  reads_make served only (Ok content) h = done content h
  reads_make served only (Err refusal) h = by refusal h
    where
      by : (r : Refusal) → Changes (act step s) s (Err r) s → Makes step s (Err r) s
      by Refusal.Memory h = (made (act step s) refl (rests_by step s served only) h.0, refl)
      by Refusal.NotEnabled h = not_both (subst (Rests s) h.0 (rests_by step s served only)) refl
      by r h = (concludes (Refused r) h.0, refl)
