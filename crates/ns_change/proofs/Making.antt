-- From what a step on the world prepares to what the model makes of it. With the end of a step (the lemma `makes` of `ns_settlement`),
-- which wants the second, this is all that a call of the core needs.
use Rattle.std.specs.Prelude.{◌≡◌, Bool, true, false, cond, None, Ok, Err}
use Rattle.std.proofs.Common.{refl, ap, sym, ◌∙◌}
use Rattle.ns_types.specs.declared.refusal.Refusal.{Refusal}
use Rattle.ns_types.specs.declared.reply.Content.{Content}
use Rattle.ns_types.specs.declared.step.Step.{Step}
use Rattle.ns_types.specs.Asking.Policies.{with_world}
use Rattle.ns_types.specs.Settling.Outcome.{Outcome, NotEnabled, Refused, Done, is_done, lift}
use Rattle.ns_types.specs.Settling.Settle.{settle}
use Rattle.ns_types.specs.State.Rows.{State, World}
use Rattle.ns_types.specs.Steps.{Makes, act, after, concluded, is_allowed, is_made, is_past_bound, reply_of, said}
use Rattle.ns_types.proofs.Lists.{not_both}
use Rattle.ns_types.proofs.Outcomes.{is_enabled, refusal_of}
use Rattle.ns_change.specs.declared.change.Prepared.{Prepared}
use Rattle.ns_change.specs.Changed.{view}
use Rattle.ns_change.specs.Prepared.{Prepares, bounded}
use Rattle.ns_tables.specs.declared.tables.Tables.{Tables}

module _ (step : Step) (s : State) (outcome : Outcome World) (acts : act step s ≡ lift (with_world s.acl) outcome)
    (allowed : is_allowed step s.acl ≡ true) where
  goes : (o : Outcome World) → outcome ≡ o → after step s ≡ concluded step s (lift (with_world s.acl) o)
  unfolding after
  goes o is = ap (λ b. cond b (concluded step s (act step s)) (said (Err Refusal.Denied) s)) allowed ∙ ap (concluded step s) acts
      ∙ ap (λ o. concluded step s (lift (with_world s.acl) o)) is

  ends : (content : Content) (w : World) → outcome ≡ Done content w → (b : Bool) → is_past_bound (settle s.world w) ≡ b →
      after step s ≡ cond b (said (Err Refusal.Full) s)
      (said (Ok (reply_of step content (settle s.world w))) (record s { world = settle s.world w }))
  ends content w is b past = goes (Done content w) is
      ∙ ap (λ b. cond b (said (Err Refusal.Full) s)
      (said (Ok (reply_of step content (settle s.world w))) (record s { world = settle s.world w }))) past

  memory : (o : Outcome World) → outcome ≡ o → is_done (bounded s.world o) ≡ true → is_made (after step s) ≡ true
  memory NotEnabled is e = not_both e refl
  memory (Refused refusal) is e = not_both e refl
  memory (Done content w) is e = by (is_past_bound (settle s.world w)) refl
    where
      by : (b : Bool) → is_past_bound (settle s.world w) ≡ b → is_made (after step s) ≡ true
      by true past = not_both e (ap (λ b. is_done (cond b (Refused Refusal.Full) (Done content w))) past)
      by false past = ap is_made (ends content w is false past)

  idle : (o : Outcome World) → outcome ≡ o → bounded s.world o ≡ NotEnabled → after step s ≡ None
  idle NotEnabled is e = goes NotEnabled is
  idle (Refused refusal) is e = not_both refl (ap is_enabled e)
  idle (Done content w) is e = by (is_past_bound (settle s.world w)) refl
    where
      by : (b : Bool) → is_past_bound (settle s.world w) ≡ b → after step s ≡ None
      by true past = not_both refl (ap is_enabled (ap (λ b. cond b (Refused Refusal.Full) (Done content w)) (sym past) ∙ e))
      by false past = not_both refl (ap is_enabled (ap (λ b. cond b (Refused Refusal.Full) (Done content w)) (sym past) ∙ e))

  refused : (r : Refusal) (o : Outcome World) → outcome ≡ o → bounded s.world o ≡ Refused r → after step s ≡ said (Err r) s
  refused r NotEnabled is e = not_both (ap is_enabled e) refl
  refused r (Refused refusal) is e = goes (Refused refusal) is ∙ ap (λ o. said (Err (refusal_of r o)) s) e
  refused r (Done content w) is e = by (is_past_bound (settle s.world w)) refl
    where
      by : (b : Bool) → is_past_bound (settle s.world w) ≡ b → after step s ≡ said (Err r) s
      by true past = ends content w is true past
          ∙ ap (λ o. said (Err (refusal_of r o)) s) (ap (λ b. cond b (Refused Refusal.Full) (Done content w)) (sym past) ∙ e)
      by false past = not_both refl (ap is_done (ap (λ b. cond b (Refused Refusal.Full) (Done content w)) (sym past) ∙ e))

  -- what it is refused with is the model's answer, and the state stays
  pub refuses : (t : Tables) (refusal : Refusal) → Prepares (bounded s.world outcome) t (Err refusal) → Makes step s (Err refusal) s
  refuses t Refusal.Memory h = (memory outcome refl h, refl)
  refuses t Refusal.NotEnabled h = (idle outcome refl h, refl)
  refuses t r h = (refused r outcome refl h, refl)

  -- what it changes is what the model says
  pub does : (t : Tables) (x : Prepared) → Prepares (bounded s.world outcome) t (Ok x) →
      act step s ≡ Done x.content (record s { world = view t x.change })
  does t x h = acts ∙ ap (lift (with_world s.acl)) (done outcome refl)
    where
      done : (o : Outcome World) → outcome ≡ o → outcome ≡ Done x.content (view t x.change)
      done NotEnabled is = not_both refl (ap is_enabled (sym (ap (bounded s.world) (sym is) ∙ h)))
      done (Refused refusal) is = not_both refl (ap is_done (sym (ap (bounded s.world) (sym is) ∙ h)))
      done (Done content w) is = by (is_past_bound (settle s.world w)) refl
        where
          bounded_at : (b : Bool) → is_past_bound (settle s.world w) ≡ b → cond b (Refused Refusal.Full) (Done content w) ≡ Done x.content (view t x.change)
          bounded_at b past = ap (λ b. cond b (Refused Refusal.Full) (Done content w)) (sym past) ∙ ap (bounded s.world) (sym is) ∙ h

          by : (b : Bool) → is_past_bound (settle s.world w) ≡ b → outcome ≡ Done x.content (view t x.change)
          by true past = not_both refl (ap is_done (sym (bounded_at true past)))
          by false past = is ∙ bounded_at false past
