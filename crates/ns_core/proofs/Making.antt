-- Steps that are refused, and those that change what they say.
use Rattle.std.specs.Prelude.{◌≡◌, Bool, true, false, cond, Ok, Err}
use Rattle.std.proofs.Common.{refl, ap, sym, ◌∙◌}
use Rattle.ns_types.specs.declared.refusal.Refusal.{Refusal}
use Rattle.ns_types.specs.declared.reply.Content.{Content}
use Rattle.ns_types.specs.declared.reply.Reply.{Reply}
use Rattle.ns_types.specs.declared.step.Step.{Step}
use Rattle.ns_types.specs.Settling.Outcome.{Done}
use Rattle.ns_types.specs.Settling.Settle.{settle}
use Rattle.ns_types.specs.State.Rows.{State}
use Rattle.ns_types.specs.Steps.{Answer, Makes, act, after, concluded, concluded_with, is_allowed, is_made, is_past_bound, reply_of, said, settled}
use Rattle.ns_types.proofs.Lists.{not_both}
use Rattle.ns_types.proofs.Tests.{same_Some}

pub denied : (step : Step) (s : State) → is_allowed step s.acl ≡ false → Makes step s (Err Refusal.Denied) s
unfolding after
denied step s none = (ap (λ b. cond b (concluded step s (act step s)) (said (Err Refusal.Denied) s)) none, refl)

-- ---- a step that changes what it says, and is answered by a reply

module _ (step : Step) (s s' : State) (allowed : is_allowed step s.acl ≡ true) (content : Content) (x : State) (acts : act step s ≡ Done content x) where
  abbrev content_or : Content → Answer → Content
  content_or other (Ok reply) = reply.content
  content_or other (Err refusal) = other

  ends : after step s ≡ concluded_with step s content (settled s x)
  unfolding after
  ends = ap (λ b. cond b (concluded step s (act step s)) (said (Err Refusal.Denied) s)) allowed ∙ ap (concluded step s) acts

  -- the reply says it, and the state is that of the change, settled
  pub made_of : (reply : Reply) → after step s ≡ said (Ok reply) s' → (reply.content ≡ content) × (s'.world ≡ settle s.world x.world)
  made_of reply made = by (is_past_bound (settle s.world x.world)) (sym ends ∙ made)
    where
      by : (b : Bool) → cond b (said (Err Refusal.Full) s) (said (Ok (reply_of step content (settle s.world x.world))) (settled s x)) ≡ said (Ok reply) s' →
          (reply.content ≡ content) × (s'.world ≡ settle s.world x.world)
      by true e = not_both (ap is_made e) refl
      by false e = (ap (λ a. content_or content a.0) (same_Some _ _ (sym e)), ap (λ a. a.1.world) (same_Some _ _ (sym e)))
