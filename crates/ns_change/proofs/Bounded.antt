-- What a command comes to, with the bounds of counters among its refusals.
use Rattle.std.specs.Prelude.{◌≡◌, true, false, cond}
use Rattle.std.proofs.Common.{ap, ◌∙◌}
use Rattle.ns_types.specs.declared.refusal.Refusal.{Refusal}
use Rattle.ns_types.specs.declared.reply.Content.{Content}
use Rattle.ns_types.specs.Settling.Outcome.{Outcome, Refused, Done}
use Rattle.ns_types.specs.Settling.Settle.{settle}
use Rattle.ns_types.specs.State.Rows.{World}
use Rattle.ns_types.specs.Steps.{is_past_bound}
use Rattle.ns_change.specs.Prepared.{bounded}

module _ (w : World) (o : Outcome World) where
  pub still_refused : (refusal : Refusal) → o ≡ Refused refusal → bounded w o ≡ Refused refusal
  still_refused refusal is = ap (bounded w) is

  module _ (content : Content) (x : World) (is : o ≡ Done content x) where
    pub refused_full : is_past_bound (settle w x) ≡ true → bounded w o ≡ Refused Refusal.Full
    refused_full past = ap (bounded w) is ∙ ap (λ b. cond b (Refused Refusal.Full) (Done content x)) past

    pub done_still : is_past_bound (settle w x) ≡ false → bounded w o ≡ Done content x
    done_still within = ap (bounded w) is ∙ ap (λ b. cond b (Refused Refusal.Full) (Done content x)) within
