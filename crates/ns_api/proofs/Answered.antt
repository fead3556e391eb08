-- Answers of steps.
use Rattle.std.proofs.Common.{◌≡◌, ◌⊎◌, inl, inr, List, ℕ, Option, Some, None, Ok, Err, true, false, refl, ap, sym, subst, ◌∙◌, IfOk}
use Rattle.std.specs.Prelude.{IsSomeAnd}
use Rattle.ns_types.specs.declared.refusal.Refusal.{Refusal}
use Rattle.ns_types.specs.declared.reply.Content.{Content}
use Rattle.ns_types.specs.declared.reply.Rendered.{Rendered}
use Rattle.ns_types.specs.declared.reply.Reply.{Reply}
use Rattle.ns_types.specs.declared.step.AdminCommand.TheVariants as AdminCommand
use Rattle.ns_types.specs.declared.step.AskCommand.TheVariants as AskCommand
use Rattle.ns_types.specs.declared.step.NodeCommand.TheVariants as NodeCommand
use Rattle.ns_types.specs.declared.step.Step.{Step}
use Rattle.ns_types.specs.State.Names.{Name}
use Rattle.ns_types.specs.Wire.Http.{Asked}
use Rattle.ns_types.specs.Wire.Refused.{refused}
use Rattle.ns_types.specs.State.Rows.{State}
use Rattle.ns_types.specs.Steps.{Answer}
use Rattle.ns_types.proofs.Lists.{not_both}
use Rattle.ns_steps.specs.Chains.{IsMade, MakesOrLacks}
use Rattle.ns_json.specs.Replies.{rendered}
use Rattle.ns_replies.specs.Rendered.{HasRoom, IsRendered}
use Rattle.ns_types.proofs.Tests.{is_no}
use Rattle.ns_steps.specs.Served.{IsServed, IsToldBy, is_reading, only_reads, served}
use Rattle.ns_steps.specs.Told.{Holds, Shape, is_of_write}
use Rattle.ns_steps.proofs.Telling.{served_tells}
use Rattle.ns_request.specs.Gives.{Refuses}
use Rattle.ns_endpoints.specs.Asking.{asked}
use Rattle.ns_endpoints.specs.Finding.{Finds, FindsNone}
use Rattle.ns_api.specs.Answering.{AnswersAsked, AnswersOrWants, AnswersRefused, AnswersRequest, IsWanting}
use Rattle.ns_api.specs.Rooms.{ShowsOrWants, room_of}

rendered_refusal : (refusal : Refusal) → rendered (Err refusal) ≡ refused refusal
unfolding rendered
rendered_refusal refusal = refl

-- ---- answers of calls

module _ {S : Type 0} (state : S → State) (notes : S → Step → Answer → S → Type 0) (lacks : S → Refusal → Type 0) where
  shown_read : (step : Step) (s s' : S) (answer : Answer) (reply : Rendered) → IsMade state notes s step answer s' → s' ≡ s →
      ShowsOrWants answer reply → AnswersOrWants state notes lacks step s reply s'
  shown_read step s s' (Ok told) reply made same (inl e) = inl (Ok told, made, e)
  shown_read step s s' (Ok told) reply made same (inr e) = inr (Refusal.Memory, inl refl, (e, same))
  shown_read step s s' (Err refusal) reply made same e = inl (Err refusal, made, e ∙ sym (rendered_refusal refusal))

  -- a read that finds no memory for its reply was not made
  pub answers_read : (step : Step) (s s' : S) (answer : Answer) (reply : Rendered) → MakesOrLacks state notes (IsWanting lacks) s step answer s' →
      s' ≡ s → ShowsOrWants answer reply → AnswersOrWants state notes lacks step s reply s'
  answers_read step s s' answer reply (inl made) same e = shown_read step s s' answer reply made same e
  answers_read step s s' answer reply (inr l) same e = inr (l.0, l.2, (subst (λ a. ShowsOrWants a reply) l.1 e, l.3))

  pub answers_write : (step : Step) (s s' : S) (answer : Answer) (reply : Rendered) → MakesOrLacks state notes (IsWanting lacks) s step answer s' →
      reply ≡ rendered answer → AnswersOrWants state notes lacks step s reply s'
  answers_write step s s' answer reply (inl made) e = inl (answer, made, e)
  answers_write step s s' answer reply (inr l) e = inr (l.0, l.2, (e ∙ ap rendered l.1 ∙ rendered_refusal l.0, l.3))

  -- nothing changed, for want of memory
  pub wants_memory : (step : Step) (s : S) → AnswersOrWants state notes lacks step s (refused Refusal.Memory) s
  wants_memory step s = inr (Refusal.Memory, inl refl, (refl, refl))

-- ---- answers of requests, by what a call for a step does and what draws

module _ {S D : Type 0} (takes : Step → S → Rendered → S → Type 0) (draws : D → List ℕ → D → Type 0) where
  found : (a : Asked) (made : Step) (old new : S × D) (reply : Rendered) → Finds draws a old.1 new.1 made →
      takes made old.0 reply new.0 ⊎ AnswersRefused Refusal.Memory old.0 reply new.0 → AnswersRequest takes draws old a reply new
  found a made old new reply finds answered =
      inl (subst (λ asks. AnswersAsked takes draws asks old reply new) (sym finds.1) (made, finds.2, answered))

  pub found_answers : (a : Asked) (made : Step) (old new : S × D) (reply : Rendered) → Finds draws a old.1 new.1 made →
      takes made old.0 reply new.0 → AnswersRequest takes draws old a reply new
  found_answers a made old new reply finds taken = found a made old new reply finds (inl taken)

  refuses : (a : Asked) (refusal : Refusal) (s : S) (old new : D) → Refuses refusal (asked a) → new ≡ old →
      AnswersRequest takes draws (s, old) a (refused refusal) (s, new)
  refuses a Refusal.Memory s old new is same = inr (refl, ap (λ d. (s, d)) same)
  refuses a refusal s old new is same =
      inl (subst (λ asks. AnswersAsked takes draws asks (s, old) (refused refusal) (s, new)) (sym is)
      (refl, ap (λ d. (s, d)) same))

  pub none_answers : (a : Asked) (refusal : Refusal) (s : S) (old new : D) → FindsNone draws a old new refusal →
      AnswersRequest takes draws (s, old) a (refused refusal) (s, new)
  none_answers a refusal s old new (inl r) = refuses a refusal s old new r.0 r.1
  none_answers a refusal s old new (inr m) = found a m.1.0 (s, old) (s, new) (refused refusal) m.1.1 (inr (ap refused m.0, refl))

-- ---- reads

-- what a read tells is rendered
rendered_shape : (shape : Shape) (content : Content) → is_of_write shape ≡ false → Holds shape content → IsRendered content
rendered_shape Shape.Job (Content.Job shown) reads t = tt
rendered_shape Shape.Job _ reads t = absurd t
rendered_shape Shape.Jobs (Content.Jobs shown) reads t = tt
rendered_shape Shape.Jobs _ reads t = absurd t
rendered_shape Shape.Evaluation (Content.Evaluation shown) reads t = tt
rendered_shape Shape.Evaluation _ reads t = absurd t
rendered_shape Shape.Evaluations (Content.Evaluations shown) reads t = tt
rendered_shape Shape.Evaluations _ reads t = absurd t
rendered_shape Shape.Allocation (Content.Allocation shown) reads t = tt
rendered_shape Shape.Allocation _ reads t = absurd t
rendered_shape Shape.Allocations (Content.Allocations shown) reads t = tt
rendered_shape Shape.Allocations _ reads t = absurd t
rendered_shape Shape.Namespace (Content.Namespace shown) reads t = tt
rendered_shape Shape.Namespace _ reads t = absurd t
rendered_shape Shape.Namespaces (Content.Namespaces shown) reads t = tt
rendered_shape Shape.Namespaces _ reads t = absurd t
rendered_shape Shape.Quota (Content.Quota shown) reads t = tt
rendered_shape Shape.Quota _ reads t = absurd t
rendered_shape Shape.Quotas (Content.Quotas shown) reads t = tt
rendered_shape Shape.Quotas _ reads t = absurd t
rendered_shape Shape.Pool (Content.Pool shown) reads t = tt
rendered_shape Shape.Pool _ reads t = absurd t
rendered_shape Shape.Pools (Content.Pools shown) reads t = tt
rendered_shape Shape.Pools _ reads t = absurd t
rendered_shape Shape.Nodes (Content.Nodes shown) reads t = tt
rendered_shape Shape.Nodes _ reads t = absurd t
rendered_shape Shape.Policy (Content.Policy shown) reads t = tt
rendered_shape Shape.Policy _ reads t = absurd t
rendered_shape Shape.Events (Content.Events ns events) reads t = tt
rendered_shape Shape.Events _ reads t = absurd t
rendered_shape Shape.Usage (Content.Usage name used) reads t = tt
rendered_shape Shape.Usage _ reads t = absurd t
rendered_shape Shape.Registered _ reads t = not_both refl reads
rendered_shape Shape.Stopped _ reads t = not_both refl reads
rendered_shape Shape.Written _ reads t = not_both refl reads
rendered_shape (Shape.TokenOf new) _ reads t = not_both refl reads

read_rendered : (line : Option Shape) (content : Content) → only_reads line ≡ true → IsSomeAnd line (λ shape. Holds shape content) → IsRendered content
read_rendered None content reads t = absurd t
read_rendered (Some shape) content reads t = rendered_shape shape content (is_no (is_of_write shape) reads) t

-- a reply is told by a step that was made
told : {S : Type 0} (state : S → State) (notes : S → Step → Answer → S → Type 0) (lacks : S → Refusal → Type 0) (step : Step) (s s' : S)
    (reply : Reply) → IsServed step → MakesOrLacks state notes lacks s step (Ok reply) s' → IsToldBy step reply.content
told state notes lacks step s s' reply served (inl made) = served_tells step (state s) (state s') reply served made.made
told state notes lacks step s s' reply served (inr l) = cc

-- what a read answers can be rendered
pub shows : {S : Type 0} (state : S → State) (notes : S → Step → Answer → S → Type 0) (lacks : S → Refusal → Type 0) (step : Step) (s s' : S)
    (answer : Answer) → IsServed step → is_reading step ≡ true → MakesOrLacks state notes lacks s step answer s' →
    IfOk answer (λ reply. IsRendered reply.content)
shows state notes lacks step s s' (Ok reply) is reading m =
    read_rendered (served step) reply.content reading (told state notes lacks step s s' reply is m)
shows state notes lacks step s s' (Err refusal) is reading m = tt

-- ---- writes

room_of_written : (room : Option Name) (content : Content) → Holds Shape.Written content → HasRoom room content
room_of_written room Content.Written t = tt
room_of_written room _ t = absurd t

room_of_registered : (room : Option Name) (content : Content) → Holds Shape.Registered content → HasRoom room content
room_of_registered room (Content.Registered evaluation index modified) t = tt
room_of_registered room _ t = absurd t

room_of_stopped : (room : Option Name) (content : Content) → Holds Shape.Stopped content → HasRoom room content
room_of_stopped room (Content.Stopped evaluation index) t = tt
room_of_stopped room _ t = absurd t

write_fits : (step : Step) (content : Content) → IsServed step → is_reading step ≡ false → IsToldBy step content → HasRoom (room_of step) content
write_fits (Step.Ask ns secret (AskCommand.Register r)) content served e t = room_of_registered None content t
write_fits (Step.Ask ns secret (AskCommand.Deregister id purge)) content served e t = room_of_registered None content t
write_fits (Step.Ask ns secret (AskCommand.StopAllocation n)) content served e t = room_of_stopped None content t
write_fits (Step.Ask ns secret _) content served e t = not_both refl e
write_fits (Step.Admin secret (AdminCommand.PutNamespace name namespace)) content served e t = room_of_written None content t
write_fits (Step.Admin secret (AdminCommand.DeleteNamespace name)) content served e t = room_of_written None content t
write_fits (Step.Admin secret (AdminCommand.PutQuota name quota)) content served e t = room_of_written None content t
write_fits (Step.Admin secret (AdminCommand.DeleteQuota name)) content served e t = room_of_written None content t
write_fits (Step.Admin secret (AdminCommand.PutPool name pool)) content served e t = room_of_written None content t
write_fits (Step.Admin secret (AdminCommand.DeletePool name)) content served e t = room_of_written None content t
write_fits (Step.Admin secret (AdminCommand.PutPolicy name policy)) content served e t = room_of_written None content t
write_fits (Step.Admin secret (AdminCommand.DeletePolicy name)) content served e t = room_of_written None content t
write_fits (Step.Admin secret (AdminCommand.CreateToken new)) content served e t =
    subst (λ c. HasRoom (room_of (Step.Admin secret (AdminCommand.CreateToken new))) c) (sym t) refl
write_fits (Step.Admin secret (AdminCommand.DeleteToken accessor)) content served e t = room_of_written None content t
write_fits (Step.Admin secret _) content served e t = not_both refl e
write_fits (Step.Node pool secret (NodeCommand.PutNode name offer)) content served e t = room_of_written None content t
write_fits (Step.Node pool secret (NodeCommand.DeleteNode name)) content served e t = room_of_written None content t
write_fits (Step.Node pool secret (NodeCommand.SetStatus name status)) content served e t = room_of_written None content t
write_fits (Step.Node pool secret (NodeCommand.SetEligible name eligible)) content served e t = room_of_written None content t
write_fits (Step.Node pool secret (NodeCommand.Report name r)) content served e t = room_of_written None content t
write_fits (Step.Node pool secret _) content served e t = not_both refl e
write_fits _ content served e t = not_both refl e

-- what a write answers fits in the room of its step
pub fits : {S : Type 0} (state : S → State) (notes : S → Step → Answer → S → Type 0) (lacks : S → Refusal → Type 0) (step : Step) (s s' : S)
    (answer : Answer) (room : Option Name) → room ≡ room_of step → IsServed step → is_reading step ≡ false →
    MakesOrLacks state notes lacks s step answer s' → IfOk answer (λ reply. HasRoom room reply.content)
fits state notes lacks step s s' (Ok reply) room is served writing m =
    subst (λ r. HasRoom r reply.content) (sym is)
    (write_fits step reply.content served writing (told state notes lacks step s s' reply served m))
fits state notes lacks step s s' (Err refusal) room is served writing m = tt
