-- Exchanges, one after the other.
use Rattle.std.specs.Prelude.{List, [], ◌∷◌, ◌++◌}
use Rattle.std.proofs.Common.{refl, sym, ap, subst, ◌∙◌}
use Rattle.ns_types.specs.State.Rows.{World}
use Rattle.ns_types.specs.Wire.Http.{Whole, Refused}
use Rattle.ns_types.specs.Wire.Responses.{Answers, Exchange}
use Rattle.ns_laws.specs.Wire as law

pub whole_is_handled : law.WholeIsHandled
whole_is_handled handler w next m reply = (
  λ conversation. conversation.1 ∙ ap (λ (left : World). (reply, left)) (sym conversation.2),
  λ handled. (next, handled, refl),
)

pub refused_head_is_not_handled : law.RefusedHeadIsNotHandled
refused_head_is_not_handled handler w next fault reply = (λ conversation. conversation, λ refused. refused)

module _ (handler : law.Handler) where
  splits : (w next : World) (first rest : List Exchange) → Answers (law.Handles handler) w (first ++ rest) next →
      (mid : World) × Answers (law.Handles handler) w first mid × Answers (law.Handles handler) mid rest next
  splits w next [] rest all = (w, refl, all)
  splits w next ((Whole m, reply) ∷ first) rest all = let later = splits all.0 next first rest all.2 in
      (later.0, (all.0, all.1, later.1), later.2)
  splits w next ((Refused fault, reply) ∷ first) rest all = let later = splits w next first rest all.1 in
      (later.0, (all.0, later.1), later.2)

  joins : (w mid next : World) (first rest : List Exchange) → Answers (law.Handles handler) w first mid →
      Answers (law.Handles handler) mid rest next → Answers (law.Handles handler) w (first ++ rest) next
  joins w mid next [] rest is later = subst (λ x. Answers (law.Handles handler) x rest next) is later
  joins w mid next ((Whole m, reply) ∷ first) rest before later = (before.0, before.1, joins before.0 mid next first rest before.2 later)
  joins w mid next ((Refused fault, reply) ∷ first) rest before later = (before.0, joins w mid next first rest before.1 later)

pub conversation_splits : law.ConversationSplits
conversation_splits handler w next first rest = (
  splits handler w next first rest,
  λ cut. joins handler w cut.0 next first rest cut.1 cut.2,
)
