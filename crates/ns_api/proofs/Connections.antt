-- From the answers of a handler to those of what it holds.
use Rattle.std.proofs.Common.{ℕ, List, [], ◌∷◌, ap, ◌≡◌, subst}
use Rattle.ns_types.specs.declared.reply.Rendered.{Rendered}
use Rattle.ns_types.specs.declared.step.Step.{Step}
use Rattle.ns_types.specs.Wire.Http.{Asked, End, Whole, Refused}
use Rattle.ns_types.specs.Wire.Responses
use Rattle.ns_types.specs.Wire.Responses.{Exchange}
use Rattle.ns_http.specs.Conversation.{Conversation, CutShort, Streams}
use Rattle.ns_api.specs.declared.answering.Api.{Api}
use Rattle.ns_api.specs.Answering.{Answers, AnswersRequest, Holding}
use Rattle.ns_api.specs.Serving.{holding}

module _ {S D F : Type 0} (takes : Step → S → Rendered → S → Type 0) (draws : D → List ℕ → D → Type 0) (follows : F → S → S → F → Type 0) where
  abbrev Answering : Api S D F → Asked → Rendered → Api S D F → Type 0
  Answering old asks reply new = Answers takes draws follows (holding old) asks reply (holding new)

  pub chain : (old : Api S D F) (exchanges : List Exchange) (new : Api S D F) → Responses.Answers Answering old exchanges new →
      Responses.Answers (Answers takes draws follows) (holding old) exchanges (holding new)
  chain old [] new c = ap holding c
  chain old ((Whole m, reply) ∷ exchanges) new c = (holding c.0, c.1, chain c.0 exchanges new c.2)
  chain old ((Refused fault, reply) ∷ exchanges) new c = (c.0, chain old exchanges new c.1)

  abbrev pub held_conversation : (old new : Api S D F) (streams : Streams) (end : End) → Conversation Answering old new streams end →
      Conversation (Answers takes draws follows) (holding old) (holding new) streams end
  held_conversation old new streams end c = record {
    read = c.read;
    exchanges = c.exchanges;
    consumes = c.consumes;
    requests = c.requests;
    answered = chain old c.exchanges new c.answered;
    writes = c.writes;
  }

  pub held_in_part : (old new : Api S D F) (streams : Streams) → CutShort Answering old new streams →
      CutShort (Answers takes draws follows) (holding old) (holding new) streams
  held_in_part old new streams c = record {
    read = c.read;
    exchanges = c.exchanges;
    closed = c.closed;
    rest = c.rest;
    consumes = c.consumes;
    serves = record { takes = c.serves.takes; answered = chain old c.exchanges new c.serves.answered };
    writes = c.writes;
  }

  -- a request that was answered, and what then followed
  pub with_following : (old new : Holding S D F) (a : Asked) (reply : Rendered) (between : S) (follower : F) →
      AnswersRequest takes draws (old.taker, old.draws) a reply (between, new.draws) → follower ≡ old.follower →
      follows follower between new.taker new.follower → Answers takes draws follows old a reply new
  with_following old new a reply between follower answered same followed = record {
    between = between;
    answered = answered;
    followed = subst (λ f. follows f between new.taker new.follower) same followed;
  }
