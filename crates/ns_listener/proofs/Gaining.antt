-- The receipts that the requests of a connection gain.
use Rattle.std.proofs.Common.{◌≡◌, ◌⊎◌, inl, inr, ℕ, List, [], ◌∷◌, ◌++◌, Ok, Err, refl, ap, sym, ◌∙◌}
use Rattle.std.specs.Prelude.{Result}
use Rattle.std.proofs.lemmas.List.{append-nil, append_assoc}
use Rattle.ns_types.specs.declared.refusal.Refusal.{Refusal}
use Rattle.ns_types.specs.declared.refusal.Refusal.TheVariants.{LogFull, Memory}
use Rattle.ns_types.specs.declared.reply.Rendered.{Rendered}
use Rattle.ns_types.specs.declared.reply.Response.{Response}
use Rattle.ns_types.specs.declared.step.Step.{Step}
use Rattle.ns_types.specs.Wire.Http.{Asked, End, Message, asked_by, Whole, Refused}
use Rattle.ns_types.specs.Wire.Refused.{refused}
use Rattle.ns_types.specs.Wire.Responses
use Rattle.ns_types.specs.Wire.Responses.{Exchange, rendered_of}
use Rattle.ns_http.specs.Conversation.{Conversation, CutShort, Streams}
use Rattle.ns_log.specs.declared.receipts.receipt.Receipt.{Receipt}
use Rattle.ns_endpoints.specs.Asking.{asked}
use Rattle.ns_endpoints.specs.Drawing.{DrawsFor}
use Rattle.ns_work_lock.specs.Receiving.{Asks, receipt}
use Rattle.ns_api.specs.Answering.{AnswersAsked, AnswersRefused, AnswersRequest, Holding}
use Rattle.ns_listener.specs.Answering.{AnswersBySeat, Gains, GainsOrWants, Made, MadeBySeat, MakesNone, ServedBySeat, ServedBySeatInPart, seat_of}

-- ---- by a call for a step

pub taken : {A : Type 0} (step : Step) (old new : List Receipt) (response : Response A) → Asks step old (Ok response) new →
    GainsOrWants step old (rendered_of response) new
taken step old new response asks = inl asks

wanted : (refusal : Refusal) → (refusal ≡ Memory) ⊎ (refusal ≡ LogFull) → (refused refusal ≡ refused Memory) ⊎ (refused refusal ≡ refused LogFull)
wanted refusal (inl e) = inl (ap refused e)
wanted refusal (inr e) = inr (ap refused e)

pub not_taken : (A : Type 0) (step : Step) (old new : List Receipt) (refusal : Refusal) → Asks {A = A} step old (Err refusal) new →
    GainsOrWants step old (refused refusal) new
not_taken A step old new refusal asks = inr (asks.0, wanted refusal asks.1)

-- ---- by a request

module _ {S D : Type 0} (receipts : S → List Receipt) (draws : D → List ℕ → D → Type 0) where
  abbrev TakesBySeat : Step → S → Rendered → S → Type 0
  TakesBySeat step old reply new = GainsOrWants step (receipts old) reply (receipts new)

  -- what one request gained
  record GainsOf (asks : Result Step Refusal) (old : S × D) (reply : Rendered) (new : S × D) : Type 0 where
    gained : List Receipt
    added : receipts new.0 ≡ receipts old.0 ++ gained
    gains : Gains draws asks old.1 reply new.1 gained

  none : (asks : Result Step Refusal) (old new : S × D) (reply : Rendered) → receipts new.0 ≡ receipts old.0 →
      MakesNone draws asks old.1 reply new.1 → GainsOf asks old reply new
  none asks old new reply same makes = record { gained = []; added = same ∙ sym (append-nil (receipts old.0)); gains = makes }

  same_seat : (old new : S × D) → new ≡ old → receipts new.0 ≡ receipts old.0
  same_seat old new same = ap (λ (x : S × D). receipts x.0) same

  same_drawer : (old new : S × D) → new ≡ old → new.1 ≡ old.1
  same_drawer old new same = ap (λ (x : S × D). x.1) same

  of_step : (step made : Step) (old new : S × D) (reply : Rendered) → DrawsFor draws step old.1 made new.1 →
      TakesBySeat made old.0 reply new.0 ⊎ AnswersRefused Memory old.0 reply new.0 → GainsOf (Ok step) old reply new
  of_step step made old new reply drawn (inl (inl one)) = record {
    gained = receipt one.0 made reply ∷ [];
    added = one.1;
    gains = record { wanted = step; asks_wanted = refl; draws_made = drawn; shows_told = refl };
  }
  of_step step made old new reply drawn (inl (inr want)) = none (Ok step) old new reply want.0 (inr (made, drawn, want.1))
  of_step step made old new reply drawn (inr memory) = none (Ok step) old new reply (ap receipts memory.1) (inr (made, drawn, inl memory.0))

  of_asked : (asks : Result Step Refusal) (old new : S × D) (reply : Rendered) → AnswersAsked TakesBySeat draws asks old reply new →
      GainsOf asks old reply new
  of_asked (Err refusal) old new reply a = none (Err refusal) old new reply (same_seat old new a.1) (inl (a.0, same_drawer old new a.1))
  of_asked (Ok step) old new reply a = of_step step a.0 old new reply a.1 a.2

  makes_none : (asks : Result Step Refusal) (old new : D) (reply : Rendered) → AnswersRefused Memory old reply new → MakesNone draws asks old reply new
  makes_none (Err refusal) old new reply memory = inr memory
  makes_none (Ok step) old new reply memory = inl memory

  of_request : (a : Asked) (old new : S × D) (reply : Rendered) → AnswersRequest TakesBySeat draws old a reply new → GainsOf (asked a) old reply new
  of_request a old new reply (inl answers) = of_asked (asked a) old new reply answers
  of_request a old new reply (inr memory) =
      none (asked a) old new reply (same_seat old new memory.1) (makes_none (asked a) old.1 new.1 reply (memory.0, same_drawer old new memory.1))

-- ---- by a connection

module _ {S D F : Type 0} (receipts : S → List Receipt) (draws : D → List ℕ → D → Type 0) where
  whole_first : (m : Message) (reply : Rendered) (old next new : Holding S D F) (exchanges : List Exchange) →
      AnswersBySeat receipts draws old (asked_by m) reply next → MadeBySeat receipts draws next exchanges new →
      MadeBySeat receipts draws old ((Whole m, reply) ∷ exchanges) new
  whole_first m reply old next new exchanges a r =
      let own = of_request receipts draws (asked_by m) (old.taker, old.draws) (a.between, next.draws) reply a.answered in
      record {
        gained = own.gained ++ r.gained;
        added = r.added ∙ ap (λ s. receipts s ++ r.gained) a.followed ∙ ap (λ x. x ++ r.gained) own.added
            ∙ append_assoc (receipts old.taker) own.gained r.gained;
        gains = (next.draws, own.gained, r.gained, own.gains, refl, r.gains);
      }

  pub gains : (old : Holding S D F) (exchanges : List Exchange) (new : Holding S D F) →
      Responses.Answers (AnswersBySeat receipts draws) old exchanges new → MadeBySeat receipts draws old exchanges new
  gains old [] new c = record {
    gained = [];
    added = ap (λ (h : Holding S D F). receipts h.taker) c ∙ sym (append-nil (receipts old.taker));
    gains = (refl, ap (λ (h : Holding S D F). h.draws) c);
  }
  gains old ((Whole m, reply) ∷ exchanges) new c = whole_first m reply old c.0 new exchanges c.1 (gains c.0 exchanges new c.2)
  gains old ((Refused fault, reply) ∷ exchanges) new c =
      let r = gains old exchanges new c.1 in
      record {
        gained = r.gained;
        added = r.added;
        gains = (c.0, r.gains);
      }

  abbrev pub served : (old new : Holding S D F) (streams : Streams) (end : End) → Conversation (AnswersBySeat receipts draws) old new streams end →
      ServedBySeat old new receipts draws streams end
  served old new streams end c = record { conversation = c; made = gains old c.exchanges new c.answered }

  pub served_in_part : (old new : Holding S D F) (streams : Streams) → CutShort (AnswersBySeat receipts draws) old new streams →
      ServedBySeatInPart old new receipts draws streams
  served_in_part old new streams c = record { conversation = c; made = gains old c.exchanges new c.serves.answered }
