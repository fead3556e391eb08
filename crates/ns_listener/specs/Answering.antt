-- The receipts that requests gain at a seat.
use Rattle.std.specs.Prelude.{◌≡◌, ◌⊎◌, ℕ, List, [], ◌∷◌, ◌++◌, Result, Ok, Err}
use Rattle.ns_types.specs.declared.refusal.Refusal.{Refusal}
use Rattle.ns_types.specs.declared.refusal.Refusal.TheVariants.{LogFull, Memory}
use Rattle.ns_types.specs.declared.reply.Rendered.{Rendered}
use Rattle.ns_types.specs.declared.step.Step.{Step}
use Rattle.ns_types.specs.Wire.Http.{Asked, End, asked_by, Whole, Refused}
use Rattle.ns_types.specs.Wire.Refused.{refused}
use Rattle.ns_types.specs.Wire.Responses.{Exchange, refusal_of}
use Rattle.ns_http.specs.Conversation.{Streams}
use Rattle.ns_log.specs.declared.receipts.receipt.Receipt.{Receipt}
use Rattle.ns_work_lock.specs.Receiving.{receipt}
use Rattle.ns_endpoints.specs.Asking.{asked}
use Rattle.ns_endpoints.specs.Drawing.{DrawsFor}
use Rattle.ns_api.specs.Answering.{Answers, Holding}
use Rattle.ns_api.specs.Following.{Stays}
use Rattle.ns_api.specs.Serving.{Served, ServedInPart}

-- ---- a call for a step

-- the reply refuses a step for want of memory, or because the log is full
abbrev pub IsWant : Rendered → Type 0
IsWant reply = (reply ≡ refused Memory) ⊎ (reply ≡ refused LogFull)

-- the seat gained one receipt, of this step and this reply at some place; or it gained none, and the reply is such a refusal
abbrev pub GainsOrWants : Step → List Receipt → Rendered → List Receipt → Type 0
GainsOrWants step old reply new =
    ((place : ℕ) × (new ≡ old ++ receipt place step reply ∷ [])) ⊎ ((new ≡ old) × IsWant reply)

-- the reply is this refusal, and nothing was drawn
abbrev pub DrawsNothing : {D : Type 0} → Refusal → D → Rendered → D → Type 0
DrawsNothing refusal old reply new = (reply ≡ refused refusal) × (new ≡ old)

-- ---- the requests of a connection, by what is drawn

module _ {D : Type 0} (draws : D → List ℕ → D → Type 0) where
  -- the request gained no receipt: it was refused without the state, or for want of memory before the draws, or after them for
  -- want of memory or because the log was full
  abbrev pub MakesNone : Result Step Refusal → D → Rendered → D → Type 0
  MakesNone (Err refusal) old reply new = DrawsNothing refusal old reply new ⊎ DrawsNothing Memory old reply new
  MakesNone (Ok step) old reply new =
      DrawsNothing Memory old reply new ⊎ ((made : Step) × DrawsFor draws step old made new × IsWant reply)

  -- the request gained this receipt: its step is the one that was asked for, with what was drawn for it, and its reply is the
  -- reply
  pub record MakesOne (asks : Result Step Refusal) (old : D) (reply : Rendered) (new : D) (receipt : Receipt) : Type 0 where
    pub wanted : Step
    pub asks_wanted : asks ≡ Ok wanted
    pub draws_made : DrawsFor draws wanted old receipt.step new
    pub shows_told : reply ≡ receipt.rendered

  -- the receipt that a request gained, if it gained one
  abbrev pub Gains : Result Step Refusal → D → Rendered → D → List Receipt → Type 0
  Gains asks old reply new [] = MakesNone asks old reply new
  Gains asks old reply new (receipt ∷ []) = MakesOne asks old reply new receipt
  Gains asks old reply new _ = ⊥

  -- The requests, in their order, gained these receipts, in their order, and no others, and drew for them in this order.
  -- A request that was refused by its head gained none.
  abbrev pub GainsAll : D → List Exchange → List Receipt → D → Type 0
  GainsAll old [] gained new = (gained ≡ []) × (new ≡ old)
  GainsAll old ((Refused fault, reply) ∷ exchanges) gained new =
      (reply ≡ refusal_of fault) × GainsAll old exchanges gained new
  GainsAll old ((Whole m, reply) ∷ exchanges) gained new = (next : D) × (own : List Receipt) × (rest : List Receipt) ×
      Gains (asked (asked_by m)) old reply next own × (gained ≡ own ++ rest) × GainsAll next exchanges rest new

  -- the exchanges added these receipts, and no others
  pub record Made (old : List Receipt × D) (exchanges : List Exchange) (new : List Receipt × D) : Type 0 where
    pub gained : List Receipt
    pub added : new.0 ≡ old.0 ++ gained
    pub gains : GainsAll old.1 exchanges gained new.1

-- ---- a connection: the receipts of the seat that takes its steps, and what is drawn

module _ {S D F : Type 0} (receipts : S → List Receipt) (draws : D → List ℕ → D → Type 0) where
  abbrev pub AnswersBySeat : Holding S D F → Asked → Rendered → Holding S D F → Type 0
  AnswersBySeat = Answers (λ step old reply new. GainsOrWants step (receipts old) reply (receipts new)) draws Stays

  -- the receipts of the seat, and the drawer
  abbrev pub seat_of : Holding S D F → List Receipt × D
  seat_of h = (receipts h.taker, h.draws)

  abbrev pub MadeBySeat : Holding S D F → List Exchange → Holding S D F → Type 0
  MadeBySeat old exchanges new = Made draws (seat_of old) exchanges (seat_of new)

-- the connection was served: its bytes, and the receipts that its requests gained
abbrev pub ServedBySeat : {S D F : Type 0} → Holding S D F → Holding S D F → (S → List Receipt) → (D → List ℕ → D → Type 0) →
    Streams → End → Type 0
ServedBySeat old new receipts draws = Served (AnswersBySeat receipts draws) (MadeBySeat receipts draws) old new

-- the connection was served until the writer failed: its bytes, and the receipts that its requests gained
abbrev pub ServedBySeatInPart : {S D F : Type 0} → Holding S D F → Holding S D F → (S → List Receipt) → (D → List ℕ → D → Type 0) →
    Streams → Type 0
ServedBySeatInPart old new receipts draws = ServedInPart (AnswersBySeat receipts draws) (MadeBySeat receipts draws) old new
