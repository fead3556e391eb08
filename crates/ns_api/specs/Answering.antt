-- The reply to a request, what follows it, and the steps that a connection with a server makes.
use Rattle.std.specs.Prelude.{◌≡◌, ◌⊎◌, ℕ, List, [], ◌∷◌, ◌++◌, Result, Ok, Err}
use Rattle.ns_types.specs.declared.refusal.Refusal.{Refusal}
use Rattle.ns_types.specs.declared.refusal.Refusal.TheVariants.{Memory}
use Rattle.ns_types.specs.declared.reply.Rendered.{Rendered}
use Rattle.ns_types.specs.declared.step.Step.{Step}
use Rattle.ns_types.specs.Wire.Http.{Asked, asked_by, Whole, Refused}
use Rattle.ns_types.specs.Wire.Refused.{refused}
use Rattle.ns_types.specs.State.Rows.{State}
use Rattle.ns_types.specs.Steps.{Answer, Run}
use Rattle.ns_types.specs.Wire.Responses.{Exchange, refusal_of}
use Rattle.ns_steps.specs.Chains.{Chain, IsMade}
use Rattle.ns_json.specs.Replies.{rendered}
use Rattle.ns_endpoints.specs.Asking.{asked}
use Rattle.ns_endpoints.specs.Drawing.{DrawsFor}
use Rattle.ns_api.specs.Following.{FollowsInChain}

-- what takes the steps, the source of random bits, and the follower, which acts after each request
pub record Holding (S D F : Type 0) : Type 0 where
  pub taker : S
  pub draws : D
  pub follower : F

-- ---- one request, over what takes its step and what draws

-- a refusal that changes nothing
abbrev pub AnswersRefused : {S : Type 0} → Refusal → S → Rendered → S → Type 0
AnswersRefused refusal old reply new = (reply ≡ refused refusal) × (new ≡ old)

-- `takes` is what a call for a step does, and `draws` relates a draw to the source before and after it
module _ {S D : Type 0} (takes : Step → S → Rendered → S → Type 0) (draws : D → List ℕ → D → Type 0) where
  -- the refusal that needs no state; or what a call for the step that is asked for does, with what is drawn for it; or
  -- want of memory for that step
  abbrev pub AnswersAsked : Result Step Refusal → S × D → Rendered → S × D → Type 0
  AnswersAsked (Err refusal) old reply new = AnswersRefused refusal old reply new
  AnswersAsked (Ok step) old reply new = (made : Step) × DrawsFor draws step old.1 made new.1 ×
      (takes made old.0 reply new.0 ⊎ AnswersRefused Memory old.0 reply new.0)

  -- want of memory may also come before the step is known
  abbrev pub AnswersRequest : S × D → Asked → Rendered → S × D → Type 0
  AnswersRequest old a reply new = AnswersAsked (asked a) old reply new ⊎ AnswersRefused Memory old reply new

  -- a request is answered, and then comes what follows, which draws nothing
  pub record Answers {F : Type 0} (follows : F → S → S → F → Type 0) (old : Holding S D F) (a : Asked)
      (reply : Rendered) (new : Holding S D F) : Type 0 where
    pub between : S
    pub answered : AnswersRequest (old.taker, old.draws) a reply (between, new.draws)
    pub followed : follows old.follower between new.taker new.follower

-- ---- a server, which makes steps of the model

-- why a call makes no step: memory is wanting, or something else that the server lacks
abbrev pub IsWanting : {S : Type 0} → (S → Refusal → Type 0) → S → Refusal → Type 0
IsWanting lacks s refusal = (refusal ≡ Memory) ⊎ lacks s refusal

-- for the state that a server stands for, what a step notes besides, and what the server may lack
module _ {S : Type 0} (state : S → State) (notes : S → Step → Answer → S → Type 0) (lacks : S → Refusal → Type 0) where
  -- the step was made, and the reply is its answer
  abbrev pub AnswersStep : Step → S → Rendered → S → Type 0
  AnswersStep step s reply s' = (answer : Answer) × IsMade state notes s step answer s' × (reply ≡ rendered answer)

  -- the step was not made, because something was wanting, and nothing changed
  abbrev pub AnswersWant : S → Rendered → S → Type 0
  AnswersWant s reply s' = (refusal : Refusal) × IsWanting lacks s refusal × AnswersRefused refusal s reply s'

  abbrev pub AnswersOrWants : Step → S → Rendered → S → Type 0
  AnswersOrWants step s reply s' = AnswersStep step s reply s' ⊎ AnswersWant s reply s'

  module _ {D : Type 0} (draws : D → List ℕ → D → Type 0) where
    -- a request that made no step: it was refused without the state, or for want of memory before the draws, or for
    -- want of something after them
    abbrev pub MakesNone : Result Step Refusal → S → D → Rendered → D → Type 0
    MakesNone (Err refusal) s old reply new =
        AnswersRefused refusal old reply new ⊎ AnswersRefused Memory old reply new
    MakesNone (Ok step) s old reply new = AnswersRefused Memory old reply new ⊎ ((made : Step) ×
        DrawsFor draws step old made new × (refusal : Refusal) × IsWanting lacks s refusal × (reply ≡ refused refusal))

    -- a request that made this step, whose answer it got
    pub record MakesOne (asks : Result Step Refusal) (s : S) (old : D) (reply : Rendered) (new : D) (made : Step)
        (told : Answer) : Type 0 where
      pub wanted : Step
      pub asks_wanted : asks ≡ Ok wanted
      pub draws_made : DrawsFor draws wanted old made new
      pub shows_told : reply ≡ rendered told

    -- the step that a request made itself with its answer, if it made one
    abbrev pub MakesOwn : Result Step Refusal → S → D → Rendered → D → List Step → List Answer → Type 0
    MakesOwn asks s old reply new [] [] = MakesNone asks s old reply new
    MakesOwn asks s old reply new (made ∷ []) (told ∷ []) = MakesOne asks s old reply new made told
    MakesOwn asks s old reply new _ _ = ⊥

    -- ---- with the steps that follow each request

    module _ {F : Type 0} (follows : F → S → List Step → List Answer → S → F → Type 0) where
      abbrev pub AnswersByServer : Holding S D F → Asked → Rendered → Holding S D F → Type 0
      AnswersByServer = Answers AnswersOrWants draws (FollowsInChain state notes follows)

      -- A request made the first of these steps: its own, if it made one, and then those that followed. The rest is
      -- left.
      pub record MakesFirst (asks : Result Step Refusal) (old : Holding S D F) (reply : Rendered) (new : Holding S D F)
          (steps : List Step) (answers : List Answer) (steps' : List Step) (answers' : List Answer) : Type 0 where
        pub between : S
        pub own : List Step
        pub told : List Answer
        pub own_chain : Chain state notes old.taker own told between
        pub makes_own : MakesOwn asks old.taker old.draws reply new.draws own told
        pub following : List Step
        pub answered : List Answer
        pub followed : follows old.follower between following answered new.taker new.follower
        pub chain : Chain state notes between following answered new.taker
        pub are_steps : steps ≡ own ++ following ++ steps'
        pub are_answers : answers ≡ told ++ answered ++ answers'

      -- The requests, in their order, made exactly these steps, in their order, each with the steps that followed it, and drew
      -- random bits in this order. Nothing follows a request whose head was refused.
      abbrev pub Made : Holding S D F → List Exchange → List Step → List Answer → Holding S D F → Type 0
      Made old [] steps answers new = (steps ≡ []) × (answers ≡ []) × (new ≡ old)
      Made old ((Refused fault, reply) ∷ exchanges) steps answers new =
          (reply ≡ refusal_of fault) × Made old exchanges steps answers new
      Made old ((Whole m, reply) ∷ exchanges) steps answers new = (next : Holding S D F) ×
          (steps' : List Step) × (answers' : List Answer) ×
          MakesFirst (asked (asked_by m)) old reply next steps answers steps' answers' ×
          Made next exchanges steps' answers' new

      -- the steps that the requests of a connection made, with all that followed them, are one chain, and so one run of the
      -- model
      pub record RunsAs (old : Holding S D F) (exchanges : List Exchange) (new : Holding S D F) : Type 0 where
        pub steps : List Step
        pub answers : List Answer
        pub chain : Chain state notes old.taker steps answers new.taker
        pub run : Run (state old.taker) steps answers (state new.taker)
        pub made : Made old exchanges steps answers new
