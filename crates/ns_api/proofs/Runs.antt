-- The answers of a connection, with what follows each, are a chain and so a run.
use Rattle.std.proofs.Common.{◌≡◌, ◌⊎◌, ℕ, inl, inr, List, [], ◌∷◌, ◌++◌, Result, Ok, Err, refl, ap}
use Rattle.ns_types.specs.declared.refusal.Refusal.{Refusal}
use Rattle.ns_types.specs.declared.refusal.Refusal.TheVariants.{Memory}
use Rattle.ns_types.specs.declared.reply.Rendered.{Rendered}
use Rattle.ns_types.specs.declared.step.Step.{Step}
use Rattle.ns_types.specs.Wire.Http.{Asked, End, Message, asked_by, Whole, Refused}
use Rattle.ns_types.specs.State.Rows.{State}
use Rattle.ns_types.specs.Steps.{Answer}
use Rattle.ns_types.specs.Wire.Responses
use Rattle.ns_types.specs.Wire.Responses.{Exchange}
use Rattle.ns_steps.specs.Chains.{Chain}
use Rattle.ns_steps.proofs.Chains.{is_run, join, one}
use Rattle.ns_endpoints.specs.Asking.{asked}
use Rattle.ns_endpoints.specs.Drawing.{DrawsFor}
use Rattle.ns_http.specs.Conversation.{Conversation, CutShort, Streams}
use Rattle.ns_api.specs.Answering.{AnswersAsked, AnswersByServer, AnswersOrWants, AnswersRefused, AnswersRequest, Holding, MakesNone, MakesOwn, Made, RunsAs}
use Rattle.ns_api.specs.Serving.{Served, ServedInPart}

module _ {S D : Type 0} (state : S → State) (notes : S → Step → Answer → S → Type 0) (lacks : S → Refusal → Type 0)
    (draws : D → List ℕ → D → Type 0) where
  -- what a request made itself, as a chain
  record OwnChain (asks : Result Step Refusal) (old : S × D) (reply : Rendered) (new : S × D) : Type 0 where
    steps : List Step
    answers : List Answer
    chain : Chain state notes old.0 steps answers new.0
    makes : MakesOwn state notes lacks draws asks old.0 old.1 reply new.1 steps answers

  none : (asks : Result Step Refusal) (old new : S × D) (reply : Rendered) →
      MakesNone state notes lacks draws asks old.0 old.1 reply new.1 → new.0 ≡ old.0 → OwnChain asks old reply new
  none asks old new reply makes same = record { steps = []; answers = []; chain = same; makes = makes }

  refused_alone : (refusal : Refusal) (old new : S × D) (reply : Rendered) → AnswersRefused refusal old reply new →
      AnswersRefused refusal old.1 reply new.1
  refused_alone refusal old new reply r = (r.0, ap (λ x. x.1) r.1)

  none_memory : (asks : Result Step Refusal) (old new : S × D) (reply : Rendered) → AnswersRefused Memory old reply new →
      MakesNone state notes lacks draws asks old.0 old.1 reply new.1
  none_memory (Ok step) old new reply r = inl (refused_alone Memory old new reply r)
  none_memory (Err refusal) old new reply r = inr (refused_alone Memory old new reply r)

  -- a step that was made, or not for want of something
  own_made : (reply : Rendered) (old new : S × D) (wanted made : Step) → DrawsFor draws wanted old.1 made new.1 →
      AnswersOrWants state notes lacks made old.0 reply new.0 ⊎ AnswersRefused Memory old.0 reply new.0 → OwnChain (Ok wanted) old reply new
  own_made reply old new wanted made drawn (inl (inl a)) = record {
    steps = made ∷ [];
    answers = a.0 ∷ [];
    chain = one state notes old.0 new.0 made a.0 a.1;
    makes = record { wanted = wanted; asks_wanted = refl; draws_made = drawn; shows_told = a.2 };
  }
  own_made reply old new wanted made drawn (inl (inr w)) =
      none (Ok wanted) old new reply (inr (made, drawn, w.0, w.1, w.2.0)) w.2.1
  own_made reply old new wanted made drawn (inr w) =
      none (Ok wanted) old new reply (inr (made, drawn, Memory, inl refl, w.0)) w.1

  own_asked : (asks : Result Step Refusal) (reply : Rendered) (old new : S × D) →
      AnswersAsked (AnswersOrWants state notes lacks) draws asks old reply new → OwnChain asks old reply new
  own_asked (Err refusal) reply old new a =
      none (Err refusal) old new reply (inl (refused_alone refusal old new reply a)) (ap (λ x. x.0) a.1)
  own_asked (Ok wanted) reply old new a = own_made reply old new wanted a.0 a.1 a.2

  own : (a : Asked) (reply : Rendered) (old new : S × D) → AnswersRequest (AnswersOrWants state notes lacks) draws old a reply new →
      OwnChain (asked a) old reply new
  own a reply old new (inl answers) = own_asked (asked a) reply old new answers
  own a reply old new (inr w) = none (asked a) old new reply (none_memory (asked a) old new reply w) (ap (λ x. x.0) w.1)

module _ {S D F : Type 0} (state : S → State) (notes : S → Step → Answer → S → Type 0) (lacks : S → Refusal → Type 0)
    (draws : D → List ℕ → D → Type 0) (follows : F → S → List Step → List Answer → S → F → Type 0) where
  -- the steps of a chain with the run that they are
  runs_as : (old : Holding S D F) (exchanges : List Exchange) (new : Holding S D F) (steps : List Step) (answers : List Answer) →
      Chain state notes old.taker steps answers new.taker →
      Made state notes lacks draws follows old exchanges steps answers new →
      RunsAs state notes lacks draws follows old exchanges new
  runs_as old exchanges new steps answers chain made = record {
    steps = steps;
    answers = answers;
    chain = chain;
    run = is_run state notes old.taker new.taker steps answers chain;
    made = made;
  }

  whole_first : (m : Message) (reply : Rendered) (old mid new : Holding S D F) (exchanges : List Exchange) →
      AnswersByServer state notes lacks draws follows old (asked_by m) reply mid → RunsAs state notes lacks draws follows mid exchanges new →
      RunsAs state notes lacks draws follows old ((Whole m, reply) ∷ exchanges) new
  whole_first m reply old mid new exchanges a r =
      let o = own state notes lacks draws (asked_by m) reply (old.taker, old.draws) (a.between, mid.draws) a.answered in
      let steps = a.followed.0 in
      let answers = a.followed.1 in
      let first = join state notes old.taker a.between mid.taker o.steps steps o.answers answers o.chain a.followed.3 in
      let all = join state notes old.taker mid.taker new.taker (o.steps ++ steps) r.steps (o.answers ++ answers) r.answers first r.chain in
      runs_as old ((Whole m, reply) ∷ exchanges) new (o.steps ++ steps ++ r.steps) (o.answers ++ answers ++ r.answers) all (
        mid,
        r.steps,
        r.answers,
        record {
          between = a.between;
          own = o.steps;
          told = o.answers;
          own_chain = o.chain;
          makes_own = o.makes;
          following = steps;
          answered = answers;
          followed = a.followed.2;
          chain = a.followed.3;
          are_steps = refl;
          are_answers = refl;
        },
        r.made,
      )

  pub runs : (old : Holding S D F) (exchanges : List Exchange) (new : Holding S D F) →
      Responses.Answers (AnswersByServer state notes lacks draws follows) old exchanges new → RunsAs state notes lacks draws follows old exchanges new
  runs old [] new c = runs_as old [] new [] [] (ap (λ x. x.taker) c) (refl, refl, c)
  runs old ((Whole m, reply) ∷ exchanges) new c = whole_first m reply old c.0 new exchanges c.1 (runs c.0 exchanges new c.2)
  runs old ((Refused fault, reply) ∷ exchanges) new c =
      let r = runs old exchanges new c.1 in
      runs_as old ((Refused fault, reply) ∷ exchanges) new r.steps r.answers r.chain (c.0, r.made)

  -- a connection with the run that it made
  pub served : (old new : Holding S D F) (streams : Streams) (end : End) →
      Conversation (AnswersByServer state notes lacks draws follows) old new streams end →
      Served (AnswersByServer state notes lacks draws follows) (RunsAs state notes lacks draws follows) old new streams end
  served old new streams end c = record { conversation = c; made = runs old c.exchanges new c.answered }

  pub served_in_part : (old new : Holding S D F) (streams : Streams) → CutShort (AnswersByServer state notes lacks draws follows) old new streams →
      ServedInPart (AnswersByServer state notes lacks draws follows) (RunsAs state notes lacks draws follows) old new streams
  served_in_part old new streams c = record { conversation = c; made = runs old c.exchanges new c.serves.answered }
