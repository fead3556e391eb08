-- One step after the other.
use Rattle.std.specs.Prelude.{◌≡◌, ◌<◌, ◌≤◌, ℕ, ◌+◌, List, [], ◌∷◌, ◌++◌, length, Option, Ok, Err}
use Rattle.std.proofs.Common.{arith, inl, inr, refl, ap, subst, sym, ◌∙◌}
use Rattle.std.proofs.lemmas.List.{length-append}
use Rattle.ns_types.specs.declared.refusal.Refusal.{Refusal}
use Rattle.ns_types.specs.declared.snapshot.Snapshot.{Snapshot}
use Rattle.ns_types.specs.declared.step.Step.{Step}
use Rattle.ns_types.specs.State.Rows.{State}
use Rattle.ns_types.specs.Steps.{Answer}
use Rattle.ns_steps.specs.Chains.{Chain}
use Rattle.ns_steps.proofs.Chains.{then}
use Rattle.ns_driver.specs.declared.stopping.Stop.{Stop}
use Rattle.ns_driver.specs.Driving.{Drives, IsRefused, MakesMany, MakesOne, Rounds, Stops, most_steps}
use Rattle.ns_driver.specs.Working.{Ends}

module _ {S : Type 0} (state : S → State) (notes : S → Step → Answer → S → Type 0) (lacks : S → Step → Refusal → Type 0) where
  -- the steps of a round so far
  pub record HasMade (s : S) (has : Option Snapshot) (count : ℕ) (s' : S) (has' : Option Snapshot) : Type 0 where
    pub steps : List Step
    pub answers : List Answer
    pub chain : Chain state notes s steps answers s'
    pub makes : MakesMany state notes lacks s has steps answers s' has'
    pub are_so_many : length steps ≡ count

  pub made_none : (s : S) (has : Option Snapshot) → HasMade s has 0 s has
  made_none s has = record { steps = []; answers = []; chain = refl; makes = MakesMany.none; are_so_many = refl }

  pub made_more : (s mid s' : S) (has held has' : Option Snapshot) (count : ℕ) → HasMade s has count mid held →
      MakesOne state notes lacks mid held s' has' → HasMade s has (count + 1) s' has'
  made_more s mid s' has held has' count m one = record {
    steps = m.steps ++ one.step ∷ [];
    answers = m.answers ++ Ok one.reply ∷ [];
    chain = then state notes s mid s' m.steps m.answers one.step (Ok one.reply) m.chain one.made;
    makes = MakesMany.more m.steps m.answers mid held s' has' m.makes one;
    are_so_many = length-append m.steps (one.step ∷ []) ∙ ap (λ n. n + 1) m.are_so_many;
  }

  abbrev pub Driven : S → Option Snapshot → S → Option Snapshot → Stop → Type 0
  Driven s has s' has' stop = (steps : List Step) × (answers : List Answer) × Drives state notes lacks s has steps answers s' has' stop

  -- as many as one round may make
  pub at_limit : (s s' : S) (has has' : Option Snapshot) → HasMade s has most_steps s' has' → Driven s has s' has' Stop.Limit
  at_limit s s' has has' m = (
    m.steps,
    m.answers,
    record {
      chain = m.chain;
      few = subst (λ n. n ≤ most_steps) (sym m.are_so_many) (let all : most_steps ≤ most_steps = omega arith in all);
      makes = Rounds.limit m.steps m.answers s' has' m.makes m.are_so_many;
    },
  )

  -- fewer, and then no more
  stopped : (s s' : S) (has has' : Option Snapshot) (count : ℕ) (stop : Stop) → HasMade s has count s' has' → count < most_steps →
      Stops state notes lacks s' has' stop → Driven s has s' has' stop
  stopped s s' has has' count stop m few stops = (
    m.steps,
    m.answers,
    record {
      chain = m.chain;
      few = subst (λ n. n ≤ most_steps) (sym m.are_so_many) (let less : count ≤ most_steps = omega arith in less);
      makes = Rounds.stopped m.steps m.answers s' has' stop m.makes stops;
    },
  )

  -- the last one was refused by the model
  refused : (s mid s' : S) (has has' : Option Snapshot) (count : ℕ) (step : Step) (refusal : Refusal) → HasMade s has count mid has' →
      count < most_steps → IsRefused state notes lacks mid step refusal s' → Driven s has s' has' (Stop.Refused refusal)
  refused s mid s' has has' count step refusal m few last = (
    m.steps ++ step ∷ [],
    m.answers ++ Err refusal ∷ [],
    record {
      chain = then state notes s mid s' m.steps m.answers step (Err refusal) m.chain last.made;
      few = subst (λ n. n ≤ most_steps) (sym (length-append m.steps (step ∷ []) ∙ ap (λ n. n + 1) m.are_so_many))
          (let less : count + 1 ≤ most_steps = omega arith in less);
      makes = Rounds.refused m.steps m.answers mid s' has' step refusal m.makes last;
    },
  )

  pub ended : (s mid s' : S) (has held has' : Option Snapshot) (count : ℕ) (stop : Stop) → HasMade s has count mid held → count < most_steps →
      has' ≡ held → Ends state notes lacks mid has' stop s' → Driven s has s' has' stop
  ended s mid s' has held has' count stop m few same ends = by (subst (λ h. HasMade s has count mid h) (sym same) m) ends
    where
      by : HasMade s has count mid has' → Ends state notes lacks mid has' stop s' → Driven s has s' has' stop
      by m (inl rests) = subst (λ x. Driven s has x has' stop) (sym rests.1) (stopped s mid has has' count stop m few rests.0)
      by m (inr last) = subst (λ x. Driven s has s' has' x) (sym last.2) (refused s mid s' has has' count last.0 last.1 m few last.3)
