-- A run by the first steps of a list.
use Rattle.std.specs.Prelude.{◌≡◌, ℕ, ◌+◌, ◌<◌, true, false, List, [], ◌∷◌, ◌++◌, length, take, get_or, Some, None, Ok, Err, IfErr, slice_get}
use Rattle.std.proofs.Common.{refl, ap, sym, subst, ◌∙◌}
use Rattle.std.proofs.lemmas.List.{length-append, take_more}
use Rattle.std.proofs.lemmas.Option.{slice_get_read}
use Rattle.ns_types.specs.declared.refusal.Refusal.{Refusal}
use Rattle.ns_types.specs.declared.step.Step.{Step}
use Rattle.ns_types.specs.State.Rows.{State}
use Rattle.ns_types.specs.Steps.{Answer, Run, after, said}
use Rattle.ns_types.proofs.Lists.{not_both}
use Rattle.ns_steps.proofs.Runs.{run_then}
use Rattle.ns_replay.specs.Making.{MakesAny}
use Rattle.ns_replay.specs.Running.{Ends, RunsOver, is_no_step}

-- a call that was refused leaves the state as it is
rests : (step : Step) (s s' : State) (refusal : Refusal) → MakesAny step s (Err refusal) s' → s' ≡ s
rests step s s' Refusal.Memory m = m.1
rests step s s' Refusal.NotEnabled m = m.1
rests step s s' refusal m = m.1

-- a call that was answered made its step
made_one : (step : Step) (s s' : State) (answer : Answer) → IfErr answer (λ refusal. is_no_step refusal ≡ false) → MakesAny step s answer s' →
    after step s ≡ said answer s'
made_one step s s' (Ok reply) goes m = m
made_one step s s' (Err Refusal.Memory) goes m = not_both refl goes
made_one step s s' (Err Refusal.NotEnabled) goes m = not_both refl goes
made_one step s s' (Err refusal) goes m = m.0 ∙ ap (said (Err refusal)) (sym m.1)

-- the first steps were made, with these answers
pub record HasRun (s : State) (steps : List Step) (count : ℕ) (answers : List Answer) (s' : State) : Type 0 where
  pub run : Run s (take count steps) answers s'
  pub are_so_many : length answers ≡ count

module _ (s mid s' : State) (steps : List Step) (count : ℕ) (answers : List Answer) (far : HasRun s steps count answers mid) where
  pub runs_more : (step : Step) (answer : Answer) → count < length steps → step ≡ get_or steps count step →
      IfErr answer (λ refusal. is_no_step refusal ≡ false) → MakesAny step mid answer s' →
      HasRun s steps (count + 1) (answers ++ answer ∷ []) s'
  runs_more step answer within is goes made = record {
    run = subst (λ xs. Run s xs (answers ++ answer ∷ []) s') (ap (λ x. take count steps ++ x ∷ []) is ∙ sym (take_more steps count step within))
        (run_then s mid s' (take count steps) answers step answer far.run (made_one step mid s' answer goes made));
    are_so_many = length-append answers (answer ∷ []) ∙ ap (λ n. n + 1) far.are_so_many;
  }

  -- the next call made no step
  pub stops : (step : Step) (answer : Answer) (refusal : Refusal) → count < length steps → step ≡ get_or steps count step → answer ≡ Err refusal →
      is_no_step refusal ≡ true → MakesAny step mid answer s' → RunsOver s steps answers (Some refusal) s'
  stops step answer refusal within is was none made =
      let made' = subst (λ a. MakesAny step mid a s') was made in
      let same = rests step mid s' refusal made' in
      record {
        run = subst (λ x. Run s (take (length answers) steps) answers x) (sym same)
            (subst (λ n. Run s (take n steps) answers mid) (sym far.are_so_many) far.run);
        ends = Ends.stopped step refusal (ap (slice_get steps) far.are_so_many ∙ slice_get_read steps (length steps) count step refl within is) none
            (subst (λ x. MakesAny step x (Err refusal) x) (sym same) (subst (λ x. MakesAny step mid (Err refusal) x) same made'));
      }

-- all were made
pub all_made : (s s' : State) (steps : List Step) (answers : List Answer) → HasRun s steps (length steps) answers s' → RunsOver s steps answers None s'
all_made s s' steps answers far = record {
  run = subst (λ n. Run s (take n steps) answers s') (sym far.are_so_many) far.run;
  ends = Ends.all far.are_so_many;
}

-- there was no list
pub none_made : (s : State) (steps : List Step) → RunsOver s steps [] (Some Refusal.Memory) s
none_made s steps = record { run = refl; ends = Ends.no_list refl }
