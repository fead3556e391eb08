-- One step of both servers.
use Rattle.std.specs.Prelude.{◌≡◌, true, false, cond, List, [], ◌∷◌}
use Rattle.std.proofs.Common.{refl, sym, subst}
use Rattle.ns_types.specs.declared.step.Step.{Step}
use Rattle.ns_types.specs.State.Names.{Name}
use Rattle.ns_types.specs.State.Rows.{State}
use Rattle.ns_types.specs.Steps.{Answer, Run, after, said}
use Rattle.ns_audit.proofs.StepLemmas.{one_outcome}
use Rattle.ns_audit.specs.Orderly.{IsSteady}
use Rattle.ns_audit.proofs.Alone.Running.{steady_step}
use Rattle.ns_replay.specs.Abreast.{StandsBeside}
use Rattle.ns_types.specs.Access.Sharing.{is_apart}
use Rattle.ns_types.specs.Isolation.{Agree, IsIsolated, alone, is_crowded_out, is_own, part_of, struck, struck_answers}
use Rattle.ns_audit.proofs.Alone.Heading.{other_step, own_step}

module _ (ns : Name) (pools quotas : List Name) where
  pub beside_first : (s : State) → IsSteady s → is_apart s.world ns pools quotas ≡ true → StandsBeside ns pools quotas s (alone (part_of ns pools quotas) s)
  beside_first s steady apart = record { steady = steady; apart = apart; agree = refl }

  module _ (s t : State) (a : StandsBeside ns pools quotas s t) (step : Step) (answer : Answer) (s' : State) (made : after step s ≡ said answer s')
      (uncrowded : is_crowded_out (part_of ns pools quotas) step s answer ≡ false) where
    -- its own step is answered alike
    pub own_alike : is_own (part_of ns pools quotas) step ≡ true → (t' : State) × (after step t ≡ said answer t') × Agree (part_of ns pools quotas) s' t'
    own_alike own = own_step ns pools quotas s t s' step answer a.steady a.apart a.agree own uncrowded made

    module _ (apart : is_apart s'.world ns pools quotas ≡ true) where
      beside_then : (t' : State) → Agree (part_of ns pools quotas) s' t' → StandsBeside ns pools quotas s' t'
      beside_then t' agree = record { steady = steady_step s s' step answer a.steady made; apart = apart; agree = agree }

      -- the states are side by side again
      pub own_beside : is_own (part_of ns pools quotas) step ≡ true → (t' : State) → after step t ≡ said answer t' → StandsBeside ns pools quotas s' t'
      own_beside own t' alike = let next = own_alike own in
          beside_then t' (subst (λ x. Agree (part_of ns pools quotas) s' x) (one_outcome step t next.0 t' answer answer next.1 alike).1 next.2)

      pub other_beside : is_own (part_of ns pools quotas) step ≡ false → StandsBeside ns pools quotas s' t
      other_beside other = beside_then t (other_step ns pools quotas s t s' step answer a.steady a.apart apart a.agree other made)

  -- ---- a run

  pub first_apart : (s s1 : State) (steps : List Step) (answers : List Answer) → IsIsolated ns pools quotas s steps answers s1 →
      is_apart s.world ns pools quotas ≡ true
  first_apart s s1 [] [] i = i.0
  first_apart s s1 (step ∷ steps) (answer ∷ answers) i = i.1
  first_apart s s1 [] (answer ∷ answers) i = absurd i
  first_apart s s1 (step ∷ steps) [] i = absurd i

  pub beside_run : (s t s1 t1 : State) (steps : List Step) (answers : List Answer) → StandsBeside ns pools quotas s t →
      IsIsolated ns pools quotas s steps answers s1 →
      Run t (struck (part_of ns pools quotas) steps) (struck_answers (part_of ns pools quotas) steps answers) t1 → StandsBeside ns pools quotas s1 t1
  beside_run s t s1 t1 [] [] a i r = subst (λ x. StandsBeside ns pools quotas x t1) (sym i.1) (subst (λ x. StandsBeside ns pools quotas s x) (sym r) a)
  beside_run s t s1 t1 (step ∷ steps) (answer ∷ answers) a i r =
      let later = first_apart i.0 s1 steps answers i.4 in
      elim (is_own (part_of ns pools quotas) step) as (λ b. is_own (part_of ns pools quotas) step ≡ b →
      Run t (cond b (step ∷ struck (part_of ns pools quotas) steps) (struck (part_of ns pools quotas) steps))
      (cond b (answer ∷ struck_answers (part_of ns pools quotas) steps answers) (struck_answers (part_of ns pools quotas) steps answers)) t1 →
      StandsBeside ns pools quotas s1 t1) [
        | true ↦ λ own r. beside_run i.0 r.0 s1 t1 steps answers (own_beside s t a step answer i.0 i.2 i.3 later own r.0 r.1) i.4 r.2
        | false ↦ λ other r. beside_run i.0 t s1 t1 steps answers (other_beside s t a step answer i.0 i.2 i.3 later other) i.4 r
      ] refl r
  beside_run s t s1 t1 [] (answer ∷ answers) a i r = absurd i
  beside_run s t s1 t1 (step ∷ steps) [] a i r = absurd i
