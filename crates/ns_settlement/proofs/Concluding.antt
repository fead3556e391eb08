-- A step that is prepared and ended in the tables: what is answered is the model's answer, and what is left its state.
use Rattle.std.specs.Prelude.{◌≡◌, Bool, true, if◌then◌else◌, Option, Result, Ok, Err}
use Rattle.std.proofs.Common.{refl, sym, ap, ◌∙◌}
use Rattle.ns_types.specs.declared.refusal.Refusal.{Refusal}
use Rattle.ns_types.specs.declared.reply.Content.{Content}
use Rattle.ns_types.specs.declared.step.Step.{Step}
use Rattle.ns_types.specs.Settling.Outcome.{Done, Outcome, is_done, lift}
use Rattle.ns_types.specs.Settling.Settle.{settle}
use Rattle.ns_types.specs.State.Rows.{State, World}
use Rattle.ns_types.specs.Steps.{Answer, Makes, act, after, concluded, is_allowed, is_made, is_past_bound, reply_of, said}
use Rattle.ns_change.specs.declared.change.Prepared.{Prepared}
use Rattle.ns_change.specs.Changed.{view}
use Rattle.ns_change.specs.Prepared.{Prepares}
use Rattle.ns_tables.specs.declared.tables.Tables.{Tables}
use Rattle.ns_settlement.specs.Concludes.{Concludes, answer_of}

module _ (step : Step) (s : State) where
  abbrev with_world : World → State
  with_world x = record s { world = x }

  module _ (allowed : is_allowed step s.acl ≡ true) where
    goes : after step s ≡ concluded step s (act step s)
    unfolding after
    goes = ap (λ b. if b then concluded step s (act step s) else said (Err Refusal.Denied) s) allowed

    -- ---- what preparing the step tells

    -- Its content and the change, or the answer. Where memory is wanting, only that the step itself would be done: whether a
    -- counter passes its bound by it, no change tells.
    abbrev pub FitsStep : Tables → Result Prepared Refusal → Type 0
    FitsStep t (Ok x) = act step s ≡ Done x.content (with_world (view t x.change))
    FitsStep t (Err Refusal.Memory) = is_done (act step s) ≡ true
    FitsStep t (Err refusal) = Makes step s (Err refusal) s

    pub tells : (outcome : Outcome World) → act step s ≡ lift with_world outcome → (t : Tables) (result : Result Prepared Refusal) →
        Prepares outcome t result → FitsStep t result
    tells outcome is t (Ok x) h = is ∙ ap (lift with_world) h
    tells outcome is t (Err Refusal.Memory) h = ap is_done is ∙ done outcome h
      where
        done : (o : Outcome World) → is_done o ≡ true → is_done (lift with_world o) ≡ true
        done (Done content w) h = refl
        done _ h = h
    tells outcome is t (Err Refusal.NotEnabled) h = (goes ∙ ap (concluded step s) (is ∙ ap (lift with_world) h), refl)
    tells outcome is t (Err refusal) h = (goes ∙ ap (concluded step s) (is ∙ ap (lift with_world) h), refl)

    -- ---- its end

    module _ (content : Content) (w' : World) (acts : act step s ≡ Done content (with_world w')) where
      abbrev by_bound : Bool → World → Option (Answer × State)
      by_bound past x = if past then said (Err Refusal.Full) s else said (Ok (reply_of step content x)) (with_world x)

      ends : after step s ≡ by_bound (is_past_bound (settle s.world w')) (settle s.world w')
      ends = goes ∙ ap (concluded step s) acts

      pub makes : {A : Type 0} (result : Result A Refusal) (x : World) → Concludes s.world w' result x →
          Makes step s (answer_of step content x result) (with_world x)
      makes (Ok done) x h = ends ∙ ap (λ b. by_bound b (settle s.world w')) (ap is_past_bound (sym h.0) ∙ h.1) ∙
          ap (λ x. said (Ok (reply_of step content x)) (with_world x)) (sym h.0)
      makes (Err Refusal.Full) x h = (ends ∙ ap (λ b. by_bound b (settle s.world w')) h.0, ap with_world h.1)
      makes (Err Refusal.Memory) x h = (ap is_made (ends ∙ ap (λ b. by_bound b (settle s.world w')) h.0), ap with_world h.1)
      makes (Err _) x h = absurd h
