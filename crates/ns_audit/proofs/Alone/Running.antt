-- Steps keep a state orderly and its counters within their bound, and so the laws of steps hold all along a run.
use Rattle.std.specs.Prelude.{◌≡◌, Bool, true, false, cond, List, [], ◌∷◌, Ok, Err}
use Rattle.std.proofs.Common.{refl, sym, ap, subst}
use Rattle.ns_types.specs.declared.refusal.Refusal.TheVariants as Refusal
use Rattle.ns_types.specs.declared.step.Step.{Step}
use Rattle.ns_types.specs.Access.Sharing.{is_apart}
use Rattle.ns_types.specs.Isolation.{Part, part_of, alone, Agree, is_own, struck, struck_answers, IsIsolated}
use Rattle.ns_types.specs.State.Names.{Name}
use Rattle.ns_types.specs.Settling.Outcome.{Outcome, NotEnabled, Refused, Done}
use Rattle.ns_types.specs.State.Rows.{State}
use Rattle.ns_types.specs.Settling.Settle.{settle}
use Rattle.ns_types.specs.Steps.{Answer, said, act, after, is_allowed, concluded, reply_of, is_past_bound, Run}
use Rattle.ns_audit.specs.Headline.{ValidIsSteady, SteadyStep, StruckRun, StruckSteadyRun}
use Rattle.ns_audit.specs.Orderly.{IsOrderly, IsSteady}
use Rattle.ns_audit.proofs.Alone.Heading.{own_step, other_step}
use Rattle.ns_audit.proofs.Steady.Admins.{KeepsOrderState, of_world, administer_orderly}
use Rattle.ns_audit.proofs.Steady.Apply.{apply_orderly}
use Rattle.ns_audit.proofs.Steady.Asks.{ask_orderly}
use Rattle.ns_audit.proofs.Steady.Finish.{finish_orderly}
use Rattle.ns_audit.proofs.Steady.Nodes.{ask_pool_orderly}
use Rattle.ns_audit.proofs.Steady.Workers.{dequeue_orderly, snap_orderly, submit_orderly, nack_orderly}
use Rattle.ns_audit.proofs.Alone.Orderly.{orderly}
use Rattle.ns_audit.proofs.Steady.Resting.{settle_orderly}
use Rattle.ns_types.proofs.Tests.{not_Some, same_Some}

pub act_orderly : (s : State) → IsOrderly s.world → (step : Step) → KeepsOrderState (act step s)
unfolding act
act_orderly s o (Step.Ask ns secret command) = of_world s o _ (ask_orderly s.world o ns command)
act_orderly s o (Step.Admin secret command) = administer_orderly s o secret command
act_orderly s o (Step.Node pool secret command) = of_world s o _ (ask_pool_orderly s.world o pool command)
act_orderly s o (Step.Dequeue worker ns n) = of_world s o _ (dequeue_orderly s.world o ns worker n)
act_orderly s o (Step.Snap worker ns) = of_world s o _ (snap_orderly s.world o ns worker)
act_orderly s o (Step.Submit worker ns) = of_world s o _ (submit_orderly s.world o ns worker)
act_orderly s o (Step.Apply worker ns) = of_world s o _ (apply_orderly s.world o ns worker)
act_orderly s o (Step.Finish worker ns) = of_world s o _ (finish_orderly s.world o ns worker)
act_orderly s o (Step.Nack worker ns) = of_world s o _ (nack_orderly s.world o ns worker)

module _ (s : State) (steady : IsSteady s) (step : Step) (s' : State) (answer : Answer) where
  concluded_steady : (o : Outcome State) → KeepsOrderState o → concluded step s o ≡ said answer s' → IsSteady s'
  concluded_steady NotEnabled h e = absurd (not_Some _ e)
  concluded_steady (Refused refusal) h e = subst IsSteady (ap (λ x. x.1) (same_Some _ _ e)) steady
  concluded_steady (Done content x) h e = by (is_past_bound (settle s.world x.world)) refl e
    where
      y : State
      y = record x { world = settle s.world x.world }

      by : (b : Bool) → is_past_bound (settle s.world x.world) ≡ b →
          cond b (said (Err Refusal.Full) s) (said (Ok (reply_of step content (settle s.world x.world))) y) ≡ said answer s' → IsSteady s'
      by true over e = subst IsSteady (ap (λ x. x.1) (same_Some _ _ e)) steady
      by false within e = subst IsSteady (ap (λ x. x.1) (same_Some _ _ e)) (record { orderly = settle_orderly s.world x.world h; within = within })

  after_steady : after step s ≡ said answer s' → IsSteady s'
  unfolding after
  after_steady e = by (is_allowed step s.acl) e
    where
      by : (b : Bool) → cond b (concluded step s (act step s)) (said (Err Refusal.Denied) s) ≡ said answer s' → IsSteady s'
      by true e = concluded_steady (act step s) (act_orderly s steady.orderly step) e
      by false e = subst IsSteady (ap (λ x. x.1) (same_Some _ _ e)) steady

pub valid_is_steady : ValidIsSteady
valid_is_steady s valid = record { orderly = orderly s.world valid.world; within = valid.world.within }

pub steady_step : SteadyStep
steady_step s s' step answer steady e = after_steady s steady step s' answer e

-- the first state of an isolated run
first_apart : (ns : Name) (pools quotas : List Name) (s s1 : State) (steps : List Step) (answers : List Answer) →
    IsIsolated ns pools quotas s steps answers s1 → is_apart s.world ns pools quotas ≡ true
first_apart ns pools quotas s s1 [] [] run = run.0
first_apart ns pools quotas s s1 [] (answer ∷ answers) run = absurd run
first_apart ns pools quotas s s1 (step ∷ steps) [] run = absurd run
first_apart ns pools quotas s s1 (step ∷ steps) (answer ∷ answers) run = run.1

module _ (ns : Name) (pools quotas : List Name) where
  abbrev pub part : Part
  part = part_of ns pools quotas

  from_agreeing : (s t s1 : State) (steps : List Step) (answers : List Answer) → IsSteady s → Agree part s t → IsIsolated ns pools quotas s steps answers s1
      → (t1 : State) × Run t (struck part steps) (struck_answers part steps answers) t1 × Agree part s1 t1
  from_agreeing s t s1 [] [] steady agree run = (t, refl, subst (λ x. Agree part x t) (sym run.1) agree)
  from_agreeing s t s1 [] (answer ∷ answers) steady agree run = absurd run
  from_agreeing s t s1 (step ∷ steps) [] steady agree run = absurd run
  from_agreeing s t s1 (step ∷ steps) (answer ∷ answers) steady agree run =
      let next_steady = steady_step s run.0 step answer steady run.2 in
      elim (is_own part step) as (λ b. is_own part step ≡ b → (t1 : State)
      × Run t (cond b (step ∷ struck part steps) (struck part steps))
      (cond b (answer ∷ struck_answers part steps answers) (struck_answers part steps answers)) t1 × Agree part s1 t1) [
        | true ↦ λ own.
            let next = own_step ns pools quotas s t run.0 step answer steady run.1 agree own run.3 run.2 in
            let later = from_agreeing run.0 next.0 s1 steps answers next_steady next.2 run.4 in
            (later.0, (next.0, next.1, later.1), later.2)
        | false ↦ λ other. from_agreeing run.0 t s1 steps answers next_steady (other_step ns pools quotas s t run.0 step answer steady run.1
            (first_apart ns pools quotas run.0 s1 steps answers run.4) agree other run.2) run.4
      ] refl

pub struck_steady_run : StruckSteadyRun
struck_steady_run ns pools quotas s0 s1 steps answers steady run =
    from_agreeing ns pools quotas s0 (alone (part_of ns pools quotas) s0) s1 steps answers steady refl run

pub struck_run : StruckRun
struck_run ns pools quotas s0 s1 steps answers valid run = struck_steady_run ns pools quotas s0 s1 steps answers (valid_is_steady s0 valid) run
