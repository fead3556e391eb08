-- Each step: what is held after it, and is to run no more, was held before it in the same pool.
use Rattle.std.specs.Prelude.{◌≡◌, Bool, true, false, cond, Ok, Err}
use Rattle.std.proofs.Common.{refl, ap, subst}
use Rattle.ns_types.specs.declared.refusal.Refusal.TheVariants as Refusal
use Rattle.ns_types.specs.declared.step.Step.{Step}
use Rattle.ns_types.specs.Settling.Outcome.{Outcome, NotEnabled, Refused, Done}
use Rattle.ns_types.specs.Settling.Settle.{settle}
use Rattle.ns_types.specs.State.Rows.{State, World}
use Rattle.ns_types.specs.Steps.{Answer, said, act, after, is_allowed, concluded, reply_of, is_past_bound}
use Rattle.ns_types.proofs.Leads.{Leads, leads_of}
use Rattle.ns_types.proofs.Tests.{not_Some, same_Some}
use Rattle.ns_audit.proofs.ValidAllocations.Going.{Onward}
use Rattle.ns_audit.proofs.ValidAllocations.Sound.{allocation_row, row_allocation}
use Rattle.ns_audit.specs.Staying.{HeldStep}
use Rattle.ns_audit.proofs.Held.Rows.{Ends, Holds, holds_ended, holds_same, holds_rested}
use Rattle.ns_audit.proofs.Held.Settling.{settles_rest}
use Rattle.ns_audit.proofs.Held.Work.{ask_ends, dequeue_ends, snap_ends, submit_ends, finish_ends, nack_ends}
use Rattle.ns_audit.proofs.Held.Nodes.{ask_pool_ends}
use Rattle.ns_audit.proofs.Held.Apply.{apply_holds}
use Rattle.ns_audit.proofs.Held.Admins.{HoldsIn, of_world, administer_holds}

module _ (s : State) where
  ending : (o : Outcome World) → Leads (Onward Ends s.world) o → Leads (Holds s.world) o
  ending = leads_of (Onward Ends s.world) (Holds s.world) (holds_ended s.world)

  act_holds : (step : Step) → Leads (HoldsIn s) (act step s)
  unfolding act
  act_holds (Step.Ask ns secret command) = of_world s _ (ending _ (ask_ends s.world ns command))
  act_holds (Step.Admin secret command) = administer_holds s secret command
  act_holds (Step.Node pool secret command) = of_world s _ (ending _ (ask_pool_ends s.world pool command))
  act_holds (Step.Dequeue worker ns n) = of_world s _ (ending _ (dequeue_ends s.world worker (ns, n)))
  act_holds (Step.Snap worker ns) = of_world s _ (ending _ (snap_ends s.world worker ns))
  act_holds (Step.Submit worker ns) = of_world s _ (ending _ (submit_ends s.world worker ns))
  act_holds (Step.Apply worker ns) = of_world s _ (apply_holds s.world ns worker)
  act_holds (Step.Finish worker ns) = of_world s _ (ending _ (finish_ends s.world worker ns))
  act_holds (Step.Nack worker ns) = of_world s _ (ending _ (nack_ends s.world worker ns))

  module _ (step : Step) (s' : State) (answer : Answer) where
    at_rest : s ≡ s' → Holds s.world s'.world
    at_rest e = subst (HoldsIn s) e (holds_same s.world s.world refl)

    concluded_holds : (o : Outcome State) → Leads (HoldsIn s) o → concluded step s o ≡ said answer s' → Holds s.world s'.world
    concluded_holds NotEnabled h e = absurd (not_Some _ e)
    concluded_holds (Refused refusal) h e = at_rest (ap (λ x. x.1) (same_Some _ _ e))
    concluded_holds (Done content x) h e = by (is_past_bound (settle s.world x.world)) e
      where
        y : State
        y = record x { world = settle s.world x.world }

        by : (b : Bool) → cond b (said (Err Refusal.Full) s) (said (Ok (reply_of step content (settle s.world x.world))) y) ≡ said answer s' →
            Holds s.world s'.world
        by true e = at_rest (ap (λ x. x.1) (same_Some _ _ e))
        by false e = subst (HoldsIn s) (ap (λ x. x.1) (same_Some _ _ e))
            (holds_rested s.world x.world (settle s.world x.world) h (settles_rest s.world x.world))

    pub after_holds : after step s ≡ said answer s' → Holds s.world s'.world
    unfolding after
    after_holds e = by (is_allowed step s.acl) e
      where
        by : (b : Bool) → cond b (concluded step s (act step s)) (said (Err Refusal.Denied) s) ≡ said answer s' → Holds s.world s'.world
        by true e = concluded_holds (act step s) (act_holds step) e
        by false e = at_rest (ap (λ x. x.1) (same_Some _ _ e))

pub held_step : HeldStep
held_step s s' step answer key a e held dead =
    let r = allocation_row s'.world key a held.0 in
    let q = after_holds s step s' answer e key.0 r.0 key.1 a r.1 r.2 held.1 dead in
    (q.row, (row_allocation s.world key.0 key.1 q.tenant q.row q.is_tenant q.is_row, q.held), q.same)
