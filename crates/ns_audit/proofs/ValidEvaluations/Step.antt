-- Each step keeps what a valid state says of evaluations, and the opening state says it.
use Rattle.std.specs.Prelude.{◌≡◌, Bool, true, false, cond, [], Ok, Err}
use Rattle.std.proofs.Common.{refl, sym, ap, subst}
use Rattle.std.specs.Option.{option_map_or}
use Rattle.ns_types.specs.declared.refusal.Refusal.TheVariants as Refusal
use Rattle.ns_types.specs.declared.step.Step.{Step}
use Rattle.ns_types.specs.State.Names.{has_key, default_name}
use Rattle.ns_types.specs.Settling.Outcome.{Outcome, NotEnabled, Refused, Done}
use Rattle.ns_types.specs.State.Rows.{State, Tenant}
use Rattle.ns_types.specs.Settling.Settle.{settle}
use Rattle.ns_types.specs.Steps.{Answer, said, act, after, is_allowed, concluded, reply_of, is_past_bound, opening_tenant, opening_world, opening}
use Rattle.ns_types.specs.Validity.{IsValid}
use Rattle.ns_types.specs.Within.{IsGoodStep}
use Rattle.ns_types.proofs.Lists.{not_both}
use Rattle.ns_types.proofs.Tests.{not_Some, same_Some}
use Rattle.ns_audit.specs.Orderly.{IsOrderly}
use Rattle.ns_audit.proofs.ValidEvaluations.Statement.{IsSoundInEvaluations, EvaluationsStep, EvaluationsOpening}
use Rattle.ns_audit.proofs.Steady.Opening.{only_row, reached_is_steady}
use Rattle.ns_audit.proofs.Steady.Admins.{KeepsOrderState}
use Rattle.ns_audit.proofs.Alone.Orderly.{orderly}
use Rattle.ns_audit.proofs.Steady.Resting.{settle_orderly}
use Rattle.ns_audit.proofs.Alone.Running.{act_orderly}
use Rattle.ns_audit.proofs.ValidEvaluations.Admins.{new_tenant_filed, HoldsAfter, of_same_pools, administer_filed}
use Rattle.ns_audit.proofs.ValidEvaluations.Apply.{apply_filed}
use Rattle.ns_audit.proofs.ValidEvaluations.Asks.{ask_filed}
use Rattle.ns_audit.proofs.ValidEvaluations.Filed.{IsFiledTenant, IsFiled}
use Rattle.ns_audit.proofs.ValidEvaluations.Finish.{finish_filed}
use Rattle.ns_audit.proofs.ValidEvaluations.Nodes.{ask_pool_filed}
use Rattle.ns_audit.proofs.ValidEvaluations.Settle.{index_in, pools_in, sound_filed, filed_sound, settle_filed}
use Rattle.ns_audit.proofs.ValidEvaluations.Work.{dequeue_filed, snap_filed, submit_filed, nack_filed}

-- ---- the step's own change

act_filed : (s : State) → IsValid s → (step : Step) → IsGoodStep step → HoldsAfter s.world (act step s)
unfolding act
act_filed s valid (Step.Ask ns secret command) good = of_same_pools s valid.world _ (ask_filed s.world valid.world ns command good)
act_filed s valid (Step.Admin secret command) good = administer_filed s valid.world secret command
act_filed s valid (Step.Node pool secret command) good = of_same_pools s valid.world _ (ask_pool_filed s.world valid.world pool command)
act_filed s valid (Step.Dequeue worker ns n) good = of_same_pools s valid.world _ (dequeue_filed s.world valid.world worker (ns, n))
act_filed s valid (Step.Snap worker ns) good = of_same_pools s valid.world _ (snap_filed s.world valid.world worker ns)
act_filed s valid (Step.Submit worker ns) good = of_same_pools s valid.world _ (submit_filed s.world valid.world worker ns)
act_filed s valid (Step.Apply worker ns) good = of_same_pools s valid.world _ (apply_filed s.world valid.world worker ns)
act_filed s valid (Step.Finish worker ns) good = of_same_pools s valid.world _ (finish_filed s.world valid.world worker ns)
act_filed s valid (Step.Nack worker ns) good = of_same_pools s valid.world _ (nack_filed s.world valid.world worker ns)

-- ---- the whole step

module _ (s : State) (valid : IsValid s) (step : Step) (s' : State) (answer : Answer) where
  is_orderly : IsOrderly s.world
  is_orderly = orderly s.world valid.world

  -- a refusal leaves the state
  unchanged : IsSoundInEvaluations s.world
  unchanged = filed_sound (pools_in s.world) s.world (sound_filed s.world valid.world) is_orderly

  concluded_sound : (o : Outcome State) → KeepsOrderState o → HoldsAfter s.world o → concluded step s o ≡ said answer s' → IsSoundInEvaluations s'.world
  concluded_sound NotEnabled h f e = absurd (not_Some _ e)
  concluded_sound (Refused refusal) h f e = subst (λ (x : State). IsSoundInEvaluations x.world) (ap (λ x. x.1) (same_Some _ _ e)) unchanged
  concluded_sound (Done content x) h f e = by (is_past_bound (settle s.world x.world)) e
    where
      y : State
      y = record x { world = settle s.world x.world }

      by : (b : Bool) → cond b (said (Err Refusal.Full) s) (said (Ok (reply_of step content (settle s.world x.world))) y) ≡ said answer s' →
          IsSoundInEvaluations s'.world
      by true e = subst (λ (x : State). IsSoundInEvaluations x.world) (ap (λ x. x.1) (same_Some _ _ e)) unchanged
      by false e = subst (λ (x : State). IsSoundInEvaluations x.world) (ap (λ x. x.1) (same_Some _ _ e))
          (filed_sound f.0 (settle s.world x.world) (settle_filed f.0 s.world x.world valid.world h f.1) (settle_orderly s.world x.world h))

  after_sound : IsGoodStep step → after step s ≡ said answer s' → IsSoundInEvaluations s'.world
  unfolding after
  after_sound good e = by (is_allowed step s.acl) e
    where
      by : (b : Bool) → cond b (concluded step s (act step s)) (said (Err Refusal.Denied) s) ≡ said answer s' → IsSoundInEvaluations s'.world
      by true e = concluded_sound (act step s) (act_orderly s is_orderly step) (act_filed s valid step good) e
      by false e = subst (λ (x : State). IsSoundInEvaluations x.world) (ap (λ x. x.1) (same_Some _ _ e)) unchanged

pub evaluations_step : EvaluationsStep
evaluations_step s s' step answer valid good e = after_sound s valid step s' answer good e

-- ---- the opening state

opening_filed : IsFiled (λ _. false) (index_in opening_world) opening_world
opening_filed = record {
  known = λ name never. not_both never refl;
  once = tt;
  tenant = λ ns t is. subst (λ i. IsFiledTenant (λ _. false) i (λ n. has_key opening_world.blocked (ns, n)) t)
      (sym (ap (λ o. option_map_or (λ (t : Tenant). t.index) o 0) is))
      (subst (λ (t : Tenant). IsFiledTenant (λ _. false) t.index (λ n. has_key opening_world.blocked (ns, n)) t) (only_row default_name opening_tenant ns t is)
      (new_tenant_filed (λ _. false) (λ n. has_key opening_world.blocked (ns, n)) opening_tenant.namespace));
}

pub evaluations_opening : EvaluationsOpening
unfolding opening
evaluations_opening secret named = filed_sound (λ _. false) opening_world opening_filed (reached_is_steady secret (opening secret) [] [] refl).orderly
