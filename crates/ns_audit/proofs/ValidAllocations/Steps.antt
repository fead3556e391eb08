-- Each step leads from a valid state to one whose allocations are sound, and so are those of the opening state.
use Rattle.std.specs.Prelude.{◌≡◌, ℕ, Bool, true, false, cond, Some, Ok, Err}
use Rattle.std.proofs.Common.{sym, ap, subst, ◌∙◌}
use Rattle.std.specs.FinMap.{get, get-empty}
use Rattle.std.specs.Ordering.{nat_cmp}
use Rattle.ns_types.specs.declared.allocation.Allocation.{Allocation}
use Rattle.ns_types.specs.declared.node.Node.{Node}
use Rattle.ns_types.specs.declared.refusal.Refusal.TheVariants as Refusal
use Rattle.ns_types.specs.declared.step.Step.{Step}
use Rattle.ns_types.specs.Settling.Outcome.{Outcome, NotEnabled, Refused, Done}
use Rattle.ns_types.specs.State.Names.{Name, name_cmp, default_name}
use Rattle.ns_types.specs.State.Rows.{State, Tenant, PoolRows, node_at}
use Rattle.ns_types.specs.Settling.Settle.{settle}
use Rattle.ns_types.specs.Steps.{Answer, said, act, after, is_allowed, concluded, reply_of, is_past_bound, opening_tenant, opening_pool, opening_world, opening}
use Rattle.ns_types.specs.Validity.{IsValid}
use Rattle.ns_audit.proofs.ValidAllocations.Statement.{IsAllocated, AllocationsStep, AllocationsOpening}
use Rattle.ns_audit.proofs.Steady.Opening.{only_row}
use Rattle.ns_types.proofs.Leads.{Leads}
use Rattle.ns_audit.proofs.ValidAllocations.Sound.{allocation_row, node_row}
use Rattle.ns_audit.proofs.ValidAllocations.Admins.{of_world, of_continuing, administer_allocates}
use Rattle.ns_audit.proofs.ValidAllocations.Apply.{sound_allocated, apply_allocates}
use Rattle.ns_audit.proofs.ValidAllocations.Going.{Allocates, settle_allocated}
use Rattle.ns_audit.proofs.ValidAllocations.Nodes.{ask_pool_allocates}
use Rattle.ns_audit.proofs.ValidAllocations.Work.{ask_goes, dequeue_goes, snap_goes, submit_goes, finish_goes, nack_goes}
use Rattle.ns_types.proofs.Tests.{not_Some, same_Some}

module _ (s : State) (valid : IsValid s) where
  sound : IsAllocated s.world
  sound = sound_allocated s.world valid.world

  act_allocates : (step : Step) → Leads (λ x. Allocates s.world x.world) (act step s)
  unfolding act
  act_allocates (Step.Ask ns secret command) = of_continuing s sound _ (ask_goes s.world ns command)
  act_allocates (Step.Admin secret command) = administer_allocates s sound secret command
  act_allocates (Step.Node pool secret command) = of_world s sound _ (ask_pool_allocates s.world sound pool command)
  act_allocates (Step.Dequeue worker ns n) = of_continuing s sound _ (dequeue_goes s.world worker (ns, n))
  act_allocates (Step.Snap worker ns) = of_continuing s sound _ (snap_goes s.world worker ns)
  act_allocates (Step.Submit worker ns) = of_continuing s sound _ (submit_goes s.world worker ns)
  act_allocates (Step.Apply worker ns) = of_world s sound _ (apply_allocates s.world valid.world ns worker)
  act_allocates (Step.Finish worker ns) = of_continuing s sound _ (finish_goes s.world worker ns)
  act_allocates (Step.Nack worker ns) = of_continuing s sound _ (nack_goes s.world worker ns)

  module _ (step : Step) (s' : State) (answer : Answer) where
    concluded_allocated : (o : Outcome State) → Leads (λ x. Allocates s.world x.world) o → concluded step s o ≡ said answer s' → IsAllocated s'.world
    concluded_allocated NotEnabled h e = absurd (not_Some _ e)
    concluded_allocated (Refused refusal) h e = subst (λ (x : State). IsAllocated x.world) (ap (λ x. x.1) (same_Some _ _ e)) sound
    concluded_allocated (Done content x) h e = by (is_past_bound (settle s.world x.world)) e
      where
        y : State
        y = record x { world = settle s.world x.world }

        by : (b : Bool) → cond b (said (Err Refusal.Full) s) (said (Ok (reply_of step content (settle s.world x.world))) y) ≡ said answer s' →
            IsAllocated s'.world
        by true e = subst (λ (x : State). IsAllocated x.world) (ap (λ x. x.1) (same_Some _ _ e)) sound
        by false e = subst (λ (x : State). IsAllocated x.world) (ap (λ x. x.1) (same_Some _ _ e)) (settle_allocated s.world x.world sound h)

    after_allocated : after step s ≡ said answer s' → IsAllocated s'.world
    unfolding after
    after_allocated e = by (is_allowed step s.acl) e
      where
        by : (b : Bool) → cond b (concluded step s (act step s)) (said (Err Refusal.Denied) s) ≡ said answer s' → IsAllocated s'.world
        by true e = concluded_allocated (act step s) (act_allocates step) e
        by false e = subst (λ (x : State). IsAllocated x.world) (ap (λ x. x.1) (same_Some _ _ e)) sound

pub allocations_step : AllocationsStep
allocations_step s s' step answer valid good e = after_allocated s valid step s' answer e

-- ---- the opening state

no_allocation : (ns : Name) (t : Tenant) (n : ℕ) (a : Allocation) → get opening_world.tenants ns ≡ Some t → get t.allocations n ≡ Some a → ⊥
no_allocation ns t n a is at = not_Some _ (sym (get-empty nat_cmp n) ∙ ap (λ (t : Tenant). get t.allocations n) (only_row default_name opening_tenant ns t is) ∙
    at)

no_node : (pool name : Name) (node : Node) → node_at opening_world pool name ≡ Some node → ⊥
no_node pool name node at =
    let r = node_row opening_world pool name node at in
    not_Some _ (sym (get-empty name_cmp name) ∙ ap (λ (p : PoolRows). get p.nodes name) (only_row default_name opening_pool pool r.0 r.1) ∙ r.2)

pub allocations_opening : AllocationsOpening
unfolding opening
allocations_opening secret = record {
  allocation = λ ns t n a is at. absurd (no_allocation ns t n a is at);
  one_place = λ a b x y l k _ _ _. let r = allocation_row opening_world a x l.0 in absurd (no_allocation a.0 r.0 a.1 x r.1 r.2);
  within = λ pool name node at. absurd (no_node pool name node at);
}
