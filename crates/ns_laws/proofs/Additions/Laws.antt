-- The laws of the evaluations that a step adds: each step, and its end.
use Rattle.std.specs.Prelude.{◌≡◌, ◌⊎◌, ℕ, ◌+◌, Bool, true, false, cond, List, Option, Some, None}
use Rattle.std.proofs.Common.{inl, inr, refl, sym, ap, subst, ◌∙◌}
use Rattle.std.specs.FinMap.{get}
use Rattle.std.specs.Option.{option_and_then}
use Rattle.ns_types.specs.declared.evaluation.Evaluation.{Evaluation}
use Rattle.ns_types.specs.declared.step.Step.{Step}
use Rattle.ns_types.specs.Asking.Policies.{administer, with_world}
use Rattle.ns_types.specs.Settling.Outcome.{Outcome, lift}
use Rattle.ns_types.specs.Settling.Releases.{woken}
use Rattle.ns_types.specs.Settling.Settle.{changes_evaluation, created_at, is_touched, pending, settle}
use Rattle.ns_types.specs.Settling.Settle.{stamp_tenant, stamped, stamped_evaluation, unblocked_in, woken_row}
use Rattle.ns_types.specs.State.Names.{Key, Name, has_key}
use Rattle.ns_types.specs.State.Rows.{State, Tenant, World, allocation_at, evaluation_at, is_live}
use Rattle.ns_types.specs.Steps.{Answer, act, after, said}
use Rattle.ns_types.specs.Validity.{IsSound, IsValid}
use Rattle.ns_types.proofs.Leads.{Leads, leads_lift, leads_of}
use Rattle.ns_types.proofs.Named.{numbers, one_number}
use Rattle.ns_types.proofs.Tests.{not_Some, same_Some}
use Rattle.ns_audit.proofs.Steady.Keeping.{row_of_map}
use Rattle.ns_laws.specs.Ending as law
use Rattle.ns_laws.specs.Ending.{AddedFor, HasLost, IsAdded, deregisters, follows, for_loss, is_for_loss, registers}
use Rattle.ns_laws.proofs.Additions.Apply.{apply_adds}
use Rattle.ns_laws.proofs.Additions.Steps.{Adds, AddsAt, adds, adds_left, ask_adds, ask_pool_adds}
use Rattle.ns_laws.proofs.Additions.Steps.{dequeue_adds, empty, finish_adds, nack_adds, snap_adds, submit_adds}
use Rattle.ns_laws.proofs.Effect.Rows.{settled_there}
use Rattle.ns_laws.proofs.Endings.Change.{Settled, nothing, redated, settled_at}
use Rattle.ns_laws.proofs.Index.StepRows.{Closes, LeavesIn, admin_leaves, closes}
use Rattle.ns_laws.proofs.Service.Lists.{evaluation_in}

-- ---- each step

module _ (s : State) where
  abbrev AddsTo : Step → State → Type 0
  AddsTo step x = Adds s.world step x.world

  of_world : (step : Step) (c : Outcome World) → Leads (Adds s.world step) c → Leads (AddsTo step) (lift (with_world s.acl) c)
  of_world step = leads_lift (AddsTo step) (with_world s.acl) (Adds s.world step) (λ w h. h)

  act_adds : IsSound s.world → (step : Step) → Leads (AddsTo step) (act step s)
  unfolding act
  act_adds sound (Step.Ask ns secret command) = of_world _ _ (ask_adds s.world ns secret command)
  act_adds sound (Step.Admin secret command) = leads_of (LeavesIn s) (AddsTo (Step.Admin secret command))
      (λ x. adds_left s.world (Step.Admin secret command) x.world) (administer secret command s) (admin_leaves s secret command)
  act_adds sound (Step.Node pool secret command) = of_world _ _ (ask_pool_adds s.world pool secret command)
  act_adds sound (Step.Dequeue worker ns n) = of_world _ _ (dequeue_adds s.world worker ns n)
  act_adds sound (Step.Snap worker ns) = of_world _ _ (snap_adds s.world worker ns)
  act_adds sound (Step.Submit worker ns) = of_world _ _ (submit_adds s.world worker ns)
  act_adds sound (Step.Apply worker ns) = of_world _ _ (apply_adds s.world sound ns worker)
  act_adds sound (Step.Finish worker ns) = of_world _ _ (finish_adds s.world worker ns)
  act_adds sound (Step.Nack worker ns) = of_world _ _ (nack_adds s.world worker ns)

-- ---- the end of a step

-- the row that the step's own change left: the end of the step changes its status and its indexes at most
record Was (t : Tenant) (n : ℕ) (e : Evaluation) : Type 0 where
  row : Evaluation
  is_row : get t.evaluations n ≡ Some row
  job : e.job ≡ row.job
  trigger : e.trigger ≡ row.trigger
  previous : e.previous ≡ row.previous

-- a row of the same job, trigger and previous evaluation was there
was_row : (t : Tenant) (n : ℕ) (d x e : Evaluation) → get t.evaluations n ≡ Some d → x.job ≡ d.job → x.trigger ≡ d.trigger → x.previous ≡ d.previous →
    x ≡ e → Was t n e
was_row t n d x e at job trigger previous is = record {
  row = d;
  is_row = at;
  job = ap (λ (e : Evaluation). e.job) (sym is) ∙ job;
  trigger = ap (λ (e : Evaluation). e.trigger) (sym is) ∙ trigger;
  previous = ap (λ (e : Evaluation). e.previous) (sym is) ∙ previous;
}

was_stamped : (old : Option Tenant) (t : Tenant) (n : ℕ) (e : Evaluation) → get (stamp_tenant old t).evaluations n ≡ Some e → Was t n e
unfolding stamp_tenant
was_stamped None t n e at = was_row t n e e e at refl refl refl refl
was_stamped (Some o) t n e at = by (is_touched o t) at
  where
    dated : (d : Evaluation) → get t.evaluations n ≡ Some d → (b : Bool) → cond b (record d {
      create_index = created_at (o.index + 1) (get o.evaluations n) (λ (e : Evaluation). e.create_index);
      modify_index = o.index + 1;
    }) d ≡ e → Was t n e
    dated d d_at true is = was_row t n d _ e d_at refl refl refl is
    dated d d_at false is = was_row t n d d e d_at refl refl refl is

    by : (b : Bool) → get (cond b (stamped (o.index + 1) o t) t).evaluations n ≡ Some e → Was t n e
    by true at = let d = row_of_map numbers one_number (stamped_evaluation (o.index + 1) o) t.evaluations n e at in
        dated d.0 d.1 (changes_evaluation o n d.0) d.2
    by false at = was_row t n e e e at refl refl refl refl

was_own : (keys : List Key) (ns : Name) (t : Tenant) (n : ℕ) (e : Evaluation) → Was (unblocked_in keys ns t) n e → Was t n e
was_own keys ns t n e w =
    let d = row_of_map numbers one_number (woken_row keys ns) t.evaluations n w.row w.is_row in
    let own : Was t n w.row = by d.0 d.1 (has_key keys (ns, n)) d.2 in record {
      row = own.row;
      is_row = own.is_row;
      job = w.job ∙ own.job;
      trigger = w.trigger ∙ own.trigger;
      previous = w.previous ∙ own.previous;
    }
  where
    by : (d : Evaluation) → get t.evaluations n ≡ Some d → (b : Bool) → cond b (pending d) d ≡ w.row → Was t n w.row
    by d at true is = was_row t n d (pending d) w.row at refl refl refl is
    by d at false is = was_row t n d d w.row at refl refl refl is

module _ (s s' : State) (step : Step) (answer : Answer) (valid : IsValid s) (leads : after step s ≡ said answer s') (ns : Name) where
  abbrev Own : Tenant → Type 0
  Own now = Closes step s s' answer (AddsTo s step) ns now

  -- the step is made, as it adds an evaluation
  made_by : (n : ℕ) (e : Evaluation) → IsAdded s.world s'.world (ns, n) e → (now : Tenant) → get s'.world.tenants ns ≡ Some now → Own now
  made_by n e new now is = by (closes step s s' answer (AddsTo s step) ns now (act_adds s valid.world step) leads is)
    where
      by : (s' ≡ s) ⊎ Own now → Own now
      by (inl same) = absurd (not_Some e (sym new.0 ∙ ap (λ (y : State). evaluation_at y.world (ns, n)) (sym same) ∙ new.1))
      by (inr c) = c

  module _ (now : Tenant) (is : get s'.world.tenants ns ≡ Some now) (c : Own now) where
    own_row : (n : ℕ) (e : Evaluation) → IsAdded s.world s'.world (ns, n) e → Was c.rows n e
    own_row n e new = was_own (woken s.world c.own.world) ns c.rows n e
        (was_stamped (get s.world.tenants ns) (unblocked_in (woken s.world c.own.world) ns c.rows) n e
        (ap (λ (t : Tenant). get t.evaluations n) c.is_now ∙ sym (ap (option_and_then (λ (t : Tenant). get t.evaluations n)) is) ∙ new.1))

    none_before : (t : Tenant) → get s.world.tenants ns ≡ Some t → (n : ℕ) → evaluation_at s.world (ns, n) ≡ None → get t.evaluations n ≡ None
    none_before t t_is n none = sym (ap (option_and_then (λ (t : Tenant). get t.evaluations n)) t_is) ∙ none

    lost_at_end : (job : Name) → HasLost s.world c.own.world ns job → HasLost s.world s'.world ns job
    lost_at_end job l = by (settled_at s.world c.own.world (ns, l.number))
      where
        same : allocation_at s'.world (ns, l.number) ≡ allocation_at (settle s.world c.own.world) (ns, l.number)
        same = ap (option_and_then (λ (t : Tenant). get t.allocations l.number))
            (is ∙ ap Some (sym c.is_now) ∙ sym (settled_there s.world c.own.world ns c.rows c.is_own))

        by : Settled (allocation_at s.world (ns, l.number)) (allocation_at c.own.world (ns, l.number))
            (allocation_at (settle s.world c.own.world) (ns, l.number)) → HasLost s.world s'.world ns job
        by (nothing none gone) = absurd (not_Some l.later (sym none ∙ l.is_there))
        by (redated b d was there dates) = record {
          number = l.number;
          before = l.before;
          was_live = l.was_live;
          of_job = l.of_job;
          later = d;
          is_there = same ∙ there;
          has_ended = ap is_live dates.same ∙ ap is_live (same_Some b l.later (sym was ∙ l.is_there)) ∙ l.has_ended;
        }

    for_end : (n : ℕ) (e : Evaluation) (w : Was c.rows n e) → AddedFor s.world c.own.world step ns w.row → AddedFor s.world s'.world step ns e
    for_end n e w (registers secret r is job trigger) = registers secret r is (w.job ∙ job) (w.trigger ∙ trigger)
    for_end n e w (deregisters secret id purge is job trigger) = deregisters secret id purge is (w.job ∙ job) (w.trigger ∙ trigger)
    for_end n e w (follows number worker a is has at job previous) = follows number worker a is has at (w.job ∙ job) (w.previous ∙ previous)
    for_end n e w (for_loss trigger lost) = for_loss (ap is_for_loss w.trigger ∙ trigger)
        (subst (HasLost s.world s'.world ns) (sym w.job) (lost_at_end w.row.job lost))

    why_added : (n : ℕ) (e : Evaluation) → IsAdded s.world s'.world (ns, n) e → AddedFor s.world s'.world step ns e
    why_added n e new = by (c.holds ns c.rows c.is_own) (own_row n e new)
      where
        by : AddsAt s.world step c.own.world ns c.rows → Was c.rows n e → AddedFor s.world s'.world step ns e
        by (adds t t_is a) w = for_end n e w (a.why n w.row (none_before t t_is n new.0) w.is_row)
        by (empty none) w = absurd (none n w.row w.is_row)

    one_added : (m n : ℕ) (d e : Evaluation) → IsAdded s.world s'.world (ns, m) d → IsAdded s.world s'.world (ns, n) e → d.job ≡ e.job → m ≡ n
    one_added m n d e first second same = by (c.holds ns c.rows c.is_own) (own_row m d first) (own_row n e second)
      where
        by : AddsAt s.world step c.own.world ns c.rows → Was c.rows m d → Was c.rows n e → m ≡ n
        by (adds t t_is a) v w = a.once m n v.row w.row (none_before t t_is m first.0) (none_before t t_is n second.0)
            v.is_row w.is_row (sym v.job ∙ same ∙ w.job)
        by (empty none) v w = absurd (none m v.row v.is_row)

pub one_is_added : law.OneIsAdded
one_is_added s s' step answer ns m n d e valid leads first second same =
    let t = evaluation_in s'.world (ns, m) d first.1 in
    one_added s s' step answer valid leads ns t.0 t.1 (made_by s s' step answer valid leads ns m d first t.0 t.1) m n d e first second same

pub added_only_so : law.AddedOnlySo
added_only_so s s' step answer ns n e valid leads new =
    let t = evaluation_in s'.world (ns, n) e new.1 in
    why_added s s' step answer valid leads ns t.0 t.1 (made_by s s' step answer valid leads ns n e new t.0 t.1) n e new
