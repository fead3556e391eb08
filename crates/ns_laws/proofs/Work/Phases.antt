-- A busy worker can go on, by the phase in which it is.
use Rattle.std.specs.Prelude.{◌≡◌, ℕ, Bool, true, false, cond, not, ◌&&◌, Option, Some, None, is_some, nat_eq}
use Rattle.std.proofs.Common.{refl, ap, ◌∙◌}
use Rattle.std.specs.FinMap.{get}
use Rattle.std.specs.Option.{option_map_or, option_and_then}
use Rattle.ns_types.specs.declared.evaluation.Evaluation.{Evaluation}
use Rattle.ns_types.specs.declared.reply.Content.{Content}
use Rattle.ns_types.specs.declared.snapshot.Snapshot.{Snapshot}
use Rattle.ns_types.specs.declared.step.Step.{Step}
use Rattle.ns_types.specs.declared.worker.Phase.{Phase}
use Rattle.ns_types.specs.Asking.Policies.{with_world}
use Rattle.ns_types.specs.Placing.Plan.{plan, does_nothing}
use Rattle.ns_types.specs.Settling.Outcome.{Outcome, NotEnabled, Done}
use Rattle.ns_types.specs.State.Names.{Name}
use Rattle.ns_types.specs.State.Rows.{State, World, Tenant}
use Rattle.ns_types.specs.Steps.{after, act}
use Rattle.ns_types.specs.Validity.{IsSound, IsSoundWorker, keeps}
use Rattle.ns_types.specs.Working.Looks.{worker_at}
use Rattle.ns_types.specs.Working.Work.{at_work, finish, finish_for, finished, is_snapped, is_submitted, may_finish, may_finish_in, may_snap, may_submit}
use Rattle.ns_types.specs.Working.Work.{needs_follower, snap, snap_for, submit, submit_for}
use Rattle.ns_types.specs.Working.Worker.{Worker}
use Rattle.ns_types.proofs.Lists.{not_both}
use Rattle.ns_types.proofs.Tests.{not_Some}
use Rattle.ns_laws.specs.Turns.{CanGoOn, awaits, looks, submits, finishes, NoWorkerIsStuck}
use Rattle.ns_laws.proofs.Work.Turns.{in_turn, not_None, concludes, lifts}

snapping : (number : ℕ) (ns : Name) (s : State) → is_some (after (Step.Snap number ns) s) ≡ in_turn (snap number ns s.world)
unfolding after act
snapping number ns s = concludes (Step.Snap number ns) s _ ∙ lifts (with_world s.acl) (snap number ns s.world)

submitting : (number : ℕ) (ns : Name) (s : State) → is_some (after (Step.Submit number ns) s) ≡ in_turn (submit number ns s.world)
unfolding after act
submitting number ns s = concludes (Step.Submit number ns) s _ ∙ lifts (with_world s.acl) (submit number ns s.world)

ending : (number : ℕ) (ns : Name) (s : State) → is_some (after (Step.Finish number ns) s) ≡ in_turn (finish number ns s.world)
unfolding after act
ending number ns s = concludes (Step.Finish number ns) s _ ∙ lifts (with_world s.acl) (finish number ns s.world)

-- ---- a worker of a sound world

record IsStaff (w : World) (number : ℕ) (ns : Name) (worker : Worker) : Type 0 where
  tenant : Tenant
  is_tenant : get w.tenants ns ≡ Some tenant
  is_worker : get tenant.workers number ≡ Some worker
  sound : IsSoundWorker w ns tenant number worker

staff : (w : World) (number : ℕ) (ns : Name) (worker : Worker) → IsSound w → worker_at w number ns ≡ Some worker → IsStaff w number ns worker
staff w number ns worker sound has = by (get w.tenants ns) refl has
  where
    by : (o : Option Tenant) → get w.tenants ns ≡ o → option_and_then (λ t. get t.workers number) o ≡ Some worker → IsStaff w number ns worker
    by None is at = absurd (not_Some worker at)
    by (Some t) is at = record { tenant = t; is_tenant = is; is_worker = at; sound = (sound.tenant ns t is).worker number worker at }

-- what it does with its evaluation
works : (w : World) (number : ℕ) (ns : Name) (worker : Worker) (does : Tenant → Worker → Evaluation → Outcome World) (is : IsStaff w number ns worker) →
    at_work number ns w does ≡ does is.tenant worker is.sound.row
works w number ns worker does is =
    ap (λ o. option_map_or (λ t. option_map_or (λ worker. option_map_or (does t worker) (get t.evaluations worker.evaluation) NotEnabled)
    (get t.workers number) NotEnabled) o NotEnabled) is.is_tenant
    ∙ ap (λ o. option_map_or (λ worker. option_map_or (does is.tenant worker) (get is.tenant.evaluations worker.evaluation) NotEnabled) o NotEnabled)
    is.is_worker
    ∙ ap (λ o. option_map_or (does is.tenant worker) o NotEnabled) is.sound.is_row

if_done : {S : Type 0} (b : Bool) (content : Content) (s : S) → b ≡ true → in_turn (cond b (Done content s) NotEnabled) ≡ true
if_done true content s is = refl
if_done false content s is = is

either_done : {S : Type 0} (b : Bool) (c d : Content) (s t : S) → in_turn (cond b (Done c s) (Done d t)) ≡ true
either_done true c d s t = refl
either_done false c d s t = refl

ends_in_turn : (number : ℕ) (ns : Name) (w : World) (t : Tenant) (worker : Worker) (e : Evaluation) (kept : Snapshot) → may_finish worker kept ≡ true →
    in_turn (finish_for number ns w t worker e kept) ≡ true
ends_in_turn number ns w t worker e kept may = ap (λ b. in_turn (cond b (finished number ns w t worker e kept) NotEnabled)) may
    ∙ either_done (needs_follower worker kept) _ _ _ _

module _ (s : State) (number : ℕ) (ns : Name) (worker : Worker) (is : IsStaff s.world number ns worker) where
  can_look : may_snap worker.tries worker.phase ≡ true → CanGoOn s number ns worker
  unfolding snap
  can_look may = looks (not_None _ (snapping number ns s ∙ ap in_turn (works s.world number ns worker (snap_for number ns s.world) is)
      ∙ if_done (may_snap worker.tries worker.phase) _ _ may))

  can_submit : (kept : Snapshot) → worker.kept ≡ Some kept → may_submit worker kept ≡ true → CanGoOn s number ns worker
  unfolding submit
  can_submit kept keeps may = submits (not_None _ (submitting number ns s
      ∙ ap in_turn (works s.world number ns worker (λ t worker e. option_map_or (submit_for number ns s.world t worker) worker.kept NotEnabled) is)
      ∙ ap (λ o. in_turn (option_map_or (submit_for number ns s.world is.tenant worker) o NotEnabled)) keeps
      ∙ if_done (may_submit worker kept) _ _ may))

  can_finish : (kept : Snapshot) → worker.kept ≡ Some kept → may_finish worker kept ≡ true → CanGoOn s number ns worker
  unfolding finish
  can_finish kept keeps may = finishes (not_None _ (ending number ns s
      ∙ ap in_turn (works s.world number ns worker (λ t worker e. option_map_or (finish_for number ns s.world t worker e) worker.kept NotEnabled) is)
      ∙ ap (λ o. in_turn (option_map_or (finish_for number ns s.world is.tenant worker is.sound.row) o NotEnabled)) keeps
      ∙ ends_in_turn number ns s.world is.tenant worker is.sound.row kept may))

  with_kept : (phase : Phase) → worker.phase ≡ phase → (kept : Snapshot) → worker.kept ≡ Some kept → CanGoOn s number ns worker
  with_kept Phase.Took at kept keeps = can_look (ap (may_snap worker.tries) at)
  with_kept Phase.Snapped at kept keeps = by (does_nothing (plan kept)) refl
    where
      by : (b : Bool) → does_nothing (plan kept) ≡ b → CanGoOn s number ns worker
      by true e = can_finish kept keeps (ap (λ p. may_finish_in p worker.tries kept) at ∙ e)
      by false e = can_submit kept keeps (λ i. is_snapped (at i) && not (e i))
  with_kept Phase.Submitted at kept keeps = awaits (is.sound.plan_listed ∙ ap is_submitted at)
  with_kept Phase.Applied at kept keeps = can_finish kept keeps (ap (λ p. may_finish_in p worker.tries kept) at)
  with_kept Phase.Dropped at kept keeps = by (nat_eq worker.tries 0) refl
    where
      by : (b : Bool) → nat_eq worker.tries 0 ≡ b → CanGoOn s number ns worker
      by true e = can_finish kept keeps (ap (λ p. may_finish_in p worker.tries kept) at ∙ e)
      by false e = can_look (ap (may_snap worker.tries) at ∙ ap not e)

  goes_on : (phase : Phase) (o : Option Snapshot) → worker.phase ≡ phase → worker.kept ≡ o → is_some o ≡ keeps phase → CanGoOn s number ns worker
  goes_on phase (Some kept) at keeps e = with_kept phase at kept keeps
  goes_on Phase.Took None at keeps e = can_look (ap (may_snap worker.tries) at)
  goes_on Phase.Snapped None at keeps e = not_both e refl
  goes_on Phase.Submitted None at keeps e = not_both e refl
  goes_on Phase.Applied None at keeps e = not_both e refl
  goes_on Phase.Dropped None at keeps e = not_both e refl

pub no_worker_is_stuck : NoWorkerIsStuck
no_worker_is_stuck s number ns worker valid has =
    let is = staff s.world number ns worker valid.world has in
    goes_on s number ns worker is worker.phase worker.kept refl refl is.sound.keeps_one
