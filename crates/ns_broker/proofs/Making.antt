-- From what a worker's step prepares to what the model makes of it.
use Rattle.std.specs.Prelude.{◌≡◌, ℕ, true, false, cond, ◌+◌, ◌<◌, ◌^◌, Option, Some, None, Ok, Err, IsTrue}
use Rattle.std.proofs.Common.{refl, ap, sym, subst, ◌∙◌, arith}
use Rattle.std.specs.FinMap.{get}
use Rattle.std.specs.Option.{option_and_then}
use Rattle.ns_types.specs.declared.evaluation.Evaluation.{Evaluation}
use Rattle.ns_types.specs.declared.evaluation.Status.{Status}
use Rattle.ns_types.specs.declared.refusal.Refusal.{Refusal}
use Rattle.ns_types.specs.declared.step.Step.{Step}
use Rattle.ns_types.specs.Asking.Policies.{with_world}
use Rattle.ns_types.specs.Settling.Outcome.{Outcome, NotEnabled, Refused, Done, lift}
use Rattle.ns_types.specs.State.Names.{Name}
use Rattle.ns_types.specs.State.Rows.{State, World, Tenant, is_open, is_pending}
use Rattle.ns_types.specs.Steps.{Makes, act, is_past_bound}
use Rattle.ns_types.specs.Working.Work.{dequeue, nack, snap, submit}
use Rattle.ns_types.proofs.Lists.{not_both}
use Rattle.ns_types.proofs.Tests.{not_Some, same_Some}
use Rattle.ns_change.specs.declared.change.Prepared.{Prepared}
use Rattle.ns_change.specs.Changed.{view}
use Rattle.ns_change.specs.Prepared.{Prepares, bounded}
use Rattle.ns_tables.specs.declared.tables.Tables.{Tables}
use Rattle.ns_change.proofs.Making.{does, refuses}
use Rattle.ns_broker.specs.Bounded.{PassesNothing}
use Rattle.ns_broker.specs.Nacking.{SoundHasNackLeft}
use Rattle.ns_broker.proofs.Bounding.{dequeue_fits}
use Rattle.ns_broker.proofs.Snaps.{snap_fits}
use Rattle.ns_broker.proofs.Submitted.{submit_fits}

-- a step that passes no bound is refused for none
pub as_bounded : (f : World → Outcome World) → PassesNothing f → (w : World) → is_past_bound w ≡ false → bounded w (f w) ≡ f w
as_bounded f fits w within = by (f w) refl
  where
    by : (o : Outcome World) → f w ≡ o → bounded w o ≡ o
    by NotEnabled is = refl
    by (Refused refusal) is = refl
    by (Done content x) is = ap (λ b. cond b (Refused Refusal.Full) (Done content x)) (fits w content x within is)

-- ---- a worker takes an evaluation, looks, hands in its plan, and gives one back

module _ (worker : ℕ) (ns : Name) (s : State) where
  dequeue_acts : (n : ℕ) → act (Step.Dequeue worker ns n) s ≡ lift (with_world s.acl) (dequeue worker (ns, n) s.world)
  unfolding act
  dequeue_acts n = refl

  snap_acts : act (Step.Snap worker ns) s ≡ lift (with_world s.acl) (snap worker ns s.world)
  unfolding act
  snap_acts = refl

  submit_acts : act (Step.Submit worker ns) s ≡ lift (with_world s.acl) (submit worker ns s.world)
  unfolding act
  submit_acts = refl

  nack_acts : act (Step.Nack worker ns) s ≡ lift (with_world s.acl) (nack worker ns s.world)
  unfolding act
  nack_acts = refl

  module _ (t : Tables) where
    pub dequeue_refuses : (n : ℕ) → is_past_bound s.world ≡ false → (refusal : Refusal) → Prepares (dequeue worker (ns, n) s.world) t (Err refusal) →
        Makes (Step.Dequeue worker ns n) s (Err refusal) s
    dequeue_refuses n within refusal h = refuses (Step.Dequeue worker ns n) s _ (dequeue_acts n) refl t refusal
        (subst (λ o. Prepares o t (Err refusal)) (sym (as_bounded _ (dequeue_fits worker (ns, n)) s.world within)) h)

    pub dequeue_does : (n : ℕ) (x : Prepared) → Prepares (dequeue worker (ns, n) s.world) t (Ok x) →
        act (Step.Dequeue worker ns n) s ≡ Done x.content (record s { world = view t x.change })
    dequeue_does n x h = dequeue_acts n ∙ ap (lift (with_world s.acl)) h

    pub snap_refuses : is_past_bound s.world ≡ false → (refusal : Refusal) → Prepares (snap worker ns s.world) t (Err refusal) →
        Makes (Step.Snap worker ns) s (Err refusal) s
    snap_refuses within refusal h = refuses (Step.Snap worker ns) s _ snap_acts refl t refusal
        (subst (λ o. Prepares o t (Err refusal)) (sym (as_bounded _ (snap_fits worker ns) s.world within)) h)

    pub snap_does : (x : Prepared) → Prepares (snap worker ns s.world) t (Ok x) →
        act (Step.Snap worker ns) s ≡ Done x.content (record s { world = view t x.change })
    snap_does x h = snap_acts ∙ ap (lift (with_world s.acl)) h

    pub submit_refuses : is_past_bound s.world ≡ false → (refusal : Refusal) → Prepares (submit worker ns s.world) t (Err refusal) →
        Makes (Step.Submit worker ns) s (Err refusal) s
    submit_refuses within refusal h = refuses (Step.Submit worker ns) s _ submit_acts refl t refusal
        (subst (λ o. Prepares o t (Err refusal)) (sym (as_bounded _ (submit_fits worker ns) s.world within)) h)

    pub submit_does : (x : Prepared) → Prepares (submit worker ns s.world) t (Ok x) →
        act (Step.Submit worker ns) s ≡ Done x.content (record s { world = view t x.change })
    submit_does x h = submit_acts ∙ ap (lift (with_world s.acl)) h

    pub nack_refuses : (refusal : Refusal) → Prepares (bounded s.world (nack worker ns s.world)) t (Err refusal) →
        Makes (Step.Nack worker ns) s (Err refusal) s
    nack_refuses refusal h = refuses (Step.Nack worker ns) s _ nack_acts refl t refusal h

    pub nack_does : (x : Prepared) → Prepares (bounded s.world (nack worker ns s.world)) t (Ok x) →
        act (Step.Nack worker ns) s ≡ Done x.content (record s { world = view t x.change })
    nack_does x h = does (Step.Nack worker ns) s _ nack_acts refl t x h

-- ---- in a valid world one nack more can be counted

open_of : (e : Evaluation) → IsTrue (is_pending e.status) → is_open e.status ≡ true
open_of e is = by e.status is
  where
    by : (status : Status) → IsTrue (is_pending status) → is_open status ≡ true
    by Status.Pending is = refl
    by Status.Blocked is = refl
    by Status.Complete is = not_both is refl
    by Status.Failed is = not_both is refl
    by Status.Canceled is = not_both is refl

pub nack_left : SoundHasNackLeft
nack_left w sound number ns worker e has at = by (get w.tenants ns) refl has at
  where
    by : (o : Option Tenant) → get w.tenants ns ≡ o → option_and_then (λ t. get t.workers number) o ≡ Some worker →
        option_and_then (λ t. get t.evaluations worker.evaluation) o ≡ Some e → e.nacks + 1 < 2 ^ 64
    by None is has at = absurd (not_Some worker has)
    by (Some t) is has at =
        let tenant = sound.tenant ns t is in
        let busy = tenant.worker number worker has in
        let pending : is_open e.status ≡ true = ap (λ x. is_open x.status) (same_Some e busy.row (sym at ∙ busy.is_row)) ∙ open_of busy.row busy.pending in
        let few : e.nacks < 3 = (tenant.evaluation worker.evaluation e at).few_nacks pending in
        omega (arith, few)
