-- What each step of a worker changes, and what it leaves as it was.
use Rattle.std.specs.Prelude.{◌≡◌, ◌≢◌, ◌⊎◌, ℕ, true, not, ◌&&◌, Some, nat_lt, nat_eq}
use Rattle.std.proofs.Common.{refl, sym, ap, subst, inl, inr}
use Rattle.std.specs.FinMap.{get, insert}
use Rattle.std.specs.Option.{option_map_or}
use Rattle.ns_types.specs.declared.evaluation.Evaluation.{Evaluation}
use Rattle.ns_types.specs.declared.job.JobKind.{JobKind}
use Rattle.ns_types.specs.declared.reply.Content.{Content}
use Rattle.ns_types.specs.declared.snapshot.Snapshot.{Snapshot}
use Rattle.ns_types.specs.declared.step.Step.{Step}
use Rattle.ns_types.specs.declared.worker.Phase.{Phase}
use Rattle.ns_types.specs.Settling.Making.{put_tenant}
use Rattle.ns_types.specs.Settling.Outcome.{Outcome, NotEnabled, Refused, Done}
use Rattle.ns_types.specs.Settling.Settle.{settle}
use Rattle.ns_types.specs.State.Names.{Key, Name}
use Rattle.ns_types.specs.State.Rows.{State, World, Tenant}
use Rattle.ns_types.specs.Steps.{reply_of}
use Rattle.ns_types.specs.Validity.{IsValid}
use Rattle.ns_types.specs.Working.Queue.{is_served}
use Rattle.ns_types.specs.Working.Snapshot.{snapshot_of}
use Rattle.ns_types.specs.Working.Work.{dequeue, dequeue_in, is_idle, is_snapped, may_snap, may_submit}
use Rattle.ns_types.specs.Working.Work.{new_worker, snap, snap_for, submit, submit_for, submitted}
use Rattle.ns_types.specs.Working.Work.{taken, tries_for, with_snapshot, with_worker, workers_end}
use Rattle.ns_types.specs.Working.Worker.{Worker}
use Rattle.ns_types.proofs.Lists.{not_both}
use Rattle.ns_types.proofs.Named.{first_of_both, numbers, one_number, second_of_both}
use Rattle.ns_types.proofs.TableRows.{get_put}
use Rattle.ns_types.proofs.Tests.{is_no}
use Rattle.ns_audit.proofs.Alone.Sides.{act_is}
use Rattle.ns_laws.specs.Turns.{MayTake}
use Rattle.ns_laws.specs.Workers as law
use Rattle.ns_laws.specs.Workers.{HasTries, IsDequeued, IsSnapped, IsSubmitted}
use Rattle.ns_laws.proofs.Effect.Rows.{Does, does_if}
use Rattle.ns_laws.proofs.Plans.ApplyStep.{does_or}
use Rattle.ns_laws.proofs.Work.Rows.{at_work_does, changes_worker, settles_workers, stays_in, taken_out, work_does}
use Rattle.ns_laws.proofs.Work.Snapshots.{is_true_of}
use Rattle.ns_laws.proofs.Work.Turns.{in_turn, may_take}

-- ---- Dequeue

does_in_turn : (Q : Content → World → Type 0) (o : Outcome World) → (in_turn o ≡ true → Does Q o) → Does Q o
does_in_turn Q NotEnabled h = tt
does_in_turn Q (Refused refusal) h = tt
does_in_turn Q (Done content x) h = h refl

module _ (number : ℕ) (key : Key) (w : World) (Q : Content → World → Type 0) where
  dequeue_does : ((t : Tenant) (e : Evaluation) → get w.tenants key.0 ≡ Some t → get t.evaluations key.1 ≡ Some e →
      Q (Content.Took key.1) (taken number key w t e)) → Does Q (dequeue number key w)
  unfolding dequeue
  dequeue_does h = does_if Q (nat_lt number workers_end && is_idle w number && is_served w w.ready key) _ NotEnabled
      (λ _. does_or Q (get w.tenants key.0) (dequeue_in number key w)
      (λ t is. does_or Q (get t.evaluations key.1) (λ e. Done (Content.Took key.1) (taken number key w t e)) (λ e at. h t e is at))) (λ _. tt)

pub has_tries : (kind : JobKind) → HasTries kind (tries_for kind)
has_tries JobKind.Service = refl
has_tries JobKind.Batch = refl

module _ (number : ℕ) (ns : Name) (n : ℕ) (s : State) where
  abbrev dequeues : Step
  dequeues = Step.Dequeue number ns n

  abbrev Dequeued : Content → World → Type 0
  Dequeued content y = IsDequeued number ns n (reply_of dequeues content y) s (record s { world = y })

  dequeued_to : MayTake s.world number (ns, n) → (t : Tenant) (e : Evaluation) → get s.world.tenants ns ≡ Some t → get t.evaluations n ≡ Some e →
      Dequeued (Content.Took n) (taken number (ns, n) s.world t e)
  dequeued_to may t e is at = record {
    before = t;
    now = with_worker number (new_worker n e) t;
    stays = stays_in s ns t (with_worker number (new_worker n e) t) (taken number (ns, n) s.world t e) is refl refl refl;
    replied = refl;
    was_idle = may.1;
    was_next = may.2;
    taken = record {
      row = e;
      is_row = at;
      worker = new_worker n e;
      is_worker = get_put numbers one_number t.workers number (new_worker n e);
      evaluation = refl;
      phase = refl;
      tries = has_tries e.kind;
      no_snapshot = refl;
    };
    only_worker = changes_worker number (new_worker n e) t;
    ready = taken_out (ns, n) s.world.ready;
    plans = refl;
    blocked = refl;
  }

pub dequeued_is_taken : law.DequeuedIsTaken
dequeued_is_taken number ns n s s' reply made = work_does (Step.Dequeue number ns n) s s' reply (λ r y. IsDequeued number ns n r s y)
    (dequeue number (ns, n) s.world) (act_is (Step.Dequeue number ns n) s refl)
    (does_in_turn _ (dequeue number (ns, n) s.world) (λ turn. dequeue_does number (ns, n) s.world
    (λ content x. Dequeued number ns n s content (settle s.world x)) (λ t e is at.
    subst (Dequeued number ns n s (Content.Took n)) (sym (settles_workers s.world (taken number (ns, n) s.world t e) ns t
    (insert t.workers number (new_worker n e)) refl refl refl is))
    (dequeued_to number ns n s (may_take s.world number (ns, n) turn) t e is at)))) made

-- ---- Submit

pub snapped : (phase : Phase) → is_snapped phase ≡ true → phase ≡ Phase.Snapped
snapped Phase.Took e = not_both e refl
snapped Phase.Snapped e = refl
snapped Phase.Submitted e = not_both e refl
snapped Phase.Applied e = not_both e refl
snapped Phase.Dropped e = not_both e refl

module _ (number : ℕ) (ns : Name) (w : World) (Q : Content → World → Type 0) where
  submit_does : ((t : Tenant) (worker : Worker) (kept : Snapshot) → get w.tenants ns ≡ Some t → get t.workers number ≡ Some worker →
      worker.kept ≡ Some kept → may_submit worker kept ≡ true → Q (Content.Queued worker.evaluation) (submitted number ns w t worker)) →
      Does Q (submit number ns w)
  unfolding submit
  submit_does h = at_work_does number ns w Q (λ t worker e. option_map_or (submit_for number ns w t worker) worker.kept NotEnabled)
      (λ t worker e is has at. does_or Q worker.kept (submit_for number ns w t worker) (λ kept keeps.
      does_if Q (may_submit worker kept) (Done (Content.Queued worker.evaluation) (submitted number ns w t worker)) NotEnabled
      (λ may. h t worker kept is has keeps may) (λ _. tt)))

module _ (number : ℕ) (ns : Name) (s : State) where
  abbrev Submitted : Content → World → Type 0
  Submitted content y = IsSubmitted number ns (reply_of (Step.Submit number ns) content y) s (record s { world = y })

  submitted_to : (t : Tenant) (worker : Worker) (kept : Snapshot) → get s.world.tenants ns ≡ Some t → get t.workers number ≡ Some worker →
      worker.kept ≡ Some kept → may_submit worker kept ≡ true → Submitted (Content.Queued worker.evaluation) (submitted number ns s.world t worker)
  submitted_to t worker kept is has keeps may =
      let now : Worker = record worker { phase = Phase.Submitted } in record {
        before = t;
        now = with_worker number now t;
        stays = stays_in s ns t (with_worker number now t) (submitted number ns s.world t worker) is refl refl refl;
        old = worker;
        was_worker = has;
        was_in = snapped worker.phase (first_of_both (is_snapped worker.phase) _ may);
        kept = kept;
        was_kept = keeps;
        does_something = is_no _ (second_of_both (is_snapped worker.phase) _ may);
        is_worker = get_put numbers one_number t.workers number now;
        replied = refl;
        only_worker = changes_worker number now t;
        plans = refl;
        ready = refl;
        blocked = refl;
      }

pub submitted_waits_last : law.SubmittedWaitsLast
submitted_waits_last number ns s s' reply made = work_does (Step.Submit number ns) s s' reply (λ r y. IsSubmitted number ns r s y)
    (submit number ns s.world) (act_is (Step.Submit number ns) s refl)
    (submit_does number ns s.world (λ content x. Submitted number ns s content (settle s.world x)) (λ t worker kept is has keeps may.
    subst (Submitted number ns s (Content.Queued worker.evaluation)) (sym (settles_workers s.world (submitted number ns s.world t worker) ns t
    (insert t.workers number (record worker { phase = Phase.Submitted })) refl refl refl is))
    (submitted_to number ns s t worker kept is has keeps may))) made

-- ---- Snap

may_have : (tries : ℕ) (phase : Phase) → may_snap tries phase ≡ true → (phase ≡ Phase.Took) ⊎ ((phase ≡ Phase.Dropped) × (tries ≢ 0))
may_have tries Phase.Took e = inl refl
may_have tries Phase.Snapped e = not_both e refl
may_have tries Phase.Submitted e = not_both e refl
may_have tries Phase.Applied e = not_both e refl
may_have tries Phase.Dropped e = inr (refl, λ none. not_both e (ap (λ n. not (nat_eq n 0)) none))

module _ (number : ℕ) (ns : Name) (s : State) where
  abbrev Snapped : Content → World → Type 0
  Snapped content y = IsSnapped number ns (reply_of (Step.Snap number ns) content y) s (record s { world = y })

  module _ (t : Tenant) (worker : Worker) (e : Evaluation) where
    abbrev now_snapped : Worker
    now_snapped = with_snapshot (snapshot_of s.world ns t worker.evaluation e) worker

    abbrev snapped_to : World
    snapped_to = put_tenant ns (with_worker number now_snapped t) s.world

    is_snapped_to : IsValid s → get s.world.tenants ns ≡ Some t → get t.workers number ≡ Some worker → get t.evaluations worker.evaluation ≡ Some e →
        may_snap worker.tries worker.phase ≡ true → Snapped (Content.Snapped worker.evaluation) snapped_to
    is_snapped_to valid is has at may = record {
      before = t;
      now = with_worker number now_snapped t;
      stays = stays_in s ns t (with_worker number now_snapped t) snapped_to is refl refl refl;
      old = worker;
      was_worker = has;
      worker = now_snapped;
      is_worker = get_put numbers one_number t.workers number now_snapped;
      evaluation = refl;
      tries = refl;
      phase = refl;
      was_in = may_have worker.tries worker.phase may;
      kept = snapshot_of s.world ns t worker.evaluation e;
      is_kept = refl;
      is_true = is_true_of s.world ns t worker.evaluation e valid.world at;
      replied = refl;
      only_worker = changes_worker number now_snapped t;
      ready = refl;
      plans = refl;
      blocked = refl;
    }

pub snapshot_is_true : law.SnapshotIsTrue
unfolding snap
snapshot_is_true number ns s s' reply valid made = work_does (Step.Snap number ns) s s' reply (λ r y. IsSnapped number ns r s y)
    (snap number ns s.world) (act_is (Step.Snap number ns) s refl)
    (at_work_does number ns s.world (λ content x. Snapped number ns s content (settle s.world x)) (snap_for number ns s.world) (λ t worker e is has at.
    does_if _ (may_snap worker.tries worker.phase) (Done (Content.Snapped worker.evaluation) (snapped_to number ns s t worker e)) NotEnabled (λ may.
    subst (Snapped number ns s (Content.Snapped worker.evaluation)) (sym (settles_workers s.world (snapped_to number ns s t worker e) ns t
    (insert t.workers number (now_snapped number ns s t worker e)) refl refl refl is))
    (is_snapped_to number ns s t worker e valid is has at may)) (λ _. tt))) made
