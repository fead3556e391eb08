-- What is prepared for a worker's step, and what a worker that looked is answered.
use Rattle.std.specs.Prelude.{◌≡◌, ℕ, true, Some, Result, Ok, Err}
use Rattle.std.proofs.Common.{refl, ap, ◌∙◌}
use Rattle.ns_types.specs.declared.refusal.Refusal.{Refusal}
use Rattle.ns_types.specs.declared.reply.Content.{Content}
use Rattle.ns_types.specs.declared.reply.Reply.{Reply}
use Rattle.ns_types.specs.declared.snapshot.Snapshot.{Snapshot}
use Rattle.ns_types.specs.declared.step.Step.{Step}
use Rattle.ns_types.specs.State.Names.{Name}
use Rattle.ns_types.specs.State.Rows.{State}
use Rattle.ns_types.specs.Steps.{Answer, Makes, after, is_made, said}
use Rattle.ns_types.specs.Working.Commit.{apply}
use Rattle.ns_types.specs.Working.Work.{dequeue, nack, snap}
use Rattle.ns_change.specs.declared.change.Prepared.{Prepared}
use Rattle.ns_change.specs.Changed.{view}
use Rattle.ns_change.specs.Prepared.{Prepares, bounded}
use Rattle.ns_broker.specs.Nacking.{HasNackLeft}
use Rattle.ns_broker.specs.Snapping.{UseFitsIn, kept_at}
use Rattle.ns_broker.specs.Submitting.{HasWork, Submits}
use Rattle.ns_broker.proofs.Making.{dequeue_does, dequeue_refuses, nack_does, nack_left, nack_refuses, snap_does, snap_refuses}
use Rattle.ns_broker.proofs.Making.{submit_does, submit_refuses}
use Rattle.ns_broker.proofs.Snaps.{snap_answers, snap_settles}
use Rattle.ns_broker.proofs.Submitted.{has_work}
use Rattle.ns_applier.proofs.Making.{apply_does, apply_refuses}
use Rattle.ns_followers.specs.Finishing.{Finishes, HasPendingWork}
use Rattle.ns_followers.proofs.Answered.{pending_there}
use Rattle.ns_followers.proofs.Making.{finish_does, finish_refuses}
use Rattle.ns_core.specs.declared.parts.Parts.{Parts}
use Rattle.ns_core.specs.Answering.{MakesStep, PreparesStep}
use Rattle.ns_types.specs.Validity.{IsValid}
use Rattle.ns_types.specs.Settling.Outcome.{is_done}
use Rattle.ns_types.proofs.Lists.{not_both}
use Rattle.ns_driver.specs.Calls.{FinishesBy, HandsIn}
use Rattle.ns_core.specs.Viewed.{state_of, world_of}
use Rattle.ns_core.proofs.Keeping.{within}
use Rattle.ns_core.proofs.Making.{made_of}
use Rattle.ns_core.proofs.Reading.{usage_fits}

module _ (parts : Parts) (valid : IsValid (state_of parts)) (worker : ℕ) (ns : Name) where
  pub dequeue_prepares : (n : ℕ) (result : Result Prepared Refusal) → Prepares (dequeue worker (ns, n) (world_of parts)) parts.tables result →
      PreparesStep (Step.Dequeue worker ns n) parts result
  dequeue_prepares n (Ok x) h = dequeue_does worker ns (state_of parts) parts.tables n x h
  dequeue_prepares n (Err refusal) h = dequeue_refuses worker ns (state_of parts) parts.tables n (within (state_of parts) valid) refusal h

  pub nack_prepares : (result : Result Prepared Refusal) → Prepares (bounded (world_of parts) (nack worker ns (world_of parts))) parts.tables result →
      PreparesStep (Step.Nack worker ns) parts result
  nack_prepares (Ok x) h = nack_does worker ns (state_of parts) parts.tables x h
  nack_prepares (Err refusal) h = nack_refuses worker ns (state_of parts) parts.tables refusal h

  pub apply_prepares : (result : Result Prepared Refusal) → Prepares (bounded (world_of parts) (apply worker ns (world_of parts))) parts.tables result →
      PreparesStep (Step.Apply worker ns) parts result
  apply_prepares (Ok x) h = apply_does worker ns (state_of parts) parts.tables x h
  apply_prepares (Err refusal) h = apply_refuses worker ns (state_of parts) parts.tables refusal h

  pub has_nack_left : HasNackLeft (world_of parts) worker ns
  has_nack_left = nack_left (world_of parts) valid.world worker ns

  -- ---- a worker that looks

  pub use_fits : UseFitsIn (world_of parts) ns
  use_fits t is quota names = usage_fits (state_of parts) valid quota

  pub snap_refused : (refusal : Refusal) → Prepares (snap worker ns (world_of parts)) parts.tables (Err refusal) →
      MakesStep (Step.Snap worker ns) parts (Err refusal) parts
  snap_refused refusal h = snap_refuses worker ns (state_of parts) parts.tables (within (state_of parts) valid) refusal h

  module _ (x : Prepared) (prepares : Prepares (snap worker ns (world_of parts)) parts.tables (Ok x)) where
    pub snap_prepares : PreparesStep (Step.Snap worker ns) parts (Ok x)
    snap_prepares = snap_does worker ns (state_of parts) parts.tables x prepares

    module _ (seen : Snapshot) (keeps : kept_at (view parts.tables x.change) worker ns ≡ Some seen) (reply : Reply) (s : State)
        (made : after (Step.Snap worker ns) (state_of parts) ≡ said (Ok reply) s) where
      -- the row keeps it once the step has settled
      pub still_kept : kept_at s.world worker ns ≡ Some seen
      still_kept = ap (λ w. kept_at w worker ns) ((made_of (Step.Snap worker ns) (state_of parts) s refl x.content _ snap_prepares reply made).1
          ∙ snap_settles worker ns (world_of parts) x.content (view parts.tables x.change) prepares (within (state_of parts) valid)) ∙ keeps

      -- and its number is what the reply says
      pub says_its_number : reply.content ≡ Content.Snapped seen.number
      says_its_number = (made_of (Step.Snap worker ns) (state_of parts) s refl x.content _ snap_prepares reply made).0
          ∙ snap_answers worker ns (world_of parts) x.content (view parts.tables x.change) prepares seen keeps

  -- ---- a worker that hands in its plan

  pub has_work_there : HasWork (world_of parts) worker ns
  has_work_there = has_work (world_of parts) valid.world worker ns

  module _ (planned : Snapshot) where
    pub not_handed_in : (refusal : Refusal) → Submits worker ns planned parts.tables (Err refusal) →
        HandsIn worker ns planned (state_of parts) (Err refusal) (state_of parts)
    not_handed_in Refusal.Memory h = (h.0, submit_refuses worker ns (state_of parts) parts.tables (within (state_of parts) valid) Refusal.Memory h.1)
    not_handed_in refusal h = (h, refl)

    module _ (x : Prepared) (submits : Submits worker ns planned parts.tables (Ok x)) where
      pub submit_prepares : PreparesStep (Step.Submit worker ns) parts (Ok x)
      submit_prepares = submit_does worker ns (state_of parts) parts.tables x submits.1

      goes_through : is_made (after (Step.Submit worker ns) (state_of parts)) ≡ true
      goes_through = (submit_refuses worker ns (state_of parts) parts.tables (within (state_of parts) valid) Refusal.Memory (ap is_done submits.1)).0

      -- what is prepared is made, but for want of memory
      pub handed_in : (s : State) (answer : Answer) → Makes (Step.Submit worker ns) (state_of parts) answer s →
          HandsIn worker ns planned (state_of parts) answer s
      handed_in s (Ok reply) made = (submits.0, made)
      handed_in s (Err Refusal.Memory) made = (submits.0, made)
      handed_in s (Err Refusal.NotEnabled) made = not_both goes_through (ap is_made made.0)
      handed_in s (Err refusal) made = not_both goes_through (ap is_made made.0)

  -- ---- a worker that finishes its evaluation

  pub has_pending_work_there : HasPendingWork (world_of parts) worker ns
  has_pending_work_there = pending_there (world_of parts) valid.world worker ns

  module _ (planned : Snapshot) where
    pub not_finished : (refusal : Refusal) → Finishes worker ns planned parts.tables (Err refusal) →
        FinishesBy worker ns planned (state_of parts) (Err refusal) (state_of parts)
    not_finished Refusal.Memory h = (h.0, finish_refuses worker ns (state_of parts) parts.tables Refusal.Memory h.1)
    not_finished Refusal.Full h = (h.0, finish_refuses worker ns (state_of parts) parts.tables Refusal.Full h.1)
    not_finished refusal h = (h, refl)

    module _ (x : Prepared) (finishes : Finishes worker ns planned parts.tables (Ok x)) where
      pub finish_prepares : PreparesStep (Step.Finish worker ns) parts (Ok x)
      finish_prepares = finish_does worker ns (state_of parts) parts.tables x finishes.1

      finish_goes_through : is_made (after (Step.Finish worker ns) (state_of parts)) ≡ true
      finish_goes_through = (finish_refuses worker ns (state_of parts) parts.tables Refusal.Memory (ap is_done finishes.1)).0

      -- what is prepared is made, but for want of memory
      pub finished_by : (s : State) (answer : Answer) → Makes (Step.Finish worker ns) (state_of parts) answer s →
          FinishesBy worker ns planned (state_of parts) answer s
      finished_by s (Ok reply) made = (finishes.0, made)
      finished_by s (Err Refusal.Memory) made = (finishes.0, made)
      finished_by s (Err Refusal.Full) made = (finishes.0, made)
      finished_by s (Err Refusal.NotEnabled) made = not_both finish_goes_through (ap is_made made.0)
      finished_by s (Err refusal) made = not_both finish_goes_through (ap is_made made.0)
