-- Queueing changes the list of ready evaluations alone.
use Rattle.std.specs.Prelude.{◌≡◌, Bool, true, false, cond, List, [], ◌∷◌, ◌++◌, Option, Some, None, fold}
use Rattle.std.proofs.Common.{refl, ◌∙◌}
use Rattle.std.specs.Option.{option_map_or}
use Rattle.ns_types.specs.declared.evaluation.Evaluation.{Evaluation}
use Rattle.ns_types.specs.State.Names.{Key}
use Rattle.ns_types.specs.State.Rows.{World, evaluation_at}
use Rattle.ns_types.specs.Working.Queue.{is_busy, queue}

module _ {A : Type 0} (part : World → A) (keeps : (w : World) (keys : List Key) → part (record w { ready = keys }) ≡ part w) where
  pub queue_keeps : (w : World) (key : Key) → part (queue w key) ≡ part w
  unfolding queue
  queue_keeps w key = by (evaluation_at w key)
    where
      or : (b : Bool) → part (cond b w (record w { ready = w.ready ++ key ∷ [] })) ≡ part w
      or true = refl
      or false = keeps w (w.ready ++ key ∷ [])

      by : (o : Option Evaluation) → part (option_map_or (λ e. cond (is_busy w key.0 e.job) w (record w { ready = w.ready ++ key ∷ [] })) o w) ≡ part w
      by None = refl
      by (Some e) = or (is_busy w key.0 e.job)

  pub queues_keep : (keys : List Key) (w : World) → part (fold queue w keys) ≡ part w
  queues_keep [] w = refl
  queues_keep (key ∷ keys) w = queues_keep keys (queue w key) ∙ queue_keeps w key
