-- A valid world's sums can be counted.
use Rattle.ns_types.specs.State.Rows.{World}
use Rattle.ns_types.specs.State.Sums.{node_load, quota_use}
use Rattle.ns_types.specs.Validity.{IsSound}
use Rattle.ns_types.proofs.LiveSums.{load_small, quota_small, small_counted}
use Rattle.ns_plan.specs.Looks.{AreCounted}

pub sound_is_counted : (w : World) → IsSound w → AreCounted w
sound_is_counted w sound = record {
  load = λ pool node. small_counted (node_load w pool node) (load_small w pool node sound);
  used = λ quota. small_counted (quota_use w quota) (quota_small w quota sound);
}
