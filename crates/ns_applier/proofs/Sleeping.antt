-- Where no blocked evaluation is of a namespace whose index is at its bound, releases pass release numbers alone.
use Rattle.std.specs.Prelude.{◌≡◌, false, ◌||◌, [], ◌∷◌}
use Rattle.std.proofs.Common.{sym, ap, ◌∙◌}
use Rattle.ns_types.specs.declared.node.Class.{Class}
use Rattle.ns_types.specs.State.Names.{Name}
use Rattle.ns_types.specs.State.Rows.{World}
use Rattle.ns_types.proofs.Tests.{or_none}
use Rattle.ns_counters.specs.Bounds.{any_last_index, quota_passes, room_passes}
use Rattle.ns_counters.specs.Given.{given_limits_pass, given_room_passes}
use Rattle.ns_counters.proofs.Last.{none_given_passes}

module _ (w : World) (none : any_last_index w ≡ false) where
  pub room_alone : (room : Name × Class) → room_passes w room ≡ given_room_passes w room
  room_alone room = sym (ap (λ b. room_passes w room || b) (none_given_passes w none (room ∷ []) []) ∙ or_none (room_passes w room))

  pub quota_alone : (quota : Name) → quota_passes w quota ≡ given_limits_pass w quota
  quota_alone quota = sym (ap (λ b. quota_passes w quota || b) (none_given_passes w none [] (quota ∷ [])) ∙ or_none (quota_passes w quota))
