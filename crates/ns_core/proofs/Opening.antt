-- The opening parts hold the opening state.
use Rattle.std.specs.Prelude.{◌≡◌}
use Rattle.std.proofs.Common.{sym, subst}
use Rattle.ns_types.specs.State.Names.{Name}
use Rattle.ns_types.specs.State.Rows.{Acl}
use Rattle.ns_types.specs.Steps.{opening, opening_acl, opening_world}
use Rattle.ns_live_index.specs.Index as live
use Rattle.ns_live_index.specs.Index.{IsEmpty}
use Rattle.ns_live_index.proofs.Administered.{empty_right}
use Rattle.ns_queues.specs.Turns as turns
use Rattle.ns_queues.specs.Turns.{IsNew}
use Rattle.ns_queues.proofs.Together.{new_is_right}
use Rattle.ns_tables.specs.declared.tables.Tables.{Tables}
use Rattle.ns_tables.specs.World as tables
use Rattle.ns_core.specs.declared.parts.Parts.{Parts}
use Rattle.ns_core.specs.Held.{IsIndexed}
use Rattle.ns_core.specs.Viewed.{world_of}

pub opening_parts : (secret : Name) (acl : Acl) (held : Tables) → acl ≡ opening_acl secret → tables.world_of held ≡ opening_world →
    record { acl = acl; world = tables.world_of held } ≡ opening secret
unfolding opening
opening_parts secret acl held a w = λ i. record { acl = a i; world = w i }

module _ (secret : Name) (parts : Parts) (is : world_of parts ≡ opening_world) where
  pub opening_indexed : IsEmpty parts.live → IsNew parts.turns → IsIndexed parts
  unfolding opening
  opening_indexed none new = record {
    live = subst (λ w. live.IsRight w parts.live) (sym is) (empty_right secret parts.live none);
    turns = subst (λ w. turns.IsRight w parts.turns) (sym is) (new_is_right secret parts.turns new);
  }
