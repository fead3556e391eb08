-- When an index is right although it did not follow the world row by row, and why loads fit 64 bits.
use Rattle.std.specs.Prelude.{Option, Result}
use Rattle.ns_types.specs.declared.refusal.Refusal.{Refusal}
use Rattle.ns_types.specs.declared.reply.Content.{Content}
use Rattle.ns_types.specs.declared.step.AdminCommand.{AdminCommand}
use Rattle.ns_types.specs.Asking.Policies.{administer}
use Rattle.ns_types.specs.Settling.Outcome.{Changes}
use Rattle.ns_types.specs.State.Names.{Name}
use Rattle.ns_types.specs.State.Resources.{IsCounted}
use Rattle.ns_types.specs.State.Rows.{State, World}
use Rattle.ns_types.specs.State.Sums.{node_load}
use Rattle.ns_types.specs.Steps.{opening}
use Rattle.ns_types.specs.Validity.{IsSound}
use Rattle.ns_live_index.specs.declared.live.Live.{Live}
use Rattle.ns_live_index.specs.Index.{IsEmpty, IsRight}
use Rattle.ns_live_index.specs.Naming.{AreNamed, KeepsNodes}

-- an empty index is right for the opening world: nothing is live in it, and no quota is named
abbrev pub EmptyIsRightAtFirst : Type 0
EmptyIsRightAtFirst = (secret : Name) (live : Live) → IsEmpty live → IsRight (opening secret).world live

-- requests of administrators change no live allocation and no node, so only the names and totals of quotas have to be put
-- right
abbrev pub AdministrationKeepsRight : Type 0
AdministrationKeepsRight = (secret : Option Name) (command : AdminCommand) (s s' : State)
    (result : Result Content Refusal) (live live' : Live) → Changes (administer secret command s) s result s' →
    IsRight s.world live → KeepsNodes live live' → AreNamed s'.world live' → IsRight s'.world live'

-- in a sound world the load of each node fits 64 bits, whether the node exists or not
abbrev pub SoundLoadsFit : Type 0
SoundLoadsFit = (w : World) → IsSound w → (pool node : Name) → IsCounted (node_load w pool node)
