-- The state that a core's parts hold: their rows, without vacant slots and room.
use Rattle.ns_types.specs.State.Rows.{State, World}
use Rattle.ns_tables.specs.World
use Rattle.ns_core.specs.declared.parts.Parts.{Parts}

abbrev pub world_of : Parts → World
world_of p = World.world_of p.tables

abbrev pub state_of : Parts → State
state_of p = record { acl = p.acl; world = world_of p }
