-- What is true of every core.
use Rattle.ns_types.specs.Validity.{IsValid}
use Rattle.ns_live_index.specs.declared.live.Live.{Live}
use Rattle.ns_live_index.specs.Index as live
use Rattle.ns_live_index.specs.Naming.{AreNamed}
use Rattle.ns_queues.specs.Turns as turns
use Rattle.ns_core.specs.declared.parts.Parts.{Parts}
use Rattle.ns_core.specs.Viewed.{state_of, world_of}
use Rattle.ns_tables.specs.declared.tables.Tables.{Tables}
use Rattle.ns_tables.specs.World

-- if the old index is right about which namespaces name which quota, so is the new one
abbrev pub KeepsNamed : Tables → Live → Tables → Live → Type 0
KeepsNamed old was new now = AreNamed (World.world_of old) was → AreNamed (World.world_of new) now

-- the index of live allocations is right, with the nodes that snapshots share, and so is the index of the queues
pub record IsIndexed (parts : Parts) : Type 0 where
  pub live : live.IsRight (world_of parts) parts.live
  pub turns : turns.IsRight (world_of parts) parts.turns

pub record IsKept (parts : Parts) : Type 0 where
  pub valid : IsValid (state_of parts)
  pub index : IsIndexed parts
