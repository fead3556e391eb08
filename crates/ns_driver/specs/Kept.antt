-- The snapshot that a driver has.
use Rattle.std.specs.Prelude.{Option, Some, None}
use Rattle.ns_types.specs.declared.snapshot.Snapshot.{Snapshot}
use Rattle.ns_driver.specs.declared.kept.Kept.{Kept}

abbrev pub seen_of : Kept → Option Snapshot
seen_of Kept.Nothing = None
seen_of (Kept.Seen seen) = Some seen
seen_of (Kept.Planned planned) = Some planned
