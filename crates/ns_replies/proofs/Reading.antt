-- A served step either only reads or may change something.
use Rattle.std.specs.Prelude.{◌≡◌, true, not, Option, Some, None, IsSome}
use Rattle.std.specs.Option.{option_map_or}
use Rattle.std.proofs.Common.{refl}
use Rattle.ns_types.specs.declared.step.Step.{Step}
use Rattle.ns_types.proofs.Lists.{not_both}
use Rattle.ns_steps.specs.Served.{IsServed, is_reading, only_reads, served}
use Rattle.ns_steps.specs.Told.{Shape, is_of_write}
use Rattle.ns_replies.specs.Laws.{may_change}

reads_or_writes : (line : Option Shape) → IsSome line → only_reads line ≡ not (option_map_or is_of_write line true)
reads_or_writes None served = not_both served refl
reads_or_writes (Some shape) served = refl

pub reads_or_changes : (step : Step) → IsServed step → is_reading step ≡ not (may_change step)
reads_or_changes step is_served = reads_or_writes (served step) is_served
