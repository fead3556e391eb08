use Rattle.std.proofs.Common.{◌≡◌, ◌++◌}
use Rattle.std.specs.Prelude.{filter, nat_le}
use Rattle.ns_tables.proofs.events.kept.Events.from_index.Given as goal

abbrev pub invariant-loop-event : goal.invariant-loop-event
invariant-loop-event l = l.kept ++ filter (λ e. nat_le l.index e.index) l.event-iterator ≡ filter (λ e. nat_le l.index e.index) l.self
