use Rattle.std.proofs.Common.{drop}
use Rattle.std.specs.Prelude.{true}
use Rattle.ns_copies.proofs.Slotwise.{IsCopying}
use Rattle.ns_copies.proofs.tables.copied_numbers.Given as goal

abbrev pub invariant-loop-slot : goal.invariant-loop-slot
invariant-loop-slot g l = IsCopying g.V.Copies.seen g.V.Copies.IsWhole (λ _. true) l.slots.items (drop l.slot-index l.slot-items) l.slot-items
