use Rattle.std.proofs.Common.{drop}
use Rattle.ns_acl.proofs.Copied.{IsCopying}
use Rattle.ns_acl.proofs.copying.copied_tokens.Given as goal

abbrev pub invariant-loop-slot : goal.invariant-loop-slot
invariant-loop-slot l = IsCopying l.slots.items (drop l.slot-index l.slot-items) l.slot-items
