use Rattle.std.proofs.Common.{◌≡◌, ◌+◌, ◌<◌, ◌⊎◌, ℕ, Some, length, slice_get}
use Rattle.ns_log.specs.declared.receipts.receipt.Receipt.{Receipt}
use Rattle.ns_log.specs.Marks.{FitSeatBefore, MarkedBy}
use Rattle.ns_log.proofs.receipts.agreement.seat_fault.Given as goal

abbrev pub invariant-loop-receipt : goal.invariant-loop-receipt
invariant-loop-receipt l = record {
  len : length l.marks ≡ length l.log;
  fit : FitSeatBefore l.log l.initial.marks l.receipts l.receipt-index;
  marked : MarkedBy l.initial.marks l.receipts l.receipt-index l.marks;
  above : (k : ℕ) (q : Receipt) → k < l.receipt-index → slice_get l.receipts k ≡ Some q → q.place < l.next;
  next : (l.next ≡ 0) ⊎ ((k : ℕ) × (q : Receipt) × (k < l.receipt-index) × (slice_get l.receipts k ≡ Some q) × (l.next ≡ q.place + 1));
}
