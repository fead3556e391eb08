use Rattle.std.proofs.Common.{◌≡◌, length, map, vec_items}
use Rattle.ns_log.specs.Marks.{AreMarks}
use Rattle.ns_log.specs.Settling.{FitBefore}
use Rattle.ns_log.proofs.receipts.agreement.settle_marking.Given as goal

abbrev pub invariant-loop-number : goal.invariant-loop-number
invariant-loop-number l = record {
  len : length l.marks ≡ length l.log;
  fit : FitBefore l.log (map vec_items l.seats) l.number 0;
  marked : AreMarks (map vec_items l.seats) l.number l.marks;
}
