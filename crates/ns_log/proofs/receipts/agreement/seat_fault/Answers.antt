use Rattle.std.proofs.Common.{◌≡◌, ◌<◌, ◌+◌, ◌∙◌, ℕ, Some, length, slice_get, arith, inl, inr, refl, true, subst}
use Rattle.std.proofs.lemmas.List.{length-set}
use Rattle.std.proofs.lemmas.Option.{slice_get_within, slice_get_read}
use Rattle.ns_log.specs.declared.receipts.receipt.Receipt.{Receipt}
use Rattle.ns_log.specs.Marks.{FitsSeat, FitSeatBefore, MarkedBy}
use Rattle.ns_log.specs.Settling.{entry_of}
use Rattle.ns_log.proofs.Marking.{fits_next, marked_next, below_next, same_receipt}
use Rattle.ns_log.proofs.receipts.agreement.seat_fault.Goals as goal

pub loop-receipt-preserved : goal.loop-receipt-preserved
loop-receipt-preserved c =
    let inv = c.loop-receipt.invariant in
    let r = c.receipt-item.result in
    let k = c.loop-receipt.receipt-index in
    let rs = c.args.receipts.now in
    let log = c.args.log.now in
    let old = c.args.marks.now in
    let marks = c.loop-receipt.marks in
    let here : slice_get rs k ≡ Some r = slice_get_read rs (length rs) k r refl c.loop-receipt-test.true c.receipt-item.is in
    let now = c.fits.ensures.0 c.if-not-fits.false in
    let inside : r.place < length log = slice_get_within log r.place (entry_of r) now.0 in
    let within : r.place < length marks = omega (arith, inv.len) in
    let fits : FitsSeat log old rs k r = record {
      fits = (now.0, (λ m. now.1 ((inv.marked r.place).1 (inl m))));
      rises = λ j q lt at. omega (arith, inv.above j q lt at);
    } in
    record {
      len = length-set marks r.place true ∙ inv.len;
      fit = fits_next log old rs k r inv.fit here fits;
      marked = marked_next old marks rs k r here within inv.marked;
      above = λ j q lt at. elim (below_next j k lt) [
        | inl less ↦ omega (arith, inv.above j q less at)
        | inr e ↦ subst (λ (x : Receipt). x.place < r.place + 1) (same_receipt rs j k r q here at e) (omega arith)
      ];
      next = inr (k, r, omega arith, here, refl);
    }

pub returns-clause-fit : goal.returns-clause-fit
returns-clause-fit c =
    let end : c.loop-receipt.receipt-index ≡ length c.args.receipts.now = omega (arith, c.loop-receipt.auto.receipt-index-end) in
    subst (λ (n : ℕ). FitSeatBefore c.args.log.now c.args.marks.now c.args.receipts.now n) end c.loop-receipt.invariant.fit

pub returns-clause-marked : goal.returns-clause-marked
returns-clause-marked c =
    let end : c.loop-receipt.receipt-index ≡ length c.args.receipts.now = omega (arith, c.loop-receipt.auto.receipt-index-end) in
    subst (λ (n : ℕ). MarkedBy c.args.marks.now c.args.receipts.now n c.loop-receipt.marks) end c.loop-receipt.invariant.marked
