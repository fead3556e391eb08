use Rattle.std.proofs.Common.{◌≡◌, ◌∙◌, ℕ, Some, length, map, option_map, slice_get, vec_items, arith, inl, inr, refl, ap, subst, sym}
use Rattle.std.proofs.lemmas.List.{length-map}
use Rattle.std.proofs.lemmas.Option.{slice_get_read, slice_get-map}
use Rattle.ns_log.specs.Marks.{AreMarks}
use Rattle.ns_log.specs.Settling.{FitBefore}
use Rattle.ns_log.proofs.Seating.{fit_in_seat, fit_next_seat, marks_next_seat, marked_by_name, named_by_marks, settles_by_fit, unfit_in_seat}
use Rattle.ns_log.proofs.receipts.agreement.settle_marking.Goals as goal

pub returns-in-Some : goal.returns-in-Some
returns-in-Some c =
    let seats = map vec_items c.args.seats.now in
    let log = c.args.log.now in
    let i = c.loop-number.number in
    let inv = c.loop-number.invariant in
    let s = c.index-seats-number.result in
    let here : slice_get seats i ≡ Some (vec_items s) =
    slice_get-map vec_items c.args.seats.now i
    ∙ ap (option_map vec_items) (slice_get_read c.args.seats.now (length c.args.seats.now) i s refl c.loop-number-test.true c.index-seats-number.is) in
    inl (unfit_in_seat log seats i c.in-Some.place (vec_items s) c.loop-number.marks here inv.marked inv.fit
    (rw c.as_slice.ensures.value at c.in-Some.ensures.unfit))

pub loop-number-preserved : goal.loop-number-preserved
loop-number-preserved c =
    let seats = map vec_items c.args.seats.now in
    let log = c.args.log.now in
    let i = c.loop-number.number in
    let inv = c.loop-number.invariant in
    let s = c.index-seats-number.result in
    let rs = vec_items s in
    let marks = c.loop-number.marks in
    let here : slice_get seats i ≡ Some rs =
    slice_get-map vec_items c.args.seats.now i
    ∙ ap (option_map vec_items) (slice_get_read c.args.seats.now (length c.args.seats.now) i s refl c.loop-number-test.true c.index-seats-number.is) in
    let fit = rw c.as_slice.ensures.value at c.in_default.ensures.fit in
    let marked = rw c.as_slice.ensures.value at c.in_default.ensures.marked in
    record {
      len = omega (arith, inv.len, c.seat_fault.auto.marks);
      fit = fit_next_seat log seats i rs here (fit_in_seat log seats i (length rs) rs marks here inv.marked inv.fit fit);
      marked = marks_next_seat seats i rs marks c.seat_fault.new.marks here inv.marked marked;
    }

pub returns-in-None : goal.returns-in-None
returns-in-None c =
    let seats = map vec_items c.args.seats.now in
    let log = c.args.log.now in
    let inv = c.loop-number.invariant in
    let end : c.loop-number.number ≡ length seats = omega (arith, c.loop-number.auto.number-end, length-map c.args.seats.now vec_items) in
    settles_by_fit log seats (subst (λ (n : ℕ). FitBefore log seats n 0) end inv.fit)
    (λ p lt. named_by_marks seats c.loop-number.number p c.loop-number.marks inv.marked (c.in-None.ensures.none p (omega (arith, inv.len))))

pub returns-in-Some-first_unmarked : goal.returns-in-Some-first_unmarked
returns-in-Some-first_unmarked c =
    let seats = map vec_items c.args.seats.now in
    let log = c.args.log.now in
    let marks = c.loop-number.marks in
    let inv = c.loop-number.invariant in
    let end : c.loop-number.number ≡ length seats = omega (arith, c.loop-number.auto.number-end, length-map c.args.seats.now vec_items) in
    let marked : AreMarks seats (length seats) marks = subst (λ (n : ℕ). AreMarks seats n marks) end inv.marked in
    let place = c.in-Some-first_unmarked.place in
    let answer = c.in-Some-first_unmarked.ensures in
    inr (
      sym (length-map c.args.seats.now vec_items),
      record {
        fit = subst (λ (n : ℕ). FitBefore log seats n 0) end inv.fit;
        within = omega (arith, inv.len, answer.within);
        unnamed = λ named. answer.unmarked (marked_by_name seats place marks marked named);
        before = λ q lt. named_by_marks seats (length seats) q marks marked (answer.first q lt);
      },
    )
