-- The scan keeps the best so far: one answer for each way through an iteration.
use Rattle.std.proofs.Common.{◌≡◌, ℕ, ◌<◌, length, arith, subst, sym, ◌∙◌}
use Rattle.ns_types.specs.Placing.Placement.{fits, better}
use Rattle.ns_types.proofs.Choosing.{better_order}
use Rattle.ns_place.proofs.Best.{BestSoFar, scan_skips, scan_begins, scan_takes, scan_keeps, best_all}
use Rattle.ns_place.proofs.choice.best_node.Goals as goal
use Rattle.ns_place.proofs.choice.best_node.Goals.{then-fits+in-Some, then-fits+in_default-2, then-fits+in_default, else-fits}

pub loop-i-preserved : goal.loop-i-preserved
loop-i-preserved c =
    let i = c.loop-i.i in
    let x = c.index-candidates-i.result in
    let xs = c.args.candidates.now in
    let passes = fits c.args.size in
    let beats = better c.args.size in
    let o = better_order c.args.size in
    let inside : i < length xs = omega arith in
    let reads = c.index-candidates-i.is in
    let so_far = c.loop-i.invariant in
    elim c.if-fits.branch [
      | then-fits+in-Some w ↦
          scan_keeps passes beats o xs i x inside reads _ _ w.in-Some.b w.index-candidates-b.result w.in-Some.is w.best-is
          w.index-candidates-b.is (sym w.is_better.ensures ∙ w.if-not-is_better.true) so_far
      | then-fits+in_default-2 w ↦
          scan_takes passes beats o xs i x inside reads _ _ w.in-Some.b w.index-candidates-b.result w.in-Some.is w.best-is
          w.index-candidates-b.is (sym c.fits.ensures ∙ w.if-fits.true) (sym w.is_better.ensures ∙ w.if-not-is_better.false) so_far
      | then-fits+in_default w ↦
          scan_begins passes beats o xs i x inside reads _ _ w.in_default.is w.best-is (sym c.fits.ensures ∙ w.if-fits.true) so_far
      | else-fits w ↦
          scan_skips passes beats o xs i x inside reads _ _ w.best-is (sym c.fits.ensures ∙ w.if-fits.false) so_far
    ]

pub returns : goal.returns
returns c =
    let at_end : c.loop-i.i ≡ length c.args.candidates.now = omega arith in
    best_all (fits c.args.size) (better c.args.size) (better_order c.args.size) c.args.candidates.now c.loop-i.best
    (subst (λ (i : ℕ). BestSoFar (fits c.args.size) (better c.args.size) c.args.candidates.now i c.loop-i.best) at_end c.loop-i.invariant)
