use Rattle.std.proofs.Common.{◌+◌, List, ap, sym, ◌∙◌, subst, refl}
use Rattle.ns_types.specs.State.Resources.{minus}
use Rattle.ns_place.specs.declared.order.Rank.{Rank}
use Rattle.ns_place.specs.Order.{AreRanks}
use Rattle.ns_place.proofs.Ranks.{rank_skips, rank_takes}
use Rattle.ns_place.proofs.order.ranks.Goals as goal
use Rattle.ns_place.proofs.order.ranks.Goals.{then-fits+in_ok-push, else-fits}

pub loop-i-preserved : goal.loop-i-preserved
loop-i-preserved c =
    let i = c.loop-i.i in
    let cs = c.args.candidates.now in
    let size = c.args.size in
    let x = c.index-candidates-i.result in
    let rs = c.loop-i.ranks.items in
    elim c.if-fits.branch [
      | then-fits+in_ok-push w ↦
          let r : Rank = record { left = w.minus.result; name = w.name.result; node = i } in
          subst (λ (ys : List Rank). AreRanks size cs (i + 1) ys) (sym (ap (λ v. v.items) w.ranks-is ∙ w.in_ok-push.ensures.items))
          (rank_takes size cs i x rs c.loop-i-test.true c.index-candidates-i.is c.loop-i.invariant r refl
          (w.minus.ensures ∙ ap (λ l. minus l size) w.left.ensures) w.name.ensures)
      | else-fits w ↦
          subst (λ (ys : List Rank). AreRanks size cs (i + 1) ys) (sym (ap (λ v. v.items) w.ranks-is))
          (rank_skips size cs i x rs c.loop-i-test.true c.index-candidates-i.is c.loop-i.invariant (sym c.fits.ensures ∙ w.if-fits.false))
    ]
