use Rattle.std.proofs.Common.{◌++◌, ◌∷◌, [], get_or, subst, sym, take}
use Rattle.std.proofs.lemmas.List.{take_all}
use Rattle.ns_place.specs.Marks.{AreFlags}
use Rattle.ns_place.proofs.Marks.{flags_next, without_flag}
use Rattle.ns_place.proofs.marking.places.flags_of.Goals as goal
use Rattle.ns_place.proofs.marking.places.flags_of.Goals.{then-place-lt1000, else-place-lt1000}

pub loop-place-preserved : goal.loop-place-preserved
loop-place-preserved c =
    let numbers = c.args.places.now in
    let at = c.loop-place.place-index in
    let x = get_or numbers at 0 in
    let so_far = c.loop-place.invariant in
    flags_next numbers at c.loop-place-test.true c.if-place-lt1000.flags (elim c.if-place-lt1000.branch [
      | then-place-lt1000 w ↦ subst (λ f. AreFlags f (take at numbers ++ x ∷ [])) (sym w.flags-is)
          (subst (λ n. AreFlags w.flag.new.self (take at numbers ++ n ∷ [])) w.from.ensures (w.flag.ensures (take at numbers) so_far))
      | else-place-lt1000 w ↦ subst (λ f. AreFlags f (take at numbers ++ x ∷ [])) (sym w.flags-is)
          (without_flag c.loop-place.flags (take at numbers) x w.if-place-lt1000.false so_far)
    ])

pub returns : goal.returns
returns c = subst (AreFlags c.loop-place.flags) (take_all c.loop-place.place-index c.args.places.now c.loop-place-test.false) c.loop-place.invariant
