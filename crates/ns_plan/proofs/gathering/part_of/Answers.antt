use Rattle.std.proofs.Common.{◌++◌, ◌∷◌, [], arith, subst, sym, take}
use Rattle.std.proofs.lemmas.List.{length-take-le, take_all}
use Rattle.ns_plan.specs.Gathered.{IsPart}
use Rattle.ns_plan.proofs.Gathered.{not_there}
use Rattle.ns_plan.proofs.Holding.{take_next}
use Rattle.ns_plan.proofs.gathering.part_of.Goals as goal
use Rattle.ns_plan.proofs.gathering.part_of.Goals.{then-placement-node, else-placement-node}

pub loop-i-init : goal.loop-i-init
loop-i-init c = c.no_part-part.ensures c.args.node

pub loop-i-preserved : goal.loop-i-preserved
loop-i-preserved c =
    let ps = c.args.placements.now in
    let k = c.args.node in
    let at = c.loop-i.i in
    let p = c.index-placements-i.result in
    let inside = c.loop-i-test.true in
    let so_far = c.loop-i.invariant in
    let taken = length-take-le at ps (omega (arith, inside)) in
    let next = sym (take_next ps at p inside c.index-placements-i.is) in
    subst (λ l. IsPart k l c.if-placement-node.part) next (elim c.if-placement-node.branch [
      | then-placement-node w ↦
          let same = w.if-placement-node.true in
          subst (IsPart k (take at ps ++ p ∷ [])) (sym w.part-is) (subst (λ n. IsPart n (take at ps ++ p ∷ []) w.with_next-part.result) same
          (w.with_next-part.ensures (take at ps) (omega (arith, taken)) (subst (λ n. IsPart n (take at ps) c.loop-i.part) (sym same) so_far)))
      | else-placement-node w ↦ subst (IsPart k (take at ps ++ p ∷ [])) (sym w.part-is)
          (not_there (take at ps) p k w.if-placement-node.false c.loop-i.part so_far)
    ])

pub returns : goal.returns
returns c = subst (λ l. IsPart c.args.node l c.loop-i.part) (take_all c.loop-i.i c.args.placements.now c.loop-i-test.false) c.loop-i.invariant
