use Rattle.std.proofs.Common.{◌<◌, ◌≤◌, ◌∙◌, [], ap, arith, get_or, length, length-set, refl, subst, sym, take}
use Rattle.std.proofs.lemmas.List.{get_or-replicate, length-take-le, take_all}
use Rattle.ns_plan.specs.Gathered.{AreParts, IsPart}
use Rattle.ns_plan.proofs.Few.{node_inside}
use Rattle.ns_plan.proofs.Gathered.{parts_next}
use Rattle.ns_plan.proofs.gathering.parts_of.Goals as goal

pub loop-i-init : goal.loop-i-init
loop-i-init c = (
  refl,
  λ k below d. subst (IsPart k []) (sym (get_or-replicate 1000 k c.no_part-parts.result d below)) (c.no_part-parts.ensures k),
)

pub loop-i-preserved : goal.loop-i-preserved
loop-i-preserved c =
    let plan = c.args.plan.now in
    let ps = plan.placing.placements in
    let seen = c.as_slice-placements.ensures in
    let at = c.loop-i.i in
    let p = c.index-placements-i.result in
    let parts = c.loop-i.parts in
    let inside : at < length ps = subst (λ l. at < length l) seen c.loop-i-test.true in
    let is = c.index-placements-i.is ∙ ap (λ l. get_or l at p) seen in
    let few = c.requires.few in
    let node = node_inside c.args.snapshot.now plan c.requires at p inside is in
    let small : p.node < 1000 = omega (arith, few, node) in
    let taken = length-take-le at ps (omega (arith, inside)) in (
      length-set parts p.node c.with_next.result ∙ c.loop-i.invariant.0,
      parts_next ps at p inside is parts c.loop-i.invariant.0 small c.loop-i.invariant.1 c.with_next.result
          (c.with_next.ensures (take at ps) (omega (arith, taken)) (c.loop-i.invariant.1 p.node small _)),
    )

pub returns : goal.returns
returns c = subst (λ l. AreParts l c.loop-i.parts)
    (take_all c.loop-i.i c.args.plan.now.placing.placements (subst (λ l. length l ≤ c.loop-i.i) c.as_slice-placements.ensures c.loop-i-test.false))
    c.loop-i.invariant.1
