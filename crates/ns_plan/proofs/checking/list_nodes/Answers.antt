use Rattle.std.proofs.Common.{◌+◌, ◌∙◌, ap, arith, false, get_or, length, subst, sym, take, true}
use Rattle.std.specs.Prelude.{◌<◌}
use Rattle.ns_types.specs.Working.Commit.{nodes_in}
use Rattle.ns_place.specs.Marks.{AreFlags}
use Rattle.ns_plan.proofs.Few.{has_room}
use Rattle.ns_plan.proofs.Parts.{flagged, nodes_step}
use Rattle.ns_plan.proofs.checking.list_nodes.Goals as goal
use Rattle.ns_plan.proofs.checking.list_nodes.Goals.{then-not-has, else-not-has}

pub push-requires : goal.push-requires
push-requires c =
    let ps = c.args.plan.now.placing.placements in
    let seen = c.as_slice-placement-items.ensures in
    let at = c.loop-placement.placement-index in
    let p = c.placement-item.result in
    let so_far = c.loop-placement.invariant in
    let room = has_room c.args.snapshot.now c.args.plan.now c.requires.fits at p (subst (λ l. at < length l) seen c.loop-placement-test.true)
    (c.placement-item.is ∙ ap (λ l. get_or l at p) seen) (sym (c.has.ensures (nodes_in (take at ps)) so_far.1) ∙ c.if-not-has.true) in
    let same = ap length so_far.0 in
    (omega arith, omega (arith, room, same))

pub loop-placement-preserved : goal.loop-placement-preserved
loop-placement-preserved c =
    let ps = c.args.plan.now.placing.placements in
    let seen = c.as_slice-placement-items.ensures in
    let at = c.loop-placement.placement-index in
    let p = c.placement-item.result in
    let nodes = nodes_in (take at ps) in
    let after = nodes_in (take (at + 1) ps) in
    let so_far = c.loop-placement.invariant in
    let inside = subst (λ l. at < length l) seen c.loop-placement-test.true in
    let is = c.placement-item.is ∙ ap (λ l. get_or l at p) seen in
    let step = nodes_step ps at p inside is c.loop-placement.nodes.items so_far.0 nodes (sym so_far.0) in
    let known = sym (c.has.ensures nodes so_far.1) in
    elim c.if-not-has.branch [
      | then-not-has v ↦ (
        (λ i. (v.nodes-is i).items) ∙ v.push.ensures.items ∙ step false (known ∙ v.if-not-has.true),
        subst (λ f. AreFlags f after) (sym v.seen-is) (flagged ps at p inside is false (known ∙ v.if-not-has.true) _ (v.flag.ensures nodes so_far.1)),
      )
      | else-not-has v ↦ (
        (λ i. (v.nodes-is i).items) ∙ step true (known ∙ v.if-not-has.false),
        subst (λ f. AreFlags f after) (sym v.seen-is) (flagged ps at p inside is true (known ∙ v.if-not-has.false) _ so_far.1),
      )
    ]
