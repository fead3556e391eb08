use Rattle.std.proofs.Common.{◌<◌, ◌∙◌, ◌++◌, ap, arith, false, get_or, length, map, subst, sym, take, true}
use Rattle.std.specs.List.{filter}
use Rattle.std.proofs.lemmas.List.{append-nil, take_all}
use Rattle.ns_types.specs.State.Names.{has_number}
use Rattle.ns_types.specs.Working.Commit.{victims_in, victims_of}
use Rattle.ns_types.proofs.Once.{once}
use Rattle.ns_plan.specs.After.{after_stops, keys_of}
use Rattle.ns_plan.proofs.Holding.{victims_next}
use Rattle.ns_plan.proofs.Parts.{victims_checked}
use Rattle.ns_plan.proofs.evicting.victims.Goals as goal
use Rattle.ns_plan.proofs.evicting.victims.Goals.{then-has+in_ok-hold, else-has}

pub loop-placement-preserved : goal.loop-placement-preserved
loop-placement-preserved g c =
    let w = g.V.View.world c.args.view.now in
    let kept = c.args.snapshot.now in
    let x = after_stops w kept.namespace c.args.plan.now.stops in
    let nodes = c.args.committed.now in
    let ps = c.args.plan.now.placing.placements in
    let all = c.as_slice-placement-items.ensures in
    let at = c.loop-placement.placement-index in
    let p = c.placement-item.result in
    let next = victims_next x kept nodes ps at p (subst (λ l. at < length l) all c.loop-placement-test.true)
    (c.placement-item.is ∙ ap (λ l. get_or l at p) all) in
    let so_far = keys_of (victims_of x kept (filter (λ p. has_number nodes p.node) (take at ps))) in
    elim c.if-has.branch [
      | then-has+in_ok-hold v ↦ (λ j. keys_of (map (λ e. e.now) (v.held-is j).items)) ∙ v.in_ok-hold.ensures so_far c.loop-placement.invariant
          ∙ (λ i. once (so_far ++ keys_of (victims_in (after_stops w kept.namespace ((c.new-stops.ensures ∙ c.as_slice.ensures) i)) kept p)))
          ∙ ap once (sym (next true (sym c.has.ensures ∙ v.if-has.true)))
      | else-has v ↦ (λ j. keys_of (map (λ e. e.now) (v.held-is j).items)) ∙ c.loop-placement.invariant
          ∙ ap once (sym (next false (sym c.has.ensures ∙ v.if-has.false) ∙ append-nil so_far))
    ]

pub returns : goal.returns
returns g c =
    let kept = c.args.snapshot.now in
    let w = g.V.View.world c.args.view.now in
    let x = after_stops w kept.namespace c.args.plan.now.stops in
    let long = ap length c.as_slice-placement-items.ensures in
    let listed = c.loop-placement.invariant ∙ ap (λ l. once (keys_of (victims_of x kept (filter (λ p. has_number c.args.committed.now p.node) l))))
    (take_all c.loop-placement.placement-index c.args.plan.now.placing.placements (omega (arith, long))) in
    record { listed = listed; checked = λ t is same. victims_checked kept c.args.plan.now w t is c.args.committed.now _ listed same }
