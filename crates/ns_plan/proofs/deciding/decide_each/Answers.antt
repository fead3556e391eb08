use Rattle.std.proofs.Common.{◌<◌, ◌+◌, ◌∙◌, ap, false, get_or, length, option_copied, subst, sym, take, true}
use Rattle.ns_types.specs.Working.Commit.{nodes_in}
use Rattle.ns_place.specs.Marks.{AreFlags}
use Rattle.ns_plan.specs.After.{after_stops}
use Rattle.ns_plan.specs.Reader.{IsSoFar, read_all}
use Rattle.ns_plan.proofs.Nodewise.{already, elsewhere_now, now, room_committed, room_dropped}
use Rattle.ns_plan.proofs.Parts.{flagged}
use Rattle.ns_plan.proofs.deciding.decide_each.Goals as goal
use Rattle.ns_plan.proofs.deciding.decide_each.Goals.{then-not-has, else-not-has}

pub decide-requires-clause-room : goal.decide-requires-clause-room
decide-requires-clause-room g c =
    let kept = c.args.snapshot.now in
    let plan = c.args.plan.now in
    let ps = plan.placing.placements in
    let x = after_stops (g.V.View.world c.args.view.now) kept.namespace plan.stops in
    let quota = option_copied c.quota-quota.result in
    let seen = c.as_slice-placements.ensures in
    let at = c.loop-placement.placement-index in
    let p = c.placement-item.result in
    let inside = subst (λ l. at < length l) seen c.loop-placement-test.true in
    let is = c.placement-item.is ∙ ap (λ l. get_or l at p) seen in
    let s = c.loop-placement.so_far in
    let nodes = nodes_in (take at ps) in
    let so_far = c.loop-placement.invariant in
    let known = sym (c.has.ensures nodes so_far.1) in
    room_committed kept plan c.requires.fits x quota at p inside is s so_far.0 (known ∙ c.if-not-has.true)

pub decide-requires-clause-room_dropped : goal.decide-requires-clause-room_dropped
decide-requires-clause-room_dropped g c =
    let kept = c.args.snapshot.now in
    let plan = c.args.plan.now in
    let ps = plan.placing.placements in
    let x = after_stops (g.V.View.world c.args.view.now) kept.namespace plan.stops in
    let quota = option_copied c.quota-quota.result in
    let seen = c.as_slice-placements.ensures in
    let at = c.loop-placement.placement-index in
    let p = c.placement-item.result in
    let inside = subst (λ l. at < length l) seen c.loop-placement-test.true in
    let is = c.placement-item.is ∙ ap (λ l. get_or l at p) seen in
    let s = c.loop-placement.so_far in
    let nodes = nodes_in (take at ps) in
    let so_far = c.loop-placement.invariant in
    let known = sym (c.has.ensures nodes so_far.1) in
    room_dropped kept plan c.requires.fits x quota at p inside is s so_far.0 (known ∙ c.if-not-has.true)

pub loop-placement-preserved : goal.loop-placement-preserved
loop-placement-preserved g c =
    let kept = c.args.snapshot.now in
    let plan = c.args.plan.now in
    let ps = plan.placing.placements in
    let x = after_stops (g.V.View.world c.args.view.now) kept.namespace plan.stops in
    let quota = option_copied c.quota-quota.result in
    let seen = c.as_slice-placements.ensures in
    let at = c.loop-placement.placement-index in
    let p = c.placement-item.result in
    let inside = subst (λ l. at < length l) seen c.loop-placement-test.true in
    let is = c.placement-item.is ∙ ap (λ l. get_or l at p) seen in
    let s = c.loop-placement.so_far in
    let nodes = nodes_in (take at ps) in
    let so_far = c.loop-placement.invariant in
    let known = sym (c.has.ensures nodes so_far.1) in
    let r = read_all kept ps x nodes in
    let after = read_all kept ps x (nodes_in (take (at + 1) ps)) in
    let flags_after = nodes_in (take (at + 1) ps) in
    elim c.if-not-has.branch [
      | then-not-has v ↦
          let new = known ∙ v.if-not-has.true in (
            subst (λ s. IsSoFar x quota s after) (sym v.so_far-is) (now kept plan c.requires.fits x quota at p inside is s so_far.0 new _
                (v.decide.ensures r so_far.0 (elsewhere_now kept plan c.requires.fits x quota at p inside is s so_far.0 new))),
            subst (λ f. AreFlags f flags_after) (sym v.decided-is) (flagged ps at p inside is false new _ (v.flag.ensures nodes so_far.1)),
          )
      | else-not-has v ↦ (
        subst (λ s. IsSoFar x quota s after) (sym v.so_far-is)
            (already kept plan c.requires.fits x quota at p inside is s so_far.0 (known ∙ v.if-not-has.false)),
        subst (λ f. AreFlags f flags_after) (sym v.decided-is) (flagged ps at p inside is true (known ∙ v.if-not-has.false) _ so_far.1),
      )
    ]
