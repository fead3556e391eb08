use Rattle.std.proofs.Common.{◌<◌, ◌∙◌, ap, get_or, length, map, subst, sym, refl}
use Rattle.ns_types.specs.Working.Commit.{counts, node_name}
use Rattle.ns_plan.specs.After.{after_stops, keys_of}
use Rattle.ns_plan.proofs.Holding.{held_more, held_same}
use Rattle.ns_plan.proofs.evicting.hold.Goals as goal
use Rattle.ns_plan.proofs.evicting.hold.Goals.{then-is_new+in_ok-push, else-is_new}

pub loop-eviction-preserved : goal.loop-eviction-preserved
loop-eviction-preserved g c = λ seen h.
    let x = after_stops (g.V.View.world c.args.view.now) c.args.snapshot.now.namespace c.args.stops.now in
    let counted = counts x c.args.snapshot.now.pool (node_name c.args.snapshot.now c.args.placement.now.node) in
    let so_far = c.loop-eviction.invariant seen h in
    let all = c.as_slice-eviction-items.ensures in
    let evictions = c.args.placement.now.evictions in
    let at = c.loop-eviction.eviction-index in
    let e = c.eviction-item.result in
    let inside = subst (λ l. at < length l) all c.loop-eviction-test.true in
    let is = c.eviction-item.is ∙ ap (λ l. get_or l at e) all in
    let held = c.loop-eviction.held.items in
    elim c.if-is_new.branch [
      | then-is_new+in_ok-push v ↦ (λ j. keys_of (map (λ e. e.now) (v.held-is j).items))
          ∙ ap (λ l. keys_of (map (λ e. e.now) l)) v.in_ok-push.ensures.items
          ∙ held_more counted evictions at e inside is seen held so_far
          c.deref.result.now c.deref.ensures.value (sym c.is_new.ensures ∙ v.if-is_new.true) _ refl
      | else-is_new v ↦ (λ j. keys_of (map (λ e. e.now) (v.held-is j).items))
          ∙ held_same counted evictions at e inside is seen held so_far
          c.deref.result.now c.deref.ensures.value (sym c.is_new.ensures ∙ v.if-is_new.false)
    ]
