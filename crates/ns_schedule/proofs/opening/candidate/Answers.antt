use Rattle.std.proofs.Common.{◌≡◌, ◌∙◌, ap, sym, map, Bor, List, subst}
use Rattle.ns_types.specs.declared.snapshot.LiveAllocation.{LiveAllocation}
use Rattle.ns_types.specs.declared.resources.Resources.{Resources}
use Rattle.ns_types.specs.Placing.Plan.{staying, stays}
use Rattle.ns_types.specs.Placing.Preemption.{evictable}
use Rattle.ns_types.specs.State.Resources.{IsCounted, plus, total}
use Rattle.ns_schedule.proofs.Levels.{opened_counted}
use Rattle.ns_schedule.proofs.opening.candidate.Goals as goal

pub new-requires : goal.new-requires
new-requires c =
    let seen = λ (a : Bor LiveAllocation). a.now in
    let stops = c.args.stops.now in
    let namespace = c.args.namespace.now in
    let priority = c.get-document.result.now.priority in
    let live = c.args.node.now.live in
    let load = total (λ (a : LiveAllocation). a.size) (staying namespace stops live) in
    let order : map seen c.in_ok-order.order.items ≡ evictable priority live = c.in_ok-order.ensures in
    let left : map seen c.in_ok-evictable.evictable.items ≡ staying namespace stops (evictable priority live) =
    c.in_ok-evictable.ensures ∙ ap (staying namespace stops) (ap (map seen) c.deref.ensures.value ∙ order) in
    subst (λ (ys : List LiveAllocation). IsCounted (plus c.left_of-left.result (total (λ a. a.size) ys))) (sym left)
    (subst (λ (r : Resources). IsCounted (plus r (total (λ a. a.size) (staying namespace stops (evictable priority live))))) (sym c.left_of-left.ensures)
    (opened_counted c.args.node.now.row.offer.capacity load (stays namespace stops) priority live c.requires))
