use Rattle.std.proofs.Common.{◌∙◌, ◌++◌, ap, arith, false, option_copied, sym, take, true}
use Rattle.std.proofs.lemmas.List.{append-nil, take_all}
use Rattle.ns_types.specs.State.Names.{same_number}
use Rattle.ns_types.specs.Working.Commit.{part_of}
use Rattle.ns_types.proofs.Named.{same_number_refl, other_number}
use Rattle.ns_plan.specs.After.{after_stops}
use Rattle.ns_plan.specs.Reader.{evictions_of, left_by}
use Rattle.ns_plan.proofs.Leaves.{nothing_left_out, part_next}
use Rattle.ns_plan.proofs.leaving.left_at.Goals as goal
use Rattle.ns_plan.proofs.leaving.left_at.Goals.{then-placement-node, else-placement-node}

pub loop-i-init : goal.loop-i-init
loop-i-init g c = λ keys elsewhere used.
    let x = after_stops (g.V.View.world c.args.view.now) c.args.snapshot.now.namespace c.args.stops.now in
    (λ i. record { load = c.requires i; used = c.args.whole.used })
    ∙ nothing_left_out x c.args.snapshot.now.pool c.args.name.now (option_copied c.args.quota) keys c.args.whole.used elsewhere used

pub loop-i-preserved : goal.loop-i-preserved
loop-i-preserved g c = λ keys elsewhere used.
    let x = after_stops (g.V.View.world c.args.view.now) c.args.snapshot.now.namespace c.args.stops.now in
    let pool = c.args.snapshot.now.pool in
    let name = c.args.name.now in
    let quota = option_copied c.args.quota in
    let ps = c.args.placements.now in
    let at = c.loop-i.i in
    let p = c.index-placements-i.result in
    let so_far = c.loop-i.invariant keys elsewhere used in
    let next = part_next c.args.node ps at p c.loop-i-test.true c.index-placements-i.is in
    elim c.if-placement-node.branch [
      | then-placement-node v ↦ v.left-is ∙ v.without_victims-left.ensures keys elsewhere
          (so_far ∙ ap (λ k. left_by x pool name quota keys (evictions_of (part_of k (take at ps)))) (sym v.if-placement-node.true))
          ∙ ap (λ k. left_by x pool name quota keys (evictions_of (part_of k (take at ps)) ++ p.evictions)) v.if-placement-node.true
          ∙ ap (left_by x pool name quota keys) (sym (next true (ap (same_number p.node) (sym v.if-placement-node.true) ∙ same_number_refl p.node)))
      | else-placement-node v ↦ v.left-is ∙ so_far
          ∙ ap (left_by x pool name quota keys) (sym (next false (other_number p.node c.args.node v.if-placement-node.false)
          ∙ append-nil (evictions_of (part_of c.args.node (take at ps)))))
    ]

pub returns : goal.returns
returns g c = λ keys elsewhere used.
    let x = after_stops (g.V.View.world c.args.view.now) c.args.snapshot.now.namespace c.args.stops.now in
    c.loop-i.invariant keys elsewhere used
    ∙ ap (λ l. left_by x c.args.snapshot.now.pool c.args.name.now (option_copied c.args.quota) keys (evictions_of (part_of c.args.node l)))
    (take_all c.loop-i.i c.args.placements.now (omega arith))
