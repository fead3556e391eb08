use Rattle.std.proofs.Common.{◌∙◌, ◌++◌, ap, arith, option_copied, sym}
use Rattle.std.proofs.lemmas.List.{take_all}
use Rattle.ns_types.specs.Working.Commit.{part_of}
use Rattle.ns_plan.specs.After.{after_stops}
use Rattle.ns_plan.specs.Reader.{evictions_of, left_by, with_gone}
use Rattle.ns_plan.proofs.Afterwards.{shares_after}
use Rattle.ns_plan.proofs.Leaves.{with_victim, without_victim}
use Rattle.ns_plan.proofs.leaving.without_victims.Goals as goal
use Rattle.ns_plan.proofs.leaving.without_victims.Goals.{in-Some, in_default}

pub loop-i-preserved : goal.loop-i-preserved
loop-i-preserved g c = λ keys elsewhere old.
    let w = g.V.View.world c.args.view.now in
    let ns = c.args.snapshot.now.namespace in
    let stops = c.args.stops.now in
    let x = after_stops w ns stops in
    let pool = c.args.snapshot.now.pool in
    let name = c.args.name.now in
    let quota = option_copied c.args.quota in
    let seen = evictions_of (part_of c.args.placement.now.node c.args.before.now) in
    let evictions = c.as_slice-evictions.result.now in
    let e = c.index-evictions-i.result in
    let so_far = c.loop-i.invariant keys elsewhere old in
    elim c.match-new_victim.branch [
      | in-Some v ↦ v.left-is ∙ v.with_gone-left.ensures
          ∙ ap (with_gone c.loop-i.left v.in-Some.row.now.size) (v.shares.ensures ∙ sym (shares_after w ns stops quota e.namespace))
          ∙ with_victim x pool name quota keys elsewhere seen evictions c.loop-i.i e c.loop-i-test.true c.index-evictions-i.is c.loop-i.left so_far
          (option_copied c.new_victim.result) c.new_victim.ensures v.in-Some.row.now (ap option_copied v.in-Some.is)
      | in_default v ↦ v.left-is ∙ without_victim x pool name quota keys elsewhere seen evictions c.loop-i.i e c.loop-i-test.true c.index-evictions-i.is
          c.loop-i.left so_far (option_copied c.new_victim.result) c.new_victim.ensures (ap option_copied v.in_default.is)
    ]

pub returns : goal.returns
returns g c = λ keys elsewhere old.
    let x = after_stops (g.V.View.world c.args.view.now) c.args.snapshot.now.namespace c.args.stops.now in
    let seen = evictions_of (part_of c.args.placement.now.node c.args.before.now) in
    c.loop-i.invariant keys elsewhere old
    ∙ ap (λ l. left_by x c.args.snapshot.now.pool c.args.name.now (option_copied c.args.quota) keys (seen ++ l))
    (take_all c.loop-i.i c.as_slice-evictions.result.now (omega arith) ∙ c.as_slice-evictions.ensures)
