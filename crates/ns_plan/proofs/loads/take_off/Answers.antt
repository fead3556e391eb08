use Rattle.std.proofs.Common.{arith, subst}
use Rattle.ns_plan.specs.Loads.{IsTaken, taken}
use Rattle.ns_plan.proofs.Lowering.{none_less, one_less}
use Rattle.ns_plan.proofs.loads.take_off.Goals as goal

pub returns-in-Some : goal.returns-in-Some
returns-in-Some g c =
    let long = c.less.array_long in
    let few = c.requires.few in
    one_less (g.V.View.world c.args.view.now) c.args.snapshot.now c.args.stops.now c.args.place c.requires.inside c.args.loads.now
    (omega (arith, long, few)) c.in-Some.node c.in-Some.size c.in-Some.ensures _ c.less.result c.less.ensures c.requires.left

pub returns-in_default : goal.returns-in_default
returns-in_default g c =
    let w = g.V.View.world c.args.view.now in
    let kept = c.args.snapshot.now in
    none_less w kept c.args.stops.now c.args.place c.requires.inside c.args.loads.now
    (subst (IsTaken kept (taken w kept c.args.stops.now c.args.place)) c.in_default.is c.taken.ensures) c.requires.left
