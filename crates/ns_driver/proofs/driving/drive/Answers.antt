use Rattle.std.proofs.Common.{◌≡◌, ◌<◌, arith, subst}
use Rattle.ns_driver.proofs.Rounds.{HasMade, at_limit, ended, made_more, made_none}
use Rattle.ns_driver.proofs.driving.drive.Goals as goal
use Rattle.ns_driver.specs.Driving.{most_steps}
use Rattle.ns_driver.specs.Kept.{seen_of}

pub loop-init : goal.loop-init
loop-init g c = made_none g.W.Server.state g.W.Server.notes g.W.Works.lacks c.args.works.now (seen_of c.args.kept.now)

pub loop-preserved : goal.loop-preserved
loop-preserved g c = made_more g.W.Server.state g.W.Server.notes g.W.Works.lacks c.args.works.now c.loop.works c.turn.new.works
    (seen_of c.args.kept.now) (seen_of c.loop.kept) (seen_of c.turn.new.kept) c.loop.counter c.loop.invariant c.in_default.ensures.made

pub returns-in-Err : goal.returns-in-Err
returns-in-Err g c =
    let less : c.loop.counter < most_steps = omega (arith, c.loop-test.true, c.loop.auto) in
    ended g.W.Server.state g.W.Server.notes g.W.Works.lacks c.args.works.now c.loop.works c.turn.new.works (seen_of c.args.kept.now) (seen_of c.loop.kept)
    (seen_of c.turn.new.kept) c.loop.counter c.in-Err.stop c.loop.invariant less c.in-Err.ensures.same c.in-Err.ensures.ends

pub returns : goal.returns
returns g c =
    let all : c.loop.counter ≡ most_steps = omega (arith, c.loop-test.false, c.loop.auto) in
    at_limit g.W.Server.state g.W.Server.notes g.W.Works.lacks c.args.works.now c.loop.works (seen_of c.args.kept.now) (seen_of c.loop.kept)
    (subst (λ n. HasMade g.W.Server.state g.W.Server.notes g.W.Works.lacks c.args.works.now (seen_of c.args.kept.now) n c.loop.works
    (seen_of c.loop.kept)) all c.loop.invariant)
