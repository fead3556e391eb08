use Rattle.ns_driver.proofs.Rounds.{HasMade}
use Rattle.ns_driver.proofs.driving.drive.Given as goal
use Rattle.ns_driver.specs.Kept.{seen_of}

abbrev pub invariant-loop : goal.invariant-loop
invariant-loop g l = HasMade g.W.Server.state g.W.Server.notes g.W.Works.lacks
    l.fn.works (seen_of l.fn.kept) l.counter l.works (seen_of l.kept)
