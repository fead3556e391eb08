use Rattle.ns_listener.proofs.connections.serve_connections.Given as goal
use Rattle.ns_listener.specs.Duties.{IsRequested}
use Rattle.ns_workers.specs.Growing.{Grows}

abbrev pub invariant-loop : goal.invariant-loop
invariant-loop g l = Grows (IsRequested g.D.Draws.draws) l.fn.client.taker.seat l.client.taker.seat
