use Rattle.ns_queues.proofs.turns.Turns.served.Goals as goal

pub returns : goal.returns
returns c w are = c.first.ensures w are.ready
