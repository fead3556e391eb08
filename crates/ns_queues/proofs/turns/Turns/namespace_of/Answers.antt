use Rattle.ns_queues.proofs.turns.Turns.namespace_of.Goals as goal

pub returns : goal.returns
returns c w are = c.namespace_of.ensures w are.busy
