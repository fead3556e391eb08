use Rattle.ns_queues.proofs.turns.Turns.all_idle.Goals as goal

pub returns-clause-new : goal.returns-clause-new
returns-clause-new c = record { idle = c.new.ensures; none_ready = c.new-2.ensures; none_blocked = c.new-3.ensures }
