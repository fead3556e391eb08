use Rattle.ns_workers.proofs.working.worker.Given as goal
use Rattle.ns_workers.specs.Growing.{Grows, IsOfWorker}

abbrev pub invariant-loop : goal.invariant-loop
invariant-loop g l = Grows (IsOfWorker l.post.number) l.fn.seat l.seat
