use Rattle.ns_laws.proofs.Work.Phases.{no_worker_is_stuck}
use Rattle.ns_laws.proofs.turns.no_worker_is_stuck.Goals as goal

pub returns : goal.returns
returns c = no_worker_is_stuck
