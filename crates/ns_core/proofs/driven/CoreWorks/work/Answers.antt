use Rattle.ns_core.proofs.Attempts.{attempts_worker_step}
use Rattle.ns_core.proofs.driven.CoreWorks.work.Goals as goal

pub returns : goal.returns
returns c = attempts_worker_step c.args.worker c.args.namespace.now c.args.self.now c.args.step c.work.result c.work.new.self c.work.ensures
