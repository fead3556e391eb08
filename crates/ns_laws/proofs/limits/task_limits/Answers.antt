use Rattle.ns_laws.proofs.Texts.Limiting.{task_limits}
use Rattle.ns_laws.proofs.limits.task_limits.Goals as goal

pub returns : goal.returns
returns c = task_limits
