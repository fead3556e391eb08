use Rattle.ns_json.specs.Logs.{step_members}
use Rattle.ns_log.proofs.step.write_step.Goals as goal

pub returns-in-Nack : goal.returns-in-Nack
unfolding step_members
returns-in-Nack c = rw c.in-Nack.is c.write_work-in-Nack.ensures
