use Rattle.ns_json.specs.Logs.{step_members}
use Rattle.ns_log.proofs.step.write_dequeue.Goals as goal

pub returns : goal.returns
unfolding step_members
returns c = c.write_object.ensures
