use Rattle.std.proofs.Common.{refl}
use Rattle.ns_json.specs.Rendering.{task_json}
use Rattle.ns_json.proofs.Parts.{follows}
use Rattle.ns_json.proofs.job_reply.write_task.Goals as goal

pub returns : goal.returns
unfolding task_json
returns c = follows _ _ _ _ _ (rw c.as_str.ensures refl) c.write_parts.ensures
