use Rattle.std.proofs.Common.{refl}
use Rattle.ns_json.specs.Rendering.{listed_job_json}
use Rattle.ns_json.proofs.Parts.{follows}
use Rattle.ns_replies.proofs.job.JobShownShown.write_json.Goals as goal

pub returns : goal.returns
unfolding listed_job_json
returns c = follows _ _ _ _ _
    (rw (c.as_str.ensures, c.as_str-2.ensures, c.priority.ensures, c.status_text.ensures, c.kind_text.ensures, c.kind.ensures) refl) c.write_parts.ensures
