use Rattle.std.proofs.Common.{ap, ◌∙◌}
use Rattle.keyed.specs.Table.{row_at}
use Rattle.ns_renewal.specs.Losing.{job_number}
use Rattle.ns_renewal.proofs.Numbered.{row_nowhere}
use Rattle.ns_renewal.proofs.losses.Losses.new.Goals as goal

pub returns : goal.returns
returns c = λ ns job. ap (λ m. job_number (row_at m ns) job) c.new.ensures ∙ ap (λ t. job_number t job) (row_nowhere ns)
