use Rattle.std.proofs.Common.{refl}
use Rattle.ns_laws.proofs.reasons.jobs_are_a_thousand.Goals as goal

pub returns : goal.returns
returns c = refl
