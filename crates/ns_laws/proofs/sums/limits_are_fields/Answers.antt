use Rattle.ns_laws.proofs.SumLemmas.{limits_are_fields}
use Rattle.ns_laws.proofs.sums.limits_are_fields.Goals as goal

pub returns : goal.returns
returns c = limits_are_fields
