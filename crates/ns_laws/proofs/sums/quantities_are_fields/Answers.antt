use Rattle.ns_laws.proofs.SumLemmas.{quantities_are_fields}
use Rattle.ns_laws.proofs.sums.quantities_are_fields.Goals as goal

pub returns : goal.returns
returns c = quantities_are_fields
