use Rattle.ns_laws.proofs.Reading.Steps.{not_found_where_missing}
use Rattle.ns_laws.proofs.reads.not_found_where_missing.Goals as goal

pub returns : goal.returns
returns c = not_found_where_missing
