use Rattle.ns_laws.proofs.Calling.{foreign_finish_only_so}
use Rattle.ns_laws.proofs.calls.foreign_finish_only_so.Goals as goal

pub returns : goal.returns
returns c = foreign_finish_only_so
