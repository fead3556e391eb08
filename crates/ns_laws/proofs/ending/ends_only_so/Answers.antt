use Rattle.ns_laws.proofs.Endings.Laws.{ends_only_so}
use Rattle.ns_laws.proofs.ending.ends_only_so.Goals as goal

pub returns : goal.returns
returns c = ends_only_so
