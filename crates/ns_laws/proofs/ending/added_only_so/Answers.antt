use Rattle.ns_laws.proofs.Additions.Laws.{added_only_so}
use Rattle.ns_laws.proofs.ending.added_only_so.Goals as goal

pub returns : goal.returns
returns c = added_only_so
