use Rattle.ns_laws.proofs.Additions.Laws.{one_is_added}
use Rattle.ns_laws.proofs.ending.one_is_added.Goals as goal

pub returns : goal.returns
returns c = one_is_added
