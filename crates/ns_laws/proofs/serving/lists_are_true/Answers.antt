use Rattle.ns_laws.proofs.Service.Lists.{lists_are_true}
use Rattle.ns_laws.proofs.serving.lists_are_true.Goals as goal

pub returns : goal.returns
returns c = lists_are_true
