use Rattle.ns_laws.proofs.Service.Finish.{finish_wakes_none}
use Rattle.ns_laws.proofs.serving.finish_wakes_none.Goals as goal

pub returns : goal.returns
returns c = finish_wakes_none
