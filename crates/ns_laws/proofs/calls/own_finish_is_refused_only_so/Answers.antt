use Rattle.ns_laws.proofs.Calling.{own_finish_is_refused_only_so}
use Rattle.ns_laws.proofs.calls.own_finish_is_refused_only_so.Goals as goal

pub returns : goal.returns
returns c = own_finish_is_refused_only_so
