use Rattle.ns_laws.proofs.Calling.{memory_comes_last}
use Rattle.ns_laws.proofs.calls.memory_comes_last.Goals as goal

pub returns : goal.returns
returns c = memory_comes_last
