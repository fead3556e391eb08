use Rattle.ns_laws.proofs.Calling.{refused_call_changes_nothing}
use Rattle.ns_laws.proofs.calls.refused_call_changes_nothing.Goals as goal

pub returns : goal.returns
returns c = refused_call_changes_nothing
