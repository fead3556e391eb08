use Rattle.ns_laws.proofs.Access.Secrets.{stop_needs_lifecycle}
use Rattle.ns_laws.proofs.secrets.stop_needs_lifecycle.Goals as goal

pub returns : goal.returns
returns c = stop_needs_lifecycle
