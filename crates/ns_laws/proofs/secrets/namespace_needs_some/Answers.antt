use Rattle.ns_laws.proofs.Access.Secrets.{namespace_needs_some}
use Rattle.ns_laws.proofs.secrets.namespace_needs_some.Goals as goal

pub returns : goal.returns
returns c = namespace_needs_some
