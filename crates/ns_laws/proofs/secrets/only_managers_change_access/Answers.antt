use Rattle.ns_laws.proofs.Access.Lists.{only_managers_change_access}
use Rattle.ns_laws.proofs.secrets.only_managers_change_access.Goals as goal

pub returns : goal.returns
returns c = only_managers_change_access
