use Rattle.ns_laws.proofs.Access.Secrets.{only_managers_administer}
use Rattle.ns_laws.proofs.secrets.only_managers_administer.Goals as goal

pub returns : goal.returns
returns c = only_managers_administer
