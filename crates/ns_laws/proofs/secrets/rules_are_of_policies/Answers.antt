use Rattle.ns_laws.proofs.Access.Secrets.{rules_are_of_policies}
use Rattle.ns_laws.proofs.secrets.rules_are_of_policies.Goals as goal

pub returns : goal.returns
returns c = rules_are_of_policies
