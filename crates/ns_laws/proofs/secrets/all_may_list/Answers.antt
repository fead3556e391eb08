use Rattle.ns_laws.proofs.Access.Secrets.{all_may_list}
use Rattle.ns_laws.proofs.secrets.all_may_list.Goals as goal

pub returns : goal.returns
returns c = all_may_list
