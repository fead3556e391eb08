use Rattle.ns_laws.proofs.Access.Lists.{access_lists_stay}
use Rattle.ns_laws.proofs.secrets.access_lists_stay.Goals as goal

pub returns : goal.returns
returns c = access_lists_stay
