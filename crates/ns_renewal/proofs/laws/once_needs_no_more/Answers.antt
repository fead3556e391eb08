use Rattle.ns_renewal.proofs.Repeated.{can_once}
use Rattle.ns_renewal.proofs.laws.once_needs_no_more.Goals as goal

pub returns : goal.returns
returns c = λ w x evictions each keys can. can_once w evictions each keys x can
