use Rattle.ns_renewal.proofs.Repeated.{made_once}
use Rattle.ns_renewal.proofs.laws.once_is_enough.Goals as goal

pub returns : goal.returns
returns c = λ w x evictions each keys same. made_once w evictions each keys x same
