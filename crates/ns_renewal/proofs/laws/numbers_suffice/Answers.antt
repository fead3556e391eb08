use Rattle.ns_renewal.proofs.MadeUp.{can_make_up}
use Rattle.ns_renewal.proofs.laws.numbers_suffice.Goals as goal

pub returns : goal.returns
returns c = can_make_up
