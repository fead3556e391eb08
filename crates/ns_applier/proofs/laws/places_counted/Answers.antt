use Rattle.ns_applier.proofs.Whole.{places_counted}
use Rattle.ns_applier.proofs.laws.places_counted.Goals as goal

pub returns : goal.returns
returns c = places_counted
