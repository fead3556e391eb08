use Rattle.ns_laws.proofs.Finding.{numbers_are_listed}
use Rattle.ns_laws.proofs.lookups.numbers_are_listed.Goals as goal

pub returns : goal.returns
returns c = numbers_are_listed
