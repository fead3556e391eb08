use Rattle.ns_json.proofs.Good.{registration_good}
use Rattle.ns_json.proofs.registration.read_registration.Goals as goal

pub returns-clause-good : goal.returns-clause-good
returns-clause-good c = registration_good _ _ c.registration.ensures
