use Rattle.ns_laws.proofs.Refusal.Registration.{first_refusal_of_register}
use Rattle.ns_laws.proofs.refusals.first_refusal_of_register.Goals as goal

pub returns : goal.returns
returns c = first_refusal_of_register
