use Rattle.ns_laws.proofs.Refusal.Registration.{register_refuses_so}
use Rattle.ns_laws.proofs.refusals.register_refuses_so.Goals as goal

pub returns : goal.returns
returns c = register_refuses_so
