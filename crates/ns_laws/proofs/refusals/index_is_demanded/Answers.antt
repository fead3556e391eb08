use Rattle.ns_laws.proofs.Refusal.Registration.{index_is_demanded}
use Rattle.ns_laws.proofs.refusals.index_is_demanded.Goals as goal

pub returns : goal.returns
returns c = index_is_demanded
