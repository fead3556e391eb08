use Rattle.ns_steps.proofs.Chains.{join}
use Rattle.ns_steps.proofs.chain.laws.chains_join.Goals as goal

pub returns : goal.returns
returns g c = join g.S.Server.state g.S.Server.notes
