use Rattle.ns_steps.proofs.Chains.{is_run}
use Rattle.ns_steps.proofs.chain.laws.chain_is_run.Goals as goal

pub returns : goal.returns
returns g c = is_run g.S.Server.state g.S.Server.notes
