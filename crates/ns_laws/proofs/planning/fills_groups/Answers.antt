use Rattle.ns_laws.proofs.Plans.Planning.{fills_groups}
use Rattle.ns_laws.proofs.planning.fills_groups.Goals as goal

pub returns : goal.returns
returns c = fills_groups
