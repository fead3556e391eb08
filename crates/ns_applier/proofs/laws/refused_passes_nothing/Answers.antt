use Rattle.ns_applier.proofs.Refusing.{refused_passes_nothing}
use Rattle.ns_applier.proofs.laws.refused_passes_nothing.Goals as goal

pub returns : goal.returns
returns c = refused_passes_nothing
