use Rattle.ns_laws.proofs.Texts.Naming.{same_names}
use Rattle.ns_laws.proofs.names.same_names.Goals as goal

pub returns : goal.returns
returns c = same_names
