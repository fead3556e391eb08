use Rattle.ns_laws.proofs.Texts.Naming.{names_are_read}
use Rattle.ns_laws.proofs.names.names_are_read.Goals as goal

pub returns : goal.returns
returns c = names_are_read
