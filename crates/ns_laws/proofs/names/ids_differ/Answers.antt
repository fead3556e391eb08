use Rattle.ns_laws.proofs.Texts.Ids.{ids_differ}
use Rattle.ns_laws.proofs.names.ids_differ.Goals as goal

pub returns : goal.returns
returns c = ids_differ
