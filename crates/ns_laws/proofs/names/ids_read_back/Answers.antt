use Rattle.ns_laws.proofs.Texts.Ids.{ids_read_back}
use Rattle.ns_laws.proofs.names.ids_read_back.Goals as goal

pub returns : goal.returns
returns c = ids_read_back
