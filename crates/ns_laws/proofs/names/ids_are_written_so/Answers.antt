use Rattle.ns_laws.proofs.Texts.Ids.{are_written_so}
use Rattle.ns_laws.proofs.names.ids_are_written_so.Goals as goal

pub returns : goal.returns
returns c = are_written_so
