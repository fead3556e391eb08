use Rattle.ns_laws.proofs.Texts.Ids.{ids_have_kinds}
use Rattle.ns_laws.proofs.names.ids_have_kinds.Goals as goal

pub returns : goal.returns
returns c = ids_have_kinds
