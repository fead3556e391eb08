use Rattle.ns_laws.proofs.Texts.Naming.{texts_of_secrets}
use Rattle.ns_laws.proofs.names.texts_of_secrets.Goals as goal

pub returns : goal.returns
returns c = texts_of_secrets
