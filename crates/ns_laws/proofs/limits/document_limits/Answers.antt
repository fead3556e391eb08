use Rattle.ns_laws.proofs.Texts.Limiting.{document_limits}
use Rattle.ns_laws.proofs.limits.document_limits.Goals as goal

pub returns : goal.returns
returns c = document_limits
