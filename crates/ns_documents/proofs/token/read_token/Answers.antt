use Rattle.ns_documents.proofs.Good.{token_good}
use Rattle.ns_documents.proofs.token.read_token.Goals as goal

pub returns-clause-good : goal.returns-clause-good
returns-clause-good c = token_good _ _ c.token.ensures
