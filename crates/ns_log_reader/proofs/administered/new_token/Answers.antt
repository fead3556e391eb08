use Rattle.std.proofs.Common.{[]}
use Rattle.std.proofs.lemmas.Bool.{and_from}
use Rattle.ns_log_reader.proofs.administered.new_token.Goals as goal

pub returns-clause-good : goal.returns-clause-good
returns-clause-good c = and_from _ _ c.in_ok-secret.ensures.named (c.in_ok-token.ensures.good [])
