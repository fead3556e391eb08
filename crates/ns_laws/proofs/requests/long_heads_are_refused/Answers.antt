use Rattle.ns_laws.proofs.Sending.Heads.{long_heads_are_refused}
use Rattle.ns_laws.proofs.requests.long_heads_are_refused.Goals as goal

pub returns : goal.returns
returns c = long_heads_are_refused
