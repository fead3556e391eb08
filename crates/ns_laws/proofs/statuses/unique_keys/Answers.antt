use Rattle.ns_laws.proofs.Meanings.{unique_keys}
use Rattle.ns_laws.proofs.statuses.unique_keys.Goals as goal

pub returns : goal.returns
returns c = unique_keys
