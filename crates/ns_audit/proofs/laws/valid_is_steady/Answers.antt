use Rattle.ns_audit.proofs.Alone.Running.{valid_is_steady}
use Rattle.ns_audit.proofs.laws.valid_is_steady.Goals as goal

pub returns : goal.returns
returns c = valid_is_steady
