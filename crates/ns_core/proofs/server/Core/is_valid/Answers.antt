use Rattle.std.proofs.Common.{subst}
use Rattle.ns_types.specs.Validity.{IsValid}
use Rattle.ns_core.proofs.server.Core.is_valid.Goals as goal

pub returns : goal.returns
returns c = subst IsValid c.self.view_is c.self.invariant.valid
