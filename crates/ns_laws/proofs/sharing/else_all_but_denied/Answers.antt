use Rattle.ns_laws.proofs.Scope.Sharing.{else_all_but_denied}
use Rattle.ns_laws.proofs.sharing.else_all_but_denied.Goals as goal

pub returns : goal.returns
returns c = else_all_but_denied
