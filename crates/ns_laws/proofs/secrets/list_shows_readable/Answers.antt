use Rattle.ns_laws.proofs.Access.Lists.{list_shows_readable}
use Rattle.ns_laws.proofs.secrets.list_shows_readable.Goals as goal

pub returns : goal.returns
returns c = list_shows_readable
