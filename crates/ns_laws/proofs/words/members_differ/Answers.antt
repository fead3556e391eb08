use Rattle.ns_laws.proofs.Texts.Wording.{members_differ}
use Rattle.ns_laws.proofs.words.members_differ.Goals as goal

pub returns : goal.returns
returns c = members_differ
