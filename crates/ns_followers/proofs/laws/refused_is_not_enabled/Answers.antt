use Rattle.ns_followers.proofs.Answered.{not_enabled}
use Rattle.ns_followers.proofs.laws.refused_is_not_enabled.Goals as goal

pub returns : goal.returns
returns c = not_enabled
