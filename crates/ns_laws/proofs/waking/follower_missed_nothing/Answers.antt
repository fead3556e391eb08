use Rattle.ns_laws.proofs.Wakes.Followers.{follower_missed_nothing}
use Rattle.ns_laws.proofs.waking.follower_missed_nothing.Goals as goal

pub returns : goal.returns
returns c = follower_missed_nothing
