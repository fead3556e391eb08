use Rattle.ns_followers.proofs.Answered.{pending_there}
use Rattle.ns_followers.proofs.laws.sound_has_pending_work.Goals as goal

pub returns : goal.returns
returns c = pending_there
