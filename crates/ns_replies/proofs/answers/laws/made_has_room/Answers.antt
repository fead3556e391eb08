use Rattle.ns_replies.proofs.Made.{made_has_room}
use Rattle.ns_replies.proofs.answers.laws.made_has_room.Goals as goal

pub returns : goal.returns
returns c = λ step s s' reply may e. made_has_room step s s' reply may e
