use Rattle.ns_json.specs.Replies.{body_of}
use Rattle.ns_replies.proofs.Written.{nothing_text}
use Rattle.ns_replies.proofs.room.nothing_text.Goals as goal

pub returns : goal.returns
unfolding body_of
returns c = nothing_text _ c.parts_text.ensures
