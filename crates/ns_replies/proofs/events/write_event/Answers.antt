use Rattle.std.proofs.Common.{refl}
use Rattle.ns_json.specs.Replies.{event_json}
use Rattle.ns_json.proofs.Parts.{follows_ok, follows_more, follows_last}
use Rattle.ns_replies.proofs.events.write_event.Goals as goal

pub returns : goal.returns
unfolding event_json
returns c =
    let head = follows_ok _ _ _ _ c.in_ok-write_parts.ensures in
    let key = follows_more _ _ _ _ _ head c.in_ok-write_key.ensures in
    follows_last _ _ _ _ _ _ _ (rw (c.as_str.ensures, c.topic_word.ensures, c.type_word.ensures) refl) key c.write_parts-2.ensures
