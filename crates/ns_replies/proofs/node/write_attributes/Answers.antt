use Rattle.ns_json.proofs.Parts.{follows_ok, follows_more, follows_last}
use Rattle.ns_replies.proofs.Written.{attribute_tokens}
use Rattle.ns_replies.proofs.node.write_attributes.Goals as goal

pub returns : goal.returns
returns c =
    let head = follows_ok _ _ _ _ c.in_ok-write_parts.ensures in
    let members = follows_more _ _ _ _ _ head c.in_ok-write_each.ensures in
    follows_last _ _ _ _ _ _ _ (attribute_tokens c.args.attributes.now) members c.write_parts-2.ensures
