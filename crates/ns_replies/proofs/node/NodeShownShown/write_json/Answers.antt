use Rattle.ns_json.proofs.Parts.{follows_ok, follows_more, follows_last}
use Rattle.ns_replies.proofs.Written.{node_tokens}
use Rattle.ns_replies.proofs.node.NodeShownShown.write_json.Goals as goal

pub returns : goal.returns
returns c =
    let head = follows_ok _ _ _ _ c.in_ok-write_parts.ensures in
    let attributes = follows_more _ _ _ _ _ head c.in_ok-write_attributes.ensures in
    let members = follows_more _ _ _ _ _ attributes (follows_ok _ _ _ _ c.in_ok-write_parts-2.ensures) in
    let used = follows_more _ _ _ _ _ members c.in_ok-write_json.ensures in
    follows_last _ _ _ _ _ _ _
    (node_tokens c.args.self.now _ _ _ _ _ _ c.as_slice.ensures c.eligibility_text.ensures c.as_str.ensures c.as_str-2.ensures c.as_str-3.ensures
    c.node_status_text.ensures)
    used c.write_parts-3.ensures
