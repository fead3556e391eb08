use Rattle.ns_json.proofs.Parts.{follows_ok, follows_more, follows_last}
use Rattle.ns_replies.proofs.Written.{pools_tokens}
use Rattle.ns_replies.proofs.records.write_pools.Goals as goal

pub returns : goal.returns
returns c =
    let head = follows_ok _ _ _ _ c.in_ok-write_parts.ensures in
    let allowed = follows_more _ _ _ _ _ head c.in_ok-write_allowed.ensures in
    let default = follows_more _ _ _ _ _ allowed (follows_ok _ _ _ _ c.in_ok-write_parts-2.ensures) in
    let denied = follows_more _ _ _ _ _ default c.in_ok-write_json.ensures in
    follows_last _ _ _ _ _ _ _ (pools_tokens c.args.namespace.now _ c.as_str.ensures) denied c.write_parts-3.ensures
