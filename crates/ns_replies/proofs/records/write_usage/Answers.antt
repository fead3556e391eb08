use Rattle.std.proofs.Common.{refl}
use Rattle.ns_json.specs.Rendering.{usage_json}
use Rattle.ns_json.proofs.Parts.{follows_ok, follows_more, follows_last}
use Rattle.ns_replies.proofs.records.write_usage.Goals as goal

pub returns : goal.returns
unfolding usage_json
returns c =
    let head = follows_ok _ _ _ _ c.in_ok-write_parts.ensures in
    let used = follows_more _ _ _ _ _ head c.in_ok-write_json.ensures in
    follows_last _ _ _ _ _ _ _ (rw c.as_str.ensures refl) used c.write_parts-2.ensures
