use Rattle.std.proofs.Common.{refl}
use Rattle.ns_json.specs.Rendering.{quota_json}
use Rattle.ns_json.proofs.Parts.{follows_ok, follows_more, follows_last}
use Rattle.ns_log.proofs.document.write_quota.Goals as goal

pub returns : goal.returns
unfolding quota_json
returns c =
    let head = follows_ok _ _ _ _ c.in_ok-write_parts.ensures in
    let limits = follows_more _ _ _ _ _ head c.in_ok-write_limits.ensures in
    follows_last _ _ _ _ _ _ _ (rw (c.as_str.ensures, c.as_str-2.ensures) refl) limits c.write_parts-2.ensures
