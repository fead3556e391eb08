use Rattle.std.proofs.Common.{refl}
use Rattle.ns_json.specs.Rendering.{namespace_json}
use Rattle.ns_json.proofs.Parts.{follows_ok, follows_more, follows_last}
use Rattle.ns_log.proofs.document.write_namespace.Goals as goal

pub returns : goal.returns
unfolding namespace_json
returns c =
    let head = follows_ok _ _ _ _ c.in_ok-write_parts.ensures in
    let pools = follows_more _ _ _ _ _ head c.in_ok-write_pools.ensures in
    follows_last _ _ _ _ _ _ _ (rw (c.as_str.ensures, c.as_str-2.ensures, c.text_or_empty.ensures) refl) pools c.write_parts-2.ensures
