use Rattle.std.proofs.Common.{refl}
use Rattle.ns_json.proofs.Parts.{follows_ok, follows_more, follows_last}
use Rattle.ns_log.proofs.call.write_call.Goals as goal

pub returns : goal.returns
returns c =
    let head = follows_ok _ _ _ _ c.in_ok-write_parts.ensures in
    let arguments = follows_more _ _ _ _ _ head c.in_ok-write_object.ensures in
    follows_last _ _ _ _ _ _ _ refl arguments c.write_parts-2.ensures
