use Rattle.std.proofs.Common.{refl}
use Rattle.ns_json.proofs.Parts.{follows_ok}
use Rattle.ns_replies.proofs.Written.{follows_then}
use Rattle.ns_log.proofs.member.write_documented.Goals as goal

pub returns : goal.returns
returns c = follows_then _ _ _ _ _ _ _ refl (follows_ok _ _ _ _ c.in_ok-write_parts.ensures) c.write_document.ensures
