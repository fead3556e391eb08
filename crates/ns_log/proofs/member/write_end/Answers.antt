use Rattle.std.proofs.Common.{sym}
use Rattle.ns_json.proofs.Parts.{follows_last}
use Rattle.ns_log.proofs.Written.{members_end}
use Rattle.ns_log.proofs.member.write_end.Goals as goal

pub returns : goal.returns
returns c = follows_last _ _ _ _ _ _ _ (sym (members_end c.args.members.now)) c.in_ok-write_each.ensures c.write_parts.ensures
