use Rattle.ns_json.proofs.Parts.{follows_item}
use Rattle.ns_log.specs.Members.{member_of, member_tokens}
use Rattle.ns_log.proofs.member.write_each.Goals as goal

pub loop-member-preserved : goal.loop-member-preserved
loop-member-preserved c = follows_item (λ m. member_tokens (member_of m)) _ _ _ c.args.members.now c.loop-member.member-index c.member-item.result
    c.loop-member-test.true c.member-item.is c.loop-member.invariant c.in_ok-write_member.ensures
