use Rattle.std.proofs.Common.{take}
use Rattle.std.specs.List.{flat_map}
use Rattle.ns_json.specs.Part.{Follows}
use Rattle.ns_log.specs.Members.{member_of, member_tokens}
use Rattle.ns_log.proofs.member.write_each.Given as goal

abbrev pub invariant-loop-member : goal.invariant-loop-member
invariant-loop-member l = Follows l.initial.out l.out (flat_map (λ m. member_tokens (member_of m)) (take l.member-index l.members))
