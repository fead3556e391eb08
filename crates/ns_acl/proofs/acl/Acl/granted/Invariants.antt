use Rattle.std.proofs.Common.{◌≡◌, take}
use Rattle.ns_types.specs.Access.Rights.{rules_of}
use Rattle.ns_acl.specs.Gathered.{gathered}
use Rattle.ns_acl.proofs.acl.Acl.granted.Given as goal

abbrev pub invariant-loop-name : goal.invariant-loop-name
invariant-loop-name l = l.gathered ≡ gathered l.target (rules_of l.self l.kind (take l.name-index l.policies))
