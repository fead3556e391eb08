use Rattle.std.proofs.Common.{filter, take}
use Rattle.ns_types.specs.Access.Rights.{is_of_kind}
use Rattle.ns_acl.specs.Gathered.{Adds}
use Rattle.ns_acl.proofs.gathering.Gathered.with_rules.Given as goal

abbrev pub invariant-loop-rule : goal.invariant-loop-rule
invariant-loop-rule l = Adds l.target (filter (is_of_kind l.kind) (take l.rule-index l.rules)) l.fn.self l.all
