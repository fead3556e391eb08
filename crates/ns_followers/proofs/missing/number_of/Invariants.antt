use Rattle.std.proofs.Common.{◌≡◌, drop}
use Rattle.std.specs.FinMap.{find}
use Rattle.ns_types.specs.State.Names.{class_cmp}
use Rattle.ns_followers.proofs.missing.number_of.Given as goal

abbrev pub invariant-loop-release : goal.invariant-loop-release
invariant-loop-release l = find class_cmp l.class l.releases ≡ find class_cmp l.class (drop l.release-index l.releases)
