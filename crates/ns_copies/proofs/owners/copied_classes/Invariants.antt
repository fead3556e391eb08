use Rattle.std.proofs.Common.{◌≡◌, ◌++◌, drop}
use Rattle.ns_copies.proofs.owners.copied_classes.Given as goal

abbrev pub invariant-loop-release : goal.invariant-loop-release
invariant-loop-release l = l.copy.items ++ drop l.release-index l.release-items ≡ l.classes.items
