use Rattle.std.proofs.Common.{◌≡◌, ◌++◌, length}
use Rattle.std.specs.Prelude.{map}
use Rattle.keyed.specs.Table.{row_list}
use Rattle.ns_admin.specs.Viewed.{quota_shown}
use Rattle.ns_admin.proofs.lists.show_quotas.Given as goal

abbrev pub invariant-loop-name : goal.invariant-loop-name
invariant-loop-name l = l.shown ++ map quota_shown (row_list l.rest) ≡ map quota_shown (row_list l.fn.slots)

abbrev pub decreases-loop-name : goal.decreases-loop-name
decreases-loop-name l = length l.rest
