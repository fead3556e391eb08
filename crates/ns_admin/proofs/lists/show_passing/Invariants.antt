use Rattle.std.proofs.Common.{◌≡◌, ◌++◌, Bool, length}
use Rattle.std.specs.Prelude.{filter, map}
use Rattle.keyed.specs.Table.{row_list}
use Rattle.ns_types.specs.State.Names.{Name}
use Rattle.ns_admin.specs.Calls.{Tests}
use Rattle.ns_admin.proofs.lists.show_passing.Given as goal

abbrev pub invariant-loop-name : goal.invariant-loop-name
invariant-loop-name g l = (passes : Name → Bool) → Tests g.F.Fn l.shows passes
    → l.shown ++ map g.V.ListedByName.listed (filter (λ e. passes e.0) (row_list l.rest)) ≡
    map g.V.ListedByName.listed (filter (λ e. passes e.0) (row_list l.fn.slots))

abbrev pub decreases-loop-name : goal.decreases-loop-name
decreases-loop-name g l = length l.rest
