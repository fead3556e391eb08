use Rattle.std.proofs.Common.{ap, sym, ◌∙◌}
use Rattle.std.specs.List.{list_any}
use Rattle.ns_queues.proofs.Moved.{none_moved}
use Rattle.ns_queues.proofs.after.any_moved.Goals as goal
use Rattle.ns_queues.specs.After.{moves_in}

pub returns-clause-any : goal.returns-clause-any
returns-clause-any g c = c.any_moves_in.ensures
    ∙ ap (list_any (moves_in (g.W.WatchesMoves.moves c.args.watch.now) c.args.tables.now.tenants)) c.as_slice.ensures

pub returns-clause-none : goal.returns-clause-none
returns-clause-none g c none still = none_moved c.args.tables.now c.args.settled.now (g.W.WatchesMoves.moves c.args.watch.now) still
    (ap (list_any (moves_in (g.W.WatchesMoves.moves c.args.watch.now) c.args.tables.now.tenants)) (sym c.as_slice.ensures)
    ∙ sym c.any_moves_in.ensures ∙ none)
