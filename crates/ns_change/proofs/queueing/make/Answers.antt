use Rattle.std.proofs.Common.{sym, ◌∙◌}
use Rattle.ns_types.specs.Working.Queue.{queue}
use Rattle.ns_change.specs.Changed.{view}
use Rattle.ns_change.proofs.Opening.{make_next, make_nowhere}
use Rattle.ns_change.proofs.Prepares.{done_as}
use Rattle.ns_change.proofs.queueing.make.Goals as goal

pub returns-in_default : goal.returns-in_default
returns-in_default c = c.in_ok-number.ensures.made ∙ make_nowhere (view c.args.tables.now c.args.change.now) c.args.namespace.now c.args.row
    (sym c.in_ok-number.ensures.number ∙ c.in_default.is)

pub returns : goal.returns
returns c =
    let w = view c.args.tables.now c.args.change.now in
    done_as c.queue.result c.args.tables.now c.queue.new.change _ _
    ((λ i. queue (c.in_ok-number.ensures.made i) ((c.new-key.ensures ∙ (λ j. (c.in_ok-clone.ensures.cases j, c.in-Some.number))) i))
    ∙ make_next w c.args.namespace.now c.args.row c.in-Some.number (sym c.in_ok-number.ensures.number ∙ c.in-Some.is))
    c.queue.ensures
