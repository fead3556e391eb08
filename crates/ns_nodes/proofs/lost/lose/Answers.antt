use Rattle.std.proofs.Common.{ap, sym, ◌∙◌}
use Rattle.std.specs.FinMap.{get}
use Rattle.ns_types.specs.Settling.Gone.{rows_gone}
use Rattle.ns_change.proofs.Prepares.{done_as}
use Rattle.ns_change.specs.Changed.{view}
use Rattle.ns_nodes.specs.Losing.{lost_row}
use Rattle.ns_nodes.proofs.Gone.{lost_are}
use Rattle.ns_nodes.proofs.lost.lose.Goals as goal

pub returns : goal.returns
returns c =
    let w = view c.args.tables.now c.args.change.now in
    done_as c.lose_each.result c.args.tables.now c.lose_each.new.change _ _
    (ap (rows_gone lost_row w) c.as_slice.ensures
    ∙ sym (lost_are w c.args.pool.now c.args.node.now c.in_ok-keys.keys
    (λ ns t n a at. c.in_ok-keys.ensures ns t n a (sym (ap (λ m. get m ns) c.requires.first) ∙ at))))
    c.lose_each.ensures
