use Rattle.std.proofs.Common.{ap, ◌∙◌}
use Rattle.ns_types.specs.Asking.Nodes.{go_down}
use Rattle.ns_types.specs.Settling.Making.{with_node}
use Rattle.ns_types.specs.State.Rows.{World}
use Rattle.ns_change.proofs.Prepares.{done_as}
use Rattle.ns_change.specs.Changed.{view}
use Rattle.ns_nodes.proofs.status.put_down.Goals as goal
use Rattle.ns_change.proofs.Nothing.{pool_alone}

pub go_down-requires-clause-first : goal.go_down-requires-clause-first
go_down-requires-clause-first c = ap (λ (w : World). w.tenants) c.in_ok-put_node.ensures
    ∙ pool_alone c.args.pool.now (with_node c.args.name.now c.args.row) (view c.args.tables.now c.args.change.now)
    ∙ ap (λ (w : World). w.tenants) c.requires.first

pub returns : goal.returns
returns c = done_as c.go_down.result c.args.tables.now c.go_down.new.change _ _
    (ap (go_down c.args.pool.now c.args.name.now) c.in_ok-put_node.ensures) c.go_down.ensures
