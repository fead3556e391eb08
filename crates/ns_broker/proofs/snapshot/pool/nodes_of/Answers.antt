use Rattle.std.specs.Prelude.{flat_map}
use Rattle.std.proofs.Common.{ap, sym, ◌∙◌}
use Rattle.std.specs.Option.{option_copied}
use Rattle.ns_broker.specs.Seen.{node_at_slot}
use Rattle.ns_broker.proofs.Seen.{are_nodes, no_pool, nodes_are, ok_as}
use Rattle.ns_broker.proofs.snapshot.pool.nodes_of.Goals as goal
use Rattle.ns_tables.specs.World.{world_of}

pub nodes_in-requires-clause-there : goal.nodes_in-requires-clause-there
nodes_in-requires-clause-there c = are_nodes c.args.tables.now c.args.pool.now c.in-Some.rows.now (sym c.get.ensures ∙ ap option_copied c.in-Some.is) _
    c.as_slice.ensures

pub returns-in-Some-clause-nodes : goal.returns-in-Some-clause-nodes
returns-in-Some-clause-nodes c = ok_as c.nodes_in.result _ _
    (ap (flat_map (node_at_slot (world_of c.args.tables.now) c.args.pool.now)) c.as_slice.ensures
    ∙ nodes_are c.args.tables.now c.args.pool.now c.in-Some.rows.now (sym c.get.ensures ∙ ap option_copied c.in-Some.is)) c.nodes_in.ensures.nodes

pub returns-in-None-clause-nodes : goal.returns-in-None-clause-nodes
returns-in-None-clause-nodes c = c.new.ensures ∙ sym (no_pool c.args.tables.now c.args.pool.now (sym c.get.ensures ∙ ap option_copied c.in-None.is))
