-- The classes of the nodes that constraints rule out by their class.
use Rattle.std.specs.Prelude.{List, map, filter}
use Rattle.std.specs.FinMap.{keys, from_entries}
use Rattle.ns_types.specs.declared.job.Constraint.{Constraint}
use Rattle.ns_types.specs.declared.node.Class.{Class}
use Rattle.ns_types.specs.declared.snapshot.PoolNode.{PoolNode}
use Rattle.ns_types.specs.Placing.Constraint.{is_class_infeasible}
use Rattle.ns_types.specs.State.Names.{class_cmp}
use Rattle.ns_types.specs.State.Rows.{class_of}

-- the classes of the nodes on which a constraint fails that does not escape classes: in the order of classes, each once
abbrev pub infeasible_among : List Constraint → List PoolNode → List Class
infeasible_among constraints nodes =
    keys (from_entries {R = class_cmp}
    (map (λ p. (class_of p.row, p.name))
    (filter (λ p. is_class_infeasible constraints p.name p.row) nodes)))
