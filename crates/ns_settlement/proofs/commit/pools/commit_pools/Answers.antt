use Rattle.std.proofs.Common.{subst}
use Rattle.ns_settlement.proofs.Whole.{Risen, classes_stay, nodes_kept, nodes_stay, pools_are}
use Rattle.ns_settlement.proofs.commit.pools.commit_pools.Goals as goal

pub put_classes-requires : goal.put_classes-requires
put_classes-requires c = classes_stay c.args.changes c.args.rooms c.args.table.now c.raise_pools.new.table
    (subst (λ rooms. Risen rooms c.args.table.now c.raise_pools.new.table) c.as_slice.ensures c.raise_pools.ensures) c.requires.classes

pub commit_all-requires : goal.commit_all-requires
commit_all-requires c = nodes_stay c.args.changes c.raise_pools.new.table c.put_classes.new.table c.put_classes.ensures.nodes
    (nodes_stay c.args.changes c.args.table.now c.raise_pools.new.table
    (nodes_kept c.args.changes c.args.rooms c.args.table.now c.raise_pools.new.table
    (subst (λ rooms. Risen rooms c.args.table.now c.raise_pools.new.table) c.as_slice.ensures c.raise_pools.ensures)) c.requires.nodes)

pub returns : goal.returns
returns c = pools_are c.args.changes c.args.rooms c.args.table.now c.raise_pools.new.table
    (subst (λ rooms. Risen rooms c.args.table.now c.raise_pools.new.table) c.as_slice.ensures c.raise_pools.ensures)
    c.put_classes.new.table c.commit_all.new.table c.put_classes.ensures.pools c.commit_all.ensures
