use Rattle.std.proofs.Common.{◌∙◌}
use Rattle.std.proofs.lemmas.Result.{on_ok_weaker}
use Rattle.ns_settlement.proofs.Whole.{nodes_stay, rise_stays}
use Rattle.ns_settlement.proofs.commit.pools.reserve_pools.Goals as goal

pub returns-clause-room : goal.returns-clause-room
returns-clause-room c = on_ok_weaker c.reserve_classes.result (λ classes. record {
  nodes = nodes_stay c.args.changes.now c.reserve_all.new.table c.reserve_classes.new.table c.reserve_classes.ensures.nodes
      c.in_ok-reserve_all.ensures.room;
  classes = classes;
  numbers = rise_stays c.args.rooms.now c.args.table.now c.reserve_classes.new.table (c.reserve_classes.ensures.pools ∙ c.reserve_all.ensures.rows)
      c.requires;
}) c.reserve_classes.ensures.room
