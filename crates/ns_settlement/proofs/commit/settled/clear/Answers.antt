use Rattle.std.proofs.Common.{refl}
use Rattle.ns_settlement.proofs.Whole.{same_world}
use Rattle.ns_settlement.proofs.commit.settled.clear.Goals as goal

pub returns-clause-world : goal.returns-clause-world
returns-clause-world c = same_world c.args.tables.now _ c.clear_all.ensures.rows c.clear_all-2.ensures.rows refl
    c.clear_list.ensures c.clear_list-2.ensures c.clear_list-3.ensures
