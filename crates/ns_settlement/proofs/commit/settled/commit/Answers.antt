use Rattle.std.proofs.Common.{◌∙◌, ap}
use Rattle.ns_settlement.specs.Committed.{settled_quotas}
use Rattle.ns_settlement.specs.Owners.{owners}
use Rattle.ns_tables.specs.World.{quota_of}
use Rattle.ns_settlement.proofs.Whole.{index_is, settled_is}
use Rattle.ns_settlement.proofs.commit.settled.commit.Goals as goal

pub returns-clause-world : goal.returns-clause-world
returns-clause-world c = settled_is c.args.settled c.args.tables.now _ c.commit_all.ensures c.commit_pools.ensures
    (c.commit_quotas.ensures ∙ ap (λ names. settled_quotas c.args.settled.quotas names (owners quota_of c.args.tables.now.quotas)) c.as_slice.ensures)
    c.commit_list.ensures c.commit_list-2.ensures c.commit_list-3.ensures

pub returns-clause-index : goal.returns-clause-index
returns-clause-index c = index_is c.args.settled c.args.tables.now _ c.args.live.now c.commit_index.new.live _ c.commit_all.ensures c.commit_pools.ensures
    c.commit_index.ensures.index c.commit_index.ensures.shown c.commit_index.ensures.quotas c.forget_nodes.ensures.keys c.forget_nodes.ensures.shown
    c.forget_nodes.ensures.names
