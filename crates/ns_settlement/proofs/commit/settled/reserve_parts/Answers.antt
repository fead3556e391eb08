use Rattle.std.proofs.Common.{refl, sym, subst}
use Rattle.ns_settlement.specs.Committed.{CanRise, HavePoolRoom, releases}
use Rattle.std.proofs.lemmas.Result.{on_ok_weaker}
use Rattle.ns_settlement.proofs.Whole.{can_publish, pools_rise, quotas_rise, same_world}
use Rattle.ns_settlement.proofs.commit.settled.reserve_parts.Goals as goal

pub reserve_all-requires : goal.reserve_all-requires
reserve_all-requires c = can_publish c.args.settled.now c.args.tables.now c.requires

pub returns-in_err-reserve_all-clause-world : goal.returns-in_err-reserve_all-clause-world
returns-in_err-reserve_all-clause-world c = same_world c.args.tables.now _ c.reserve_all.ensures.rows refl refl refl refl refl

pub reserve_pools-requires : goal.reserve_pools-requires
reserve_pools-requires c = subst (λ rooms. CanRise (λ pool. pool.release) (releases rooms) c.args.tables.now.pools) (sym c.as_slice.ensures)
    (pools_rise c.args.settled.now c.args.tables.now c.requires)

pub returns-in_err-reserve_pools-clause-world : goal.returns-in_err-reserve_pools-clause-world
returns-in_err-reserve_pools-clause-world c = same_world c.args.tables.now _ c.reserve_all.ensures.rows c.reserve_pools.ensures.pools refl refl refl refl

pub returns-in_err-reserve_list-clause-world : goal.returns-in_err-reserve_list-clause-world
returns-in_err-reserve_list-clause-world c = same_world c.args.tables.now _ c.reserve_all.ensures.rows c.reserve_pools.ensures.pools refl
    c.reserve_list.ensures.items refl refl

pub returns-in_err-reserve_list-2-clause-world : goal.returns-in_err-reserve_list-2-clause-world
returns-in_err-reserve_list-2-clause-world c = same_world c.args.tables.now _ c.reserve_all.ensures.rows c.reserve_pools.ensures.pools refl
    c.reserve_list.ensures.items c.reserve_list-2.ensures.items refl

pub returns-clause-world : goal.returns-clause-world
returns-clause-world c = same_world c.args.tables.now _ c.reserve_all.ensures.rows c.reserve_pools.ensures.pools refl
    c.reserve_list.ensures.items c.reserve_list-2.ensures.items c.reserve_list-3.ensures.items

pub returns-clause-room : goal.returns-clause-room
returns-clause-room c = on_ok_weaker c.reserve_list-3.result (λ blocked. record {
  tenants = c.in_ok-reserve_all.ensures.room;
  pools = subst (λ rooms. HavePoolRoom c.args.settled.now.pools rooms c.reserve_pools.new.table) c.as_slice.ensures c.in_ok-reserve_pools.ensures.room;
  quotas = quotas_rise c.args.settled.now c.args.tables.now c.requires;
  ready = c.in_ok-reserve_list.ensures.room;
  plans = c.in_ok-reserve_list-2.ensures.room;
  blocked = blocked;
}) c.reserve_list-3.ensures.room
