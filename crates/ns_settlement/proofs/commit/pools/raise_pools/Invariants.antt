use Rattle.std.proofs.Common.{drop, refl}
use Rattle.std.specs.Prelude.{option_map}
use Rattle.keyed.specs.Table.{row_at}
use Rattle.ns_settlement.specs.Committed.{raised_pool, releases}
use Rattle.ns_settlement.proofs.Raised.{Left}
use Rattle.ns_settlement.proofs.commit.pools.raise_pools.Given as goal

abbrev pub invariant-loop-i : goal.invariant-loop-i
invariant-loop-i l = Left (λ room. room.0) raised_pool (λ pool. pool.release) (λ pool. refl) l.table (drop l.i l.rooms)
    (λ name. option_map (raised_pool (releases l.rooms name)) (row_at l.initial.table name))
