use Rattle.std.proofs.Common.{drop, refl}
use Rattle.std.specs.Prelude.{option_map}
use Rattle.keyed.specs.Table.{row_at}
use Rattle.ns_types.specs.State.Names.{has_name}
use Rattle.ns_settlement.specs.Committed.{raised_quota}
use Rattle.ns_settlement.proofs.Raised.{Left}
use Rattle.ns_settlement.proofs.commit.quotas.raise_quotas.Given as goal

abbrev pub invariant-loop-i : goal.invariant-loop-i
invariant-loop-i l = Left (λ name. name) raised_quota (λ quota. quota.release) (λ quota. refl) l.table (drop l.i l.released)
    (λ name. option_map (raised_quota (has_name l.released name)) (row_at l.initial.table name))
