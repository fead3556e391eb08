use Rattle.std.proofs.Common.{◌≡◌, ◌++◌, drop}
use Rattle.std.specs.Prelude.{flat_map}
use Rattle.ns_release.specs.Released.{ended_one, quota_left}
use Rattle.ns_tables.specs.World.{tenant_of}
use Rattle.ns_settlement.proofs.quotas.add_quotas.Given as goal

abbrev pub invariant-loop-slot : goal.invariant-loop-slot
invariant-loop-slot l = l.quotas ++ flat_map (λ s. flat_map (λ e. quota_left e.0) (ended_one (tenant_of l.tenant) s.0 s.1)) (drop l.slot-index l.slots)
    ≡ l.initial.quotas ++ flat_map (λ s. flat_map (λ e. quota_left e.0) (ended_one (tenant_of l.tenant) s.0 s.1)) l.slots
