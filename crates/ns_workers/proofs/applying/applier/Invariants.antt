use Rattle.std.specs.Prelude.{◌≡◌, IsNone}
use Rattle.ns_workers.proofs.applying.applier.Given as goal
use Rattle.ns_workers.specs.Growing.{Grows, IsApply}
use Rattle.ns_workers.specs.Keeping.{TakesSome}

abbrev pub invariant-loop : goal.invariant-loop
invariant-loop g l = Grows IsApply l.fn.seat l.seat
    × TakesSome g.K.Keep.takes l.fn.keeper l.keeper
    × (IsNone l.fn.shared.rotates_at → l.keeper ≡ l.fn.keeper)
