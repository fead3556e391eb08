-- The plan of a snapshot by its parts.
use Rattle.std.specs.Prelude.{◌≡◌, ℕ, List, map}
use Rattle.std.proofs.Common.{refl}
use Rattle.ns_types.specs.declared.plan.Placing.{Placing}
use Rattle.ns_types.specs.declared.snapshot.OwnAllocation.{OwnAllocation}
use Rattle.ns_types.specs.declared.snapshot.Snapshot.{Snapshot}
use Rattle.ns_types.specs.Placing.Plan.{plan, placing_of}
use Rattle.ns_types.specs.Placing.Wanted.{stopping}

pub plan_is : (s : Snapshot) (stops : List OwnAllocation) (numbers : List ℕ) (placing : Placing) → stops ≡ stopping s.job s.own
    → numbers ≡ map (λ a. a.number) stops → placing ≡ placing_of s s.job stops
    → record { stops = numbers; placing = placing } ≡ plan s
unfolding plan
plan_is s stops numbers placing is numbers_is placing_is = rw (placing_is, numbers_is, is) refl
