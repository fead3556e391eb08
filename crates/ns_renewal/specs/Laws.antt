-- Laws of the words that the contracts use.
use Rattle.std.specs.Prelude.{◌≡◌, ℕ, false, List, map}
use Rattle.ns_types.specs.declared.plan.Eviction.{Eviction}
use Rattle.ns_types.specs.declared.plan.Placement.{Placement}
use Rattle.ns_types.specs.declared.snapshot.Snapshot.{Snapshot}
use Rattle.ns_types.specs.State.Names.{Name}
use Rattle.ns_types.specs.State.Rows.{World}
use Rattle.ns_types.specs.Working.Commit.{Victim, evicted_rows, make_up, stop_all, victim_key, victim_keys, victims_of}
use Rattle.ns_renewal.specs.Losing.{CanMakeUp, numbers_pass, victims_at}
use Rattle.ns_renewal.specs.Renewing.{SameJobs, SameNumbers}

-- if no number passes its bound before the step, and no evaluation was made since, each namespace has the numbers it needs
abbrev pub NumbersSuffice : Type 0
NumbersSuffice = (victims : List Victim) (w x : World) → numbers_pass victims w ≡ false → SameNumbers w x → CanMakeUp victims x

-- evictions that name each allocation once make the same evaluations as evictions that name some of them again
abbrev pub OnceIsEnough : Type 0
OnceIsEnough = (w x : World) (evictions each : List Eviction) → map victim_key each ≡ victim_keys evictions → SameJobs w x →
    make_up (victims_at w each) x ≡ make_up (victims_at w evictions) x

-- evictions that name each allocation once need no more numbers than evictions that name some of them again
abbrev pub OnceNeedsNoMore : Type 0
OnceNeedsNoMore = (w x : World) (evictions each : List Eviction) → map victim_key each ≡ victim_keys evictions →
    CanMakeUp (victims_at w evictions) x → CanMakeUp (victims_at w each) x

-- the evictions that count after some stops are of allocations whose rows are as they were before the stops
abbrev pub RowsBeforeStops : Type 0
RowsBeforeStops = (w : World) (ns : Name) (stops : List ℕ) (kept : Snapshot) (placed : List Placement) →
    let stopped = stop_all ns stops w in
    evicted_rows stopped kept placed ≡ victims_at w (victims_of stopped kept placed)
