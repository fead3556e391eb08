-- Laws of the snapshots from which a plan can be computed.
use Rattle.std.specs.Prelude.{◌≡◌, ℕ, IsTrue, Some}
use Rattle.std.specs.FinMap.{get}
use Rattle.ns_types.specs.declared.snapshot.Snapshot.{Snapshot}
use Rattle.ns_types.specs.Working.Worker.{Worker}
use Rattle.ns_types.specs.State.Names.{Name}
use Rattle.ns_types.specs.State.Rows.{State, Tenant}
use Rattle.ns_types.specs.Validity.{IsValid}
use Rattle.ns_schedule.specs.Fits.{fits}

-- A plan can be computed from each snapshot that a worker keeps in a valid state.
abbrev pub KeptFits : Type 0
KeptFits = (s : State) (ns : Name) (t : Tenant) (number : ℕ) (worker : Worker) (kept : Snapshot) → IsValid s →
    get s.world.tenants ns ≡ Some t → get t.workers number ≡ Some worker → worker.kept ≡ Some kept → IsTrue (fits kept)
