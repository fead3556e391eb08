use denote.Exit as Exit
use denote.Param.{param}
use denote.Param.Send.{arg_sync, param_sync, sendable}
use Rattle.std.proofs.Crossing.{sync}
use Rattle.std.specs.contracts.alloc.Global as Global
use Rattle.std.specs.contracts.sync.Barrier as Barrier
use Rattle.ns_work_lock.specs.contracts.shared.Shared as Shared
use Rattle.ns_work_lock.proofs.Crossing.{Shared-sync}
use Rattle.ns_tests.proofs.Crossing.{Barrier-sync, four-sync}
use Rattle.ns_tests.proofs.running.many.visited.Goals as goal

pub map_indices-seats-requires-sync-F : goal.map_indices-seats-requires-sync-F
map_indices-seats-requires-sync-F g c κs within =
    let L = param 0 g.row.L in
    let closure = four-sync _ _ _ _ _ _ _ _ _ (param 1 g.row.R) Global.the_row (Shared.the_row L g.L.Ledger) Barrier.the_row in
    param_sync 3 _ (arg_sync _ Exit.no _ (closure (search sendable depth 6) sync (Shared-sync L g.L.Ledger) Barrier-sync))
