use denote.Exit as Exit
use denote.Param.{param}
use denote.Param.Send.{IsSync, arg_sync, param_sync, sendable}
use Rattle.std.proofs.Crossing.{crosses, sync}
use Rattle.std.specs.contracts.alloc.Global as Global
use Rattle.ns_tests.specs.contracts.running.full.Dam as Dam
use Rattle.ns_work_lock.specs.contracts.shared.Shared as Shared
use Rattle.ns_work_lock.proofs.Crossing.{Shared-sync}
use Rattle.ns_tests.proofs.Crossing.{four-sync}
use Rattle.ns_tests.proofs.running.full.performed.Goals as goal

Dam-sync : IsSync Dam.the_row
Dam-sync = search (sendable, crosses) depth 20

pub map_indices-counts-requires-sync-F : goal.map_indices-counts-requires-sync-F
map_indices-counts-requires-sync-F g c κs within =
    let L = param 0 g.row.L in
    let closure = four-sync _ _ _ _ _ _ _ _ _ (param 1 g.row.R) Global.the_row (Shared.the_row L g.L.Ledger) Dam.the_row in
    param_sync 3 _ (arg_sync _ Exit.no _ (closure (search sendable depth 6) sync (Shared-sync L g.L.Ledger) Dam-sync))
