use Rattle.std.proofs.Common.{◌≡◌, drop}
use Rattle.std.specs.List.{list_any}
use Rattle.ns_change.specs.Queued.{is_of}
use Rattle.ns_change.proofs.queueing.is_among.Given as goal

abbrev pub invariant-loop-key : goal.invariant-loop-key
invariant-loop-key l =
    let passes = is_of l.tables l.change l.namespace l.job in
    list_any passes (drop l.key-index l.keys) ≡ list_any passes l.keys
