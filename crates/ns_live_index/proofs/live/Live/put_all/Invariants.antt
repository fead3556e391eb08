use Rattle.std.proofs.Common.{drop, take}
use Rattle.std.specs.Option.{option_copied}
use Rattle.ns_live_index.specs.Shown.{HidesRow}
use Rattle.ns_live_index.proofs.Changing.{IsChanging}
use Rattle.ns_live_index.proofs.live.Live.put_all.Given as goal

abbrev pub invariant-loop-slot : goal.invariant-loop-slot
invariant-loop-slot l = IsChanging l.namespace l.table l.initial.self l.self (take l.slot-index l.slot-items) (drop l.slot-index l.slot-items)
    × HidesRow (option_copied l.last) l.self.shown
