use Rattle.std.proofs.Common.{ap, sym, ◌∙◌}
use Rattle.std.specs.Option.{option_copied}
use Rattle.keyed.proofs.Levels.{none_there, row_written}
use Rattle.keyed.proofs.Tables.{slot_made}
use Rattle.ns_queues.proofs.BusyNames.{opened, slot_only}
use Rattle.ns_types.proofs.Named.{numbers}
use Rattle.ns_queues.proofs.busy.BusyWorkers.open.Goals as goal

pub set-requires : goal.set-requires
set-requires c = slot_made numbers _ _ _ c.in_ok-reserve.ensures.ok

pub returns-then-is_none-clause-same : goal.returns-then-is_none-clause-same
returns-then-is_none-clause-same c = opened c.args.self.now _ c.args.number (record { workers = c.reserve.new.self }) _ c.in_ok-reserve.ensures.ok
    (sym c.get.ensures ∙ ap option_copied (none_there c.get.result c.if-is_none.ensures)) c.new.ensures c.set.ensures

pub returns-then-is_none-clause-ok : goal.returns-then-is_none-clause-ok
returns-then-is_none-clause-ok c = row_written numbers _ _ _ _ c.set.ensures

pub returns-else-is_none-clause-same : goal.returns-else-is_none-clause-same
returns-else-is_none-clause-same c = slot_only c.args.self.now _ c.args.number c.in_ok-reserve.ensures.ok
