use Rattle.std.proofs.Common.{ap, sym, ◌∙◌}
use Rattle.std.specs.Option.{option_copied}
use Rattle.keyed.proofs.Tables.{slot_made}
use Rattle.keyed.proofs.Levels.{none_there, row_written}
use Rattle.ns_types.proofs.Named.{names}
use Rattle.ns_live_index.proofs.Showing.{opened, slotted}
use Rattle.ns_live_index.proofs.shown.ShownNodes.open.Goals as goal

pub set-requires : goal.set-requires
set-requires c = slot_made names _ _ _ c.in_ok-reserve.ensures.ok

pub returns-then-is_none-clause-same : goal.returns-then-is_none-clause-same
returns-then-is_none-clause-same c = opened c.args.pool.now c.args.self.now (record { pools = c.reserve.new.self }) _ c.in_ok-reserve.ensures.ok
    (sym c.get.ensures ∙ ap option_copied (none_there c.get.result c.if-is_none.ensures)) c.new.result c.new.ensures c.set.ensures

pub returns-then-is_none-clause-ok : goal.returns-then-is_none-clause-ok
returns-then-is_none-clause-ok c = row_written names _ _ _ _ c.set.ensures

pub returns-else-is_none-clause-same : goal.returns-else-is_none-clause-same
returns-else-is_none-clause-same c = slotted c.args.pool.now c.args.self.now _ c.in_ok-reserve.ensures.ok
