use Rattle.std.proofs.Common.{ap, sym, ◌∙◌}
use Rattle.std.specs.Option.{option_copied}
use Rattle.keyed.proofs.Levels.{none_there, row_written}
use Rattle.keyed.proofs.Tables.{slot_made}
use Rattle.ns_types.proofs.Named.{numbers}
use Rattle.ns_queues.proofs.Leveled.{others_made, same_made}
use Rattle.ns_queues.proofs.levels.open.Goals as goal

pub set-requires : goal.set-requires
set-requires c = slot_made numbers _ _ _ c.in_ok-reserve.ensures.ok

pub returns-in_ok-reserve-clause-same : goal.returns-in_ok-reserve-clause-same
returns-in_ok-reserve-clause-same c = same_made c.args.levels.now _ _ c.args.priority c.new.result c.in_ok-reserve.ensures.ok c.set.ensures
    (sym c.get.ensures ∙ ap option_copied (none_there c.get.result c.if-is_none.ensures)) c.new.ensures

pub returns-in_ok-reserve-clause-others : goal.returns-in_ok-reserve-clause-others
returns-in_ok-reserve-clause-others c = others_made c.args.levels.now _ _ c.args.priority c.new.result c.in_ok-reserve.ensures.ok c.set.ensures

pub returns-in_ok-reserve-clause-ok : goal.returns-in_ok-reserve-clause-ok
returns-in_ok-reserve-clause-ok c = row_written numbers _ _ _ _ c.set.ensures
