use Rattle.std.proofs.Common.{ap, refl, sym, ◌∙◌}
use Rattle.std.specs.Option.{option_copied_mut}
use Rattle.keyed.proofs.Tables.{slot_made}
use Rattle.ns_queues.proofs.BusyNames.{keeps_then, name_reserved, names_same, room_here}
use Rattle.ns_types.proofs.Named.{names}
use Rattle.ns_queues.proofs.busy.BusyWorkers.reserve_name.Goals as goal

pub returns-in_err-reserve-clause-same : goal.returns-in_err-reserve-clause-same
returns-in_err-reserve-clause-same c = keeps_then _ _ _ c.open.ensures.same
    (names_same c.open.new.self _ c.args.number c.in-Some.names.now c.reserve.new.self
    (sym c.get_mut.ensures.value ∙ ap option_copied_mut c.in-Some.is) refl c.in_err-reserve.ensures.err)

pub returns-in_ok-reserve-clause-same : goal.returns-in_ok-reserve-clause-same
returns-in_ok-reserve-clause-same c = keeps_then _ _ _ c.open.ensures.same
    (name_reserved c.open.new.self _ c.args.number c.in-Some.names.now c.reserve.new.self
    (sym c.get_mut.ensures.value ∙ ap option_copied_mut c.in-Some.is) refl c.args.namespace.now c.in_ok-reserve.ensures.ok)

pub returns-in_ok-reserve-clause-ok : goal.returns-in_ok-reserve-clause-ok
returns-in_ok-reserve-clause-ok c = room_here c.open.new.self _ c.args.number c.in-Some.names.now c.reserve.new.self
    (sym c.get_mut.ensures.value ∙ ap option_copied_mut c.in-Some.is) refl c.args.namespace.now (slot_made names _ _ _ c.in_ok-reserve.ensures.ok)
