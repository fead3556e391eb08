use Rattle.std.proofs.Common.{ap, refl, sym, ◌∙◌}
use Rattle.std.specs.Option.{option_copied_mut}
use Rattle.keyed.proofs.Levels.{keeps_at, keeps_same, keeps_then, room_here}
use Rattle.keyed.proofs.Tables.{slot_made}
use Rattle.ns_types.proofs.Named.{names}
use Rattle.ns_live_index.specs.declared.naming.QuotaNames.{QuotaNames}
use Rattle.ns_live_index.specs.Naming.{has_name_room, has_room_at, holds_at, holds_name}
use Rattle.ns_live_index.proofs.QuotaLevels.{name_room}
use Rattle.ns_live_index.proofs.Totals.{totals_kept}
use Rattle.ns_live_index.proofs.naming.QuotaNames.reserve_at.Goals as goal

pub returns-in_err-reserve-clause-same : goal.returns-in_err-reserve-clause-same
returns-in_err-reserve-clause-same c = keeps_then holds_at has_room_at _ _ _ c.open.ensures.same
    (keeps_at (λ (s : QuotaNames). s.quotas) holds_name has_name_room c.open.new.self _ c.args.quota.now c.in-Some.held.now
    (record c.in-Some.held.now { names = c.reserve.new.self })
    (sym c.get_mut.ensures.value ∙ ap option_copied_mut c.in-Some.is) refl
    (keeps_same holds_name has_name_room c.in-Some.held.now (record c.in-Some.held.now { names = c.reserve.new.self })
    (ap (λ m. record c.in-Some.held.now { names = m }) c.in_err-reserve.ensures.err)))

pub returns-in_ok-reserve-clause-same : goal.returns-in_ok-reserve-clause-same
returns-in_ok-reserve-clause-same c = keeps_then holds_at has_room_at _ _ _ c.open.ensures.same
    (keeps_at (λ (s : QuotaNames). s.quotas) holds_name has_name_room c.open.new.self _ c.args.quota.now c.in-Some.held.now
    (record c.in-Some.held.now { names = c.reserve.new.self })
    (sym c.get_mut.ensures.value ∙ ap option_copied_mut c.in-Some.is) refl
    (name_room c.in-Some.held.now (record c.in-Some.held.now { names = c.reserve.new.self }) c.args.namespace.now c.in_ok-reserve.ensures.ok))

pub returns-in_ok-reserve-clause-ok : goal.returns-in_ok-reserve-clause-ok
returns-in_ok-reserve-clause-ok c = room_here (λ (s : QuotaNames). s.quotas) holds_name has_name_room c.open.new.self _ c.args.quota.now
    c.in-Some.held.now (record c.in-Some.held.now { names = c.reserve.new.self })
    (sym c.get_mut.ensures.value ∙ ap option_copied_mut c.in-Some.is) refl c.args.namespace.now
    (slot_made names _ _ _ c.in_ok-reserve.ensures.ok)

pub returns-in_err-reserve-clause-totals : goal.returns-in_err-reserve-clause-totals
returns-in_err-reserve-clause-totals c quota = totals_kept c.open.new.self _ c.args.quota.now c.in-Some.held.now
    (record c.in-Some.held.now { names = c.reserve.new.self }) (sym c.get_mut.ensures.value ∙ ap option_copied_mut c.in-Some.is) refl refl quota
    ∙ c.open.ensures.totals quota

pub returns-in_ok-reserve-clause-totals : goal.returns-in_ok-reserve-clause-totals
returns-in_ok-reserve-clause-totals c quota = totals_kept c.open.new.self _ c.args.quota.now c.in-Some.held.now
    (record c.in-Some.held.now { names = c.reserve.new.self }) (sym c.get_mut.ensures.value ∙ ap option_copied_mut c.in-Some.is) refl refl quota
    ∙ c.open.ensures.totals quota
