use Rattle.std.specs.Prelude.{◌≡◌, ◌+◌, List}
use Rattle.std.proofs.Common.{arith, refl, subst}
use Rattle.keyed.proofs.Levels.{keeps_same, keeps_then}
use Rattle.keyed.proofs.Mapped.{take_all}
use Rattle.ns_blocked.specs.declared.entry.BlockedEvaluation.{BlockedEvaluation}
use Rattle.ns_blocked.specs.Groups.{HasGroupRoom, has_waiting_room, holds_waiting}
use Rattle.ns_blocked.proofs.Rooms.{reserved_next}
use Rattle.ns_blocked.proofs.groups.Groups.reserve_from.Goals as goal

pub loop-entry-init : goal.loop-entry-init
loop-entry-init c = (omega arith, keeps_same holds_waiting has_waiting_room c.args.self.now c.args.self.now refl, tt)

pub returns-in_err-reserve-clause-same : goal.returns-in_err-reserve-clause-same
returns-in_err-reserve-clause-same c = keeps_then holds_waiting has_waiting_room _ _ _ c.loop-entry.invariant.1 c.reserve.ensures.same

pub loop-entry-preserved : goal.loop-entry-preserved
loop-entry-preserved c =
    let at : c.loop-entry.place ≡ c.args.first + c.loop-entry.entry-index = c.loop-entry.invariant.0 in (
      omega arith,
      keeps_then holds_waiting has_waiting_room _ _ _ c.loop-entry.invariant.1 c.reserve.ensures.same,
      reserved_next c.loop-entry.self c.reserve.new.self c.args.first c.loop-entry.entry-index c.loop-entry.place c.args.entries.now
          c.entry-item.result c.loop-entry-test.true c.entry-item.is at c.reserve.ensures.same c.in_ok-reserve.ensures.ok c.loop-entry.invariant.2,
    )

pub returns-clause-ok : goal.returns-clause-ok
returns-clause-ok c = subst (λ (es : List BlockedEvaluation). HasGroupRoom c.args.first es c.loop-entry.self)
    (take_all c.args.entries.now c.loop-entry.entry-index c.loop-entry-test.false) c.loop-entry.invariant.2
